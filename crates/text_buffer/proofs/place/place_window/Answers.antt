use Rattle.std.proofs.Common.{take-add}
use Rattle.std.proofs.lemmas.List.{take_rest}
use Rattle.text_buffer.proofs.Placing.{placed_then}
use Rattle.text_buffer.proofs.place.place_window.Goals as goal

pub returns : goal.returns
returns c =
    let bytes = c.args.bytes.now in
    rw (take-add 16 8 bytes) (placed_then c.place_front-mid.ensures (rw (take_rest bytes 16) at c.place_front.ensures))
