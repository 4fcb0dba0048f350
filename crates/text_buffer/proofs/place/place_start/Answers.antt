use Rattle.std.proofs.Common.{◌++◌, ◌∙◌, take, arith, ap, take-take, length-take-le}
use Rattle.text_buffer.proofs.Placing.{placed_less}
use Rattle.text_buffer.proofs.place.place_start.Goals as goal

pub returns : goal.returns
returns c =
    let bytes = c.args.bytes.now in
    let written = length-take-le 24 bytes c.requires.written.0 in
    record {
      bytes = placed_less c.args.count (omega (arith, c.requires.written.1))
          (omega (arith, written, c.requires.count)) c.place_window.ensures
          ∙ ap (λ row. take c.args.at c.args.cells.now ++ row) (take-take c.args.count 24 bytes c.requires.count);
      end_at = omega (arith, length-take-le c.args.count bytes (omega (arith, c.requires.count, c.requires.written.0)));
      cells = c.place_window.ensures.cells;
    }
