use Rattle.std.proofs.Common.{◌≡◌, length, take, arith, length-take-le}
use Rattle.std.proofs.lemmas.Simd.{take_more_put_chunk, length-put_chunk}
use Rattle.text_buffer.proofs.place.place_front.Goals as goal

pub returns : goal.returns
returns g c =
    let cells = c.args.cells.now in
    let front = take g.row.N c.args.bytes.now in
    let long : length front ≡ g.row.N = length-take-le g.row.N c.args.bytes.now c.requires.0 in
    record {
      bytes = take_more_put_chunk c.args.at cells front _ (omega (arith, long)) c.requires.1;
      end_at = omega (arith, long);
      cells = length-put_chunk c.args.at cells front;
    }
