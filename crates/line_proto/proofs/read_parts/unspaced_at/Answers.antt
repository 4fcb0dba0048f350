use Rattle.std.proofs.Common.{◌≡◌, ◌∙◌, length, drop, take, ap, refl}
use Rattle.std.specs.Prelude.{◌==◌}
use Rattle.std.specs.List.{position_or_len}
use Rattle.std.proofs.lemmas.List.{length-take-le}
use Rattle.text_parts.proofs.Spans.{position_or_len_le}
use Rattle.line_proto.specs.Reading.{time_len}
use Rattle.line_proto.proofs.read_parts.unspaced_at.Goals as goal

pub returns-clause-len : goal.returns-clause-len
returns-clause-len c =
    let len = c.first_space.ensures.value ∙ ap (position_or_len (λ b. b == 32)) c.split_at.ensures.back in
    let cut : c.split_at-2.result.0.now ≡ take (time_len c.args.piece.now c.args.i) (drop c.args.i c.args.piece.now) =
    c.split_at-2.ensures.front ∙ rw (len, c.split_at.ensures.back) refl in
    ap length cut ∙ length-take-le (time_len c.args.piece.now c.args.i) (drop c.args.i c.args.piece.now)
    (position_or_len_le (λ b. b == 32) (drop c.args.i c.args.piece.now))
