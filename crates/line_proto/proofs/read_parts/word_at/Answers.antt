use Rattle.std.proofs.Common.{◌∙◌, ap, refl, drop}
use Rattle.std.specs.List.{position_or_len}
use Rattle.text_parts.proofs.Spans.{unhidden_part, unhidden_end, unhidden_rest_boundary}
use Rattle.line_proto.specs.Kinds.{value_part}
use Rattle.line_proto.proofs.Parts.{value_low}
use Rattle.line_proto.proofs.read_parts.word_at.Goals as goal

pub split_at-requires-2 : goal.split_at-requires-2
split_at-requires-2 c =
    let len = c.word_end.ensures.value ∙ ap (position_or_len value_part.ends)
    (c.as_bytes.ensures.value ∙ c.split_at.ensures.back) in
    rw (len, c.split_at.ensures.back) (unhidden_rest_boundary value_part (λ b. refl) value_low
    (drop c.args.i c.args.piece.now))

pub returns-clause-value : goal.returns-clause-value
returns-clause-value c =
    let len = c.word_end.ensures.value ∙ ap (position_or_len value_part.ends)
    (c.as_bytes.ensures.value ∙ c.split_at.ensures.back) in
    unhidden_part value_part (λ b. refl) c.args.piece.now c.split_at-2.result.0.now c.args.i
    (c.split_at-2.ensures.front ∙ rw (len, c.split_at.ensures.back) refl)

pub returns-clause-end : goal.returns-clause-end
returns-clause-end c =
    let len = c.word_end.ensures.value ∙ ap (position_or_len value_part.ends)
    (c.as_bytes.ensures.value ∙ c.split_at.ensures.back) in
    unhidden_end value_part (λ b. refl) value_low c.args.piece.now c.split_at-2.result.0.now c.args.i
    c.requires.boundary.0 (c.split_at-2.ensures.front ∙ rw (len, c.split_at.ensures.back) refl)
