use Rattle.std.proofs.Common.{◌∙◌, ap}
use Rattle.text_parts.specs.Part.{Kind, text_at}
use Rattle.line_proto.proofs.Parts.{text_kind}
use Rattle.line_proto.proofs.read_value.text_of.Goals as goal

pub returns-then-span : goal.returns-then-span
returns-then-span c =
    c.in_ok-of_string.ensures ∙ c.in_ok-text.ensures
    ∙ ap (λ (k : Kind). text_at k c.args.piece.now c.args.span.now.start) text_kind
