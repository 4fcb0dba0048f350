use Rattle.std.proofs.Common.{◌∙◌, ap}
use Rattle.text_parts.specs.Part.{Kind, text_at}
use Rattle.line_proto.proofs.Parts.{name_kind}
use Rattle.line_proto.proofs.read_items.name_text.Goals as goal

pub returns-then-name-clause-text : goal.returns-then-name-clause-text
returns-then-name-clause-text c =
    c.in_ok-of.ensures ∙ c.as_str.ensures.value ∙ c.in_ok-name.ensures
    ∙ ap (λ (k : Kind). text_at k c.args.piece.now c.args.name.now.start) name_kind
