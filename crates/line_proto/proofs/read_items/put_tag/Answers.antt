use Rattle.std.proofs.Common.{◌≡◌, ◌∙◌, ap}
use Rattle.text_parts.specs.Part.{Kind, text_at}
use Rattle.text_parts.proofs.Spans.{span_some}
use Rattle.line_proto.specs.Kinds.{key_part, tag_value_part}
use Rattle.line_proto.proofs.Parts.{tag_value_kind}
use Rattle.line_proto.proofs.read_items.put_tag.Goals as goal

pub tag-requires : goal.tag-requires
tag-requires c =
    rw (c.as_str.ensures.value, c.in_ok-key.ensures) (span_some key_part c.args.piece.now c.args.key.now c.requires.key
    c.requires.filled)

pub returns-then-key-clause-ok : goal.returns-then-key-clause-ok
returns-then-key-clause-ok c =
    let key : c.as_str.result.now ≡ text_at key_part c.args.piece.now c.args.key.now.start =
    c.as_str.ensures.value ∙ c.in_ok-key.ensures in
    let value : c.as_str-then-key.result.now ≡ text_at tag_value_part c.args.piece.now c.args.value.now.start =
    c.as_str-then-key.ensures.value ∙ c.in_ok-value.ensures
    ∙ ap (λ (k : Kind). text_at k c.args.piece.now c.args.value.now.start) tag_value_kind in
    rw (key, value) at c.in_ok-tag.ensures.ok
