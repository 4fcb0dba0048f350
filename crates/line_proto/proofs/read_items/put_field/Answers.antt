use Rattle.text_parts.proofs.Spans.{span_some}
use Rattle.line_proto.specs.Kinds.{key_part}
use Rattle.line_proto.proofs.read_items.put_field.Goals as goal

pub field-requires : goal.field-requires
field-requires c =
    rw (c.as_str.ensures.value, c.in_ok-key.ensures) (span_some key_part c.args.piece.now c.args.key.now c.requires.key
    c.requires.filled)
