use Rattle.std.proofs.Common.{◌∙◌, sym, arith}
use Rattle.line_proto.proofs.Parts.{byte_boundary}
use Rattle.line_proto.proofs.read_value.value_at.Goals as goal

pub text_value_at-requires : goal.text_value_at-requires
text_value_at-requires c = record {
  boundary = byte_boundary c.args.piece.now c.as_bytes.result.now c.args.i 34 c.as_bytes.ensures.value (omega arith)
      (omega arith)
      c.utf8.piece (sym c.quote_at.ensures ∙ c.if-quote_at.true);
}
