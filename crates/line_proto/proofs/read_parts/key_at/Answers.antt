use Rattle.line_proto.proofs.Parts.{byte_boundary}
use Rattle.std.proofs.Common.{◌∙◌, sym, arith}
use Rattle.line_proto.proofs.read_parts.key_at.Goals as goal

pub returns-clause-behind : goal.returns-clause-behind
returns-clause-behind c =
    byte_boundary c.args.piece.now c.as_bytes.result.now c.key_span-key.result.end 61 c.as_bytes.ensures.value
    (omega arith) (omega arith) c.utf8.piece
    (sym c.equals_at.ensures ∙ c.if-not-equals_at.false)
