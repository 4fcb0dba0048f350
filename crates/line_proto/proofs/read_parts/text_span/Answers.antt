use Rattle.std.proofs.Common.{subst}
use Rattle.text_parts.specs.Part.{Kind}
use Rattle.text_parts.specs.Span.{IsSpan}
use Rattle.line_proto.proofs.Parts.{text_kind}
use Rattle.line_proto.proofs.read_parts.text_span.Goals as goal

pub returns-clause-span : goal.returns-clause-span
returns-clause-span c = subst (λ (k : Kind). IsSpan k c.args.piece.now c.span_at.result) text_kind
    c.span_at.ensures.span
