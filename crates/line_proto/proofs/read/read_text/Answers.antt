use Rattle.std.proofs.lemmas.Str.{IsCharBoundary-start}
use Rattle.line_proto.proofs.Parts.{at_text}
use Rattle.line_proto.proofs.read.read_text.Goals as goal

pub metric_at-requires : goal.metric_at-requires
metric_at-requires c = record {
  boundary = at_text c.args.piece.now c.as_bytes.result.now 0 c.behind_spaces-start.result
      c.as_bytes.ensures.value c.utf8.piece (IsCharBoundary-start c.args.piece.now c.utf8.piece)
      c.behind_spaces-start.ensures.boundary;
}
