use Rattle.line_proto.proofs.Parts.{at_text}
use Rattle.line_proto.proofs.read.fields_start.Goals as goal

pub returns-clause-boundary : goal.returns-clause-boundary
returns-clause-boundary c = at_text c.args.piece.now c.as_bytes.result.now c.args.i c.behind_spaces-start.result
    c.as_bytes.ensures.value c.utf8.piece c.requires c.behind_spaces-start.ensures.boundary
