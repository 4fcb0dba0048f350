use Rattle.line_proto.proofs.Takes as lemmas
use Rattle.line_proto.proofs.laws.written_is_read.Goals as goal

pub returns : goal.returns
returns c = lemmas.written_is_read
