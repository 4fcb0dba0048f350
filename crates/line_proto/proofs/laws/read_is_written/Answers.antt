use Rattle.line_proto.proofs.Again as lemmas
use Rattle.line_proto.proofs.laws.read_is_written.Goals as goal

pub returns : goal.returns
returns c = lemmas.read_is_written
