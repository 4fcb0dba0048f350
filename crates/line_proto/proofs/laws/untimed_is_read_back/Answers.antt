use Rattle.line_proto.proofs.ReadBack as lemmas
use Rattle.line_proto.proofs.laws.untimed_is_read_back.Goals as goal

pub returns : goal.returns
returns c = lemmas.untimed_is_read_back
