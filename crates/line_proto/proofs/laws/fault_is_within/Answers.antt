use Rattle.line_proto.proofs.Within as lemmas
use Rattle.line_proto.proofs.laws.fault_is_within.Goals as goal

pub returns : goal.returns
returns c = lemmas.fault_is_within
