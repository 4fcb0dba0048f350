use Rattle.line_proto.proofs.Telling as lemmas
use Rattle.line_proto.proofs.laws.fault_says.Goals as goal

pub returns : goal.returns
returns c = lemmas.fault_says
