use Rattle.line_proto.proofs.ReadBack as lemmas
use Rattle.line_proto.proofs.laws.metric_is_read_back.Goals as goal

pub returns : goal.returns
returns c = lemmas.is_read_back
