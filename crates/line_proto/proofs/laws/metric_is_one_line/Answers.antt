use Rattle.line_proto.proofs.SingleLines as lemmas
use Rattle.line_proto.proofs.laws.metric_is_one_line.Goals as goal

pub returns : goal.returns
returns c = lemmas.is_one_line
