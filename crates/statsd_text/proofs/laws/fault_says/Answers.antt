use Rattle.statsd_text.proofs.Telling as lemmas
use Rattle.statsd_text.proofs.laws.fault_says.Goals as goal

pub returns : goal.returns
returns c = lemmas.fault_says
