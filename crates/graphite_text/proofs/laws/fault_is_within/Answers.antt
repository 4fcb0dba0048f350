use Rattle.graphite_text.proofs.Telling as lemmas
use Rattle.graphite_text.proofs.laws.fault_is_within.Goals as goal

pub returns : goal.returns
returns c = lemmas.fault_is_within
