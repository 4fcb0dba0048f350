use Rattle.openmetrics_text.proofs.PassingLemmas as lemmas
use Rattle.openmetrics_text.proofs.laws.in_range_is_same.Goals as goal

pub returns : goal.returns
returns c = lemmas.in_range_is_same
