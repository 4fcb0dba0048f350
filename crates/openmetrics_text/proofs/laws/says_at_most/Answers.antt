use Rattle.openmetrics_text.proofs.MostLemmas as lemmas
use Rattle.openmetrics_text.proofs.laws.says_at_most.Goals as goal

pub returns : goal.returns
returns c = lemmas.says_at_most
