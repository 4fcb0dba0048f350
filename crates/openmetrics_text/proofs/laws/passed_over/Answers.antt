use Rattle.openmetrics_text.proofs.PassingLemmas as lemmas
use Rattle.openmetrics_text.proofs.laws.passed_over.Goals as goal

pub returns : goal.returns
returns c = lemmas.passed_over
