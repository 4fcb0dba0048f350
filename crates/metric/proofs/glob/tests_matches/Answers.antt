use Rattle.metric.proofs.GlobLemmas.{tests}
use Rattle.metric.proofs.glob.tests_matches.Goals as goal

pub returns : goal.returns
returns c = tests
