use Rattle.metric.proofs.SameLemmas.{same}
use Rattle.metric.proofs.metric.Metric.same_as.Goals as goal

pub returns : goal.returns
returns c = same _ _ _ c.eq.ensures
