use Rattle.agg_stats.proofs.LawLemmas.{calls_fold}
use Rattle.agg_stats.proofs.laws.calls_fold.Goals as goal

pub returns : goal.returns
returns c = calls_fold
