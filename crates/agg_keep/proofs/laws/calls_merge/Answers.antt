use Rattle.agg_keep.proofs.MergeLawLemmas.{calls_merge}
use Rattle.agg_keep.proofs.laws.calls_merge.Goals as goal

pub returns : goal.returns
returns c = calls_merge
