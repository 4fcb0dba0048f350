use Rattle.agg_keep.proofs.MergeLemmas.{none_held}
use Rattle.agg_keep.proofs.merge.Merge.forget.Goals as goal

pub returns : goal.returns
returns c = λ members stands. none_held _ c.clear.ensures.empty c.clear-2.ensures.items
