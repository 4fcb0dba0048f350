use Rattle.agg_keep.proofs.MergeLemmas.{none_held}
use Rattle.agg_keep.proofs.merge.Merge.new.Goals as goal

pub returns : goal.returns
returns c = none_held _ c.new.ensures.empty c.new-2.ensures.items
