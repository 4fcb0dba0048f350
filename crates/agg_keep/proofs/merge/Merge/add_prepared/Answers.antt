use Rattle.std.proofs.Common.{◌∙◌, subst, sym}
use Rattle.agg_keep.specs.MergeKept.{IsMergeReady, MergeStandsFor}
use Rattle.agg_keep.specs.MergeView.{merge_memory}
use Rattle.agg_keep.proofs.MergeLemmas.{ready_added}
use Rattle.agg_keep.proofs.merge.Merge.add_prepared.Goals as goal

pub returns-in-Some : goal.returns-in-Some
returns-in-Some c = λ members m stands ready.
    ready_added members m (merge_memory c.self.inside) _ c.in-Some.ready
    (subst (MergeStandsFor members) (sym c.self.view_is) stands) (subst (IsMergeReady m) (sym c.self.view_is) ready)
    (sym c.take.ensures.value ∙ c.in-Some.is) c.put.ensures.kept c.put.ensures.order
