use Rattle.std.proofs.Common.{◌∙◌, ap, subst, sym}
use Rattle.std.specs.List.{flat_map}
use Rattle.agg_keep.specs.MergeKept.{made_at, MergeStandsFor}
use Rattle.agg_keep.specs.MergeView.{merge_memory}
use Rattle.agg_keep.proofs.MergeLemmas.{made_is}
use Rattle.agg_keep.proofs.merge.Merge.made.Goals as goal

pub returns : goal.returns
returns c = λ members stands.
    c.in_ok-made.ensures ∙ ap (flat_map (made_at c.self.inside.kept.entries)) c.as_slice-order.ensures.value
    ∙ made_is members (merge_memory c.self.inside) (subst (MergeStandsFor members) (sym c.self.view_is) stands)
