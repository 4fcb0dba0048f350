use Rattle.std.proofs.Common.{◌∙◌, refl, subst, sym}
use Rattle.agg_keep.specs.FinalKept.{FinalStandsFor, IsFinalReady}
use Rattle.agg_keep.specs.FinalView.{final_memory}
use Rattle.agg_keep.proofs.FinalLemmas.{ready_added}
use Rattle.agg_keep.proofs.finals.Final.add_prepared.Goals as goal

pub returns-in-Some : goal.returns-in-Some
returns-in-Some c = λ timeout members m stands ready.
    ready_added timeout members m c.in-Some.ready (final_memory c.self.inside) _
    (subst (FinalStandsFor timeout members) (sym c.self.view_is) stands)
    (subst (IsFinalReady m) (sym c.self.view_is) ready) (sym c.take.ensures.value ∙ c.in-Some.is) refl
    c.put.ensures.kept c.put.ensures.order
