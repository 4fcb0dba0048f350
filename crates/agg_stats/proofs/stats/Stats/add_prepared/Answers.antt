use Rattle.std.proofs.Common.{◌∙◌, refl, subst, sym}
use Rattle.agg_stats.specs.Kept.{IsReady, StandsFor}
use Rattle.agg_stats.specs.StatsView.{memory_of}
use Rattle.agg_stats.proofs.MemberLemmas.{ready_added}
use Rattle.agg_stats.proofs.stats.Stats.add_prepared.Goals as goal

pub returns-in-Some : goal.returns-in-Some
returns-in-Some c = λ kind members m stands ready few.
    ready_added kind members m (memory_of c.self.inside) _ c.in-Some.ready
    (subst (StandsFor kind members) (sym c.self.view_is) stands) (subst (IsReady m) (sym c.self.view_is) ready) few
    (sym c.take.ensures.value ∙ c.in-Some.is) refl refl c.add.ensures.known c.add.ensures.new
