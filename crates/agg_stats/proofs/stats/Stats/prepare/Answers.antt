use Rattle.std.proofs.Common.{refl, subst, sym}
use Rattle.agg_stats.specs.Kept.{StandsFor}
use Rattle.agg_stats.specs.StatsView.{memory_of}
use Rattle.agg_stats.proofs.MemberLemmas.{still_stands}
use Rattle.agg_stats.proofs.stats.Stats.prepare.Goals as goal

pub returns-in_err-ready-clause-stands : goal.returns-in_err-ready-clause-stands
returns-in_err-ready-clause-stands c = λ kind members stands.
    still_stands kind members (memory_of c.self.inside) _ refl c.make.ensures.seen c.make.ensures.indexed
    (subst (StandsFor kind members) (sym c.self.view_is) stands)

pub returns-clause-stands : goal.returns-clause-stands
returns-clause-stands c = λ kind members stands.
    still_stands kind members (memory_of c.self.inside) _ refl c.make.ensures.seen c.make.ensures.indexed
    (subst (StandsFor kind members) (sym c.self.view_is) stands)
