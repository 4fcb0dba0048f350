use Rattle.std.proofs.Common.{refl, subst, sym}
use Rattle.agg_keep.specs.FinalKept.{FinalStandsFor}
use Rattle.agg_keep.specs.FinalView.{final_memory}
use Rattle.agg_keep.proofs.FinalLemmas.{still_stands}
use Rattle.agg_keep.proofs.finals.Final.prepare.Goals as goal

pub returns-in_err-of-clause-stands : goal.returns-in_err-of-clause-stands
returns-in_err-of-clause-stands c = λ timeout members stands.
    still_stands timeout members (final_memory c.self.inside) _
    (subst (FinalStandsFor timeout members) (sym c.self.view_is) stands) refl c.make_room.ensures.same
    c.reserve.ensures.items

pub returns-clause-stands : goal.returns-clause-stands
returns-clause-stands c = λ timeout members stands.
    still_stands timeout members (final_memory c.self.inside) _
    (subst (FinalStandsFor timeout members) (sym c.self.view_is) stands) refl c.make_room.ensures.same
    c.reserve.ensures.items
