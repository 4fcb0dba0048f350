use Rattle.std.proofs.Common.{◌≡◌, ◌∙◌, refl, subst, sym, List}
use Rattle.metric.specs.declared.metric.Content.{Content}
use Rattle.agg_keep.specs.MergeKept.{held_at, MergeMemory, MergeStandsFor}
use Rattle.agg_keep.specs.MergeView.{merge_memory}
use Rattle.agg_keep.specs.declared.spot.Spot.{Spot}
use Rattle.agg_keep.proofs.merge.Merge.prepare.Goals as goal

-- where the same is held in the same order, the members are the same
stays : (members : List Content) (old new : MergeMemory) → new.order ≡ old.order
    → ((spot : Spot) → held_at new.kept spot ≡ held_at old.kept spot) → MergeStandsFor members old
    → MergeStandsFor members new
stays members old new order held h = record { ordered = order ∙ h.ordered; each = λ spot. held spot ∙ h.each spot }

pub returns-in_err-make_room-clause-stands : goal.returns-in_err-make_room-clause-stands
returns-in_err-make_room-clause-stands c = λ members h.
    stays members (merge_memory c.self.inside) _ refl c.make_room.ensures.same
    (subst (MergeStandsFor members) (sym c.self.view_is) h)

pub returns-in_err-reserve-clause-stands : goal.returns-in_err-reserve-clause-stands
returns-in_err-reserve-clause-stands c = λ members h.
    stays members (merge_memory c.self.inside) _ c.reserve.ensures.items c.make_room.ensures.same
    (subst (MergeStandsFor members) (sym c.self.view_is) h)

pub returns-in_err-merged-clause-stands : goal.returns-in_err-merged-clause-stands
returns-in_err-merged-clause-stands c = λ members h.
    stays members (merge_memory c.self.inside) _ c.reserve.ensures.items c.make_room.ensures.same
    (subst (MergeStandsFor members) (sym c.self.view_is) h)

pub returns-in_err-of-clause-stands : goal.returns-in_err-of-clause-stands
returns-in_err-of-clause-stands c = λ members h.
    stays members (merge_memory c.self.inside) _ c.reserve.ensures.items c.make_room.ensures.same
    (subst (MergeStandsFor members) (sym c.self.view_is) h)

pub returns-clause-stands : goal.returns-clause-stands
returns-clause-stands c = λ members h.
    stays members (merge_memory c.self.inside) _ c.reserve.ensures.items c.make_room.ensures.same
    (subst (MergeStandsFor members) (sym c.self.view_is) h)
