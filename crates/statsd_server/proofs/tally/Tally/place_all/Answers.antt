use Rattle.std.proofs.Common.{◌≡◌, ◌∙◌, ◌++◌, ◌∷◌, [], List, ap, append_assoc, arith, length, map, subst, sym}
use Rattle.std.proofs.lemmas.List.{map-append}
use Rattle.std.specs.List.{AllByRecursion}
use Rattle.std.specs.Vec.Iter.{into_iter_items}
use Rattle.statsd_server.specs.declared.part.Part.{Part}
use Rattle.statsd_server.specs.declared.placed.Placed.{Placed}
use Rattle.statsd_server.specs.Kept.{part_of, HasStayed, IsPlaced}
use Rattle.statsd_server.specs.TallyView.{memory_of}
use Rattle.statsd_server.proofs.KeepLemmas.{all_more, all_stay, stayed_both}
use Rattle.statsd_server.proofs.tally.Tally.place_all.Goals.{After-place}
use Rattle.statsd_server.proofs.tally.Tally.place_all.Goals as goal

stays : (c : After-place) → HasStayed (memory_of c.args.self.now) (memory_of c.place.new.self)
stays c = stayed_both (memory_of c.args.self.now) (memory_of c.loop-part.self) (memory_of c.place.new.self)
    c.loop-part.invariant.stays c.place.ensures.stays

pub returns-in_err-place-clause-stays : goal.returns-in_err-place-clause-stays
returns-in_err-place-clause-stays c = stays (goal.at.returns-in_err-place-clause-stays c).After-place

pub returns-in_err-push-clause-stays : goal.returns-in_err-push-clause-stays
returns-in_err-push-clause-stays c = stays (goal.at.returns-in_err-push-clause-stays c).After-place

pub loop-part-preserved : goal.loop-part-preserved
loop-part-preserved c =
    let l = c.loop-part in
    let old = l.all.items in
    let placed = c.in_ok-place.field-0 in
    let rest = into_iter_items c.next.new.self in
    let pushed = c.in_ok-push.ensures.items in
    let same : map part_of (old ++ placed ∷ []) ++ rest ≡ map part_of old ++ into_iter_items l.part-iterator =
    ap (λ (ms : List Part). ms ++ rest) (map-append part_of old (placed ∷ []))
    ∙ append_assoc (map part_of old) (placed.part ∷ []) rest
    ∙ ap (λ (m : Part). map part_of old ++ m ∷ rest) c.in_ok-place.ensures.part
    ∙ ap (λ (ms : List Part). map part_of old ++ ms) (sym c.in-Some.ensures.steps.0) in
    let order = ap (λ (list : _). length list) c.place.ensures.stays.order in
    let room = c.place.ensures.stays.room in
    record {
      stays = stays (goal.at.loop-part-preserved c).After-place;
      parts = ap (λ (all : List Placed). map part_of all ++ rest) pushed ∙ same ∙ l.invariant.parts;
      placed = subst (AllByRecursion (IsPlaced (memory_of c.place.new.self))) (sym pushed)
          (all_more (IsPlaced (memory_of c.place.new.self)) old placed
          (all_stay (IsPlaced (memory_of l.self)) (IsPlaced
          (memory_of c.place.new.self)) c.place.ensures.stays.placed old
          l.invariant.placed) c.in_ok-place.ensures.placed);
      space = omega (arith, order, room, l.invariant.space);
    }
