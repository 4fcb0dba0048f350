-- The ranges that legal events leave.
use Rattle.std.proofs.Common.{◌≡◌, ℕ, ◌+◌, ◌-◌, ◌<◌, ◌≤◌, max, Bool, true, false, List, [], ◌∷◌, ◌++◌, Option}
use Rattle.std.proofs.Common.{Some, None, refl, sym, ◌∙◌, ap, append_assoc, arith}
use Rattle.std.specs.Option.{option_to_list}
use Rattle.out_lane.specs.LaneEvents.{LaneEvent, Push, Begin, Done, Ranges, reached, ranges_after}
use Rattle.out_lane.specs.LaneEvents.{ranges_from, accepted_from, MeetsLane, AreLaneEvents}
use Rattle.out_lane.specs.LaneLaws.{no_ranges}

-- the open range: behind what is written, and not behind where the next one would begin
pub record OpenIn (limit pushed written_to : ℕ) (range : ℕ × ℕ) : Type 0 where
  pub some : range.0 < range.1
  pub behind : written_to ≤ range.0
  pub oldest : range.0 ≤ max written_to (pushed - limit)
  pub within : range.1 ≤ pushed

abbrev pub IsOpenIn : ℕ → ℕ → ℕ → Option (ℕ × ℕ) → Type 0
IsOpenIn limit pushed written_to None = Unit {0}
IsOpenIn limit pushed written_to (Some range) = OpenIn limit pushed written_to range

pub record Steady (limit : ℕ) (ranges : Ranges) : Type 0 where
  pub within : ranges.written_to ≤ ranges.pushed
  pub open_range : IsOpenIn limit ranges.pushed ranges.written_to ranges.begun

steady_push : (limit n w : ℕ) (o : Option (ℕ × ℕ)) → IsOpenIn limit n w o → IsOpenIn limit (n + 1) w o
steady_push limit n w None s = tt
steady_push limit n w (Some range) s = record {
  some = s.some;
  behind = s.behind;
  oldest = omega arith;
  within = omega arith;
}

reached_within : (ok : Bool) (limit n w : ℕ) (o : Option (ℕ × ℕ)) → w ≤ n → IsOpenIn limit n w o →
    reached ok w o ≤ n
reached_within true limit n w None h s = h
reached_within true limit n w (Some range) h s = s.within
reached_within false limit n w o h s = h

pub steady_after : (batch limit : ℕ) (r : Ranges) (e : LaneEvent) → 1 ≤ batch → MeetsLane batch limit r e →
    Steady limit r → Steady limit (ranges_after r e)
steady_after batch limit r Push b m s = record {
  within = omega arith;
  open_range = steady_push limit r.pushed r.written_to r.begun s.open_range;
}
steady_after batch limit r (Begin from to) b m s = record {
  within = s.within;
  open_range = record { some = omega arith; behind = omega arith; oldest = omega arith; within = omega arith };
}
steady_after batch limit r (Done ok) b m s = record {
  within = reached_within ok limit r.pushed r.written_to r.begun
      s.within s.open_range;
  open_range = tt;
}

pub steady_from : (batch limit : ℕ) (r : Ranges) (es : List LaneEvent) → 1 ≤ batch →
    AreLaneEvents batch limit r es → Steady limit r → Steady limit (ranges_from r es)
unfolding AreLaneEvents ranges_from
steady_from batch limit r [] b a s = s
steady_from batch limit r (e ∷ es) b a s =
    steady_from batch limit (ranges_after r e) es b a.1 (steady_after batch limit r e b a.0 s)

pub steady_none : (limit : ℕ) → Steady limit no_ranges
steady_none limit = record { within = omega arith; open_range = tt }

-- the same with one event more at the end
pub ranges_from-push : (r : Ranges) (es : List LaneEvent) (e : LaneEvent) →
    ranges_from r (es ++ e ∷ []) ≡ ranges_after (ranges_from r es) e
unfolding ranges_from
ranges_from-push r [] e = refl
ranges_from-push r (d ∷ es) e = ranges_from-push (ranges_after r d) es e

pub AreLaneEvents-push : (batch limit : ℕ) (r : Ranges) (es : List LaneEvent) (e : LaneEvent) →
    AreLaneEvents batch limit r es → MeetsLane batch limit (ranges_from r es) e →
    AreLaneEvents batch limit r (es ++ e ∷ [])
unfolding AreLaneEvents ranges_from
AreLaneEvents-push batch limit r [] e a m = (m, tt)
AreLaneEvents-push batch limit r (d ∷ es) e a m =
    (a.0, AreLaneEvents-push batch limit (ranges_after r d) es e a.1 m)

-- the range that an event accepts, where this one is open
abbrev pub newly : Option (ℕ × ℕ) → LaneEvent → List (ℕ × ℕ)
newly range (Done true) = option_to_list range
newly range (Done false) = []
newly range Push = []
newly range (Begin from to) = []

newly_is : (o : Option (ℕ × ℕ)) (e : LaneEvent) → accepted_from o (e ∷ []) ≡ newly o e
unfolding accepted_from
newly_is None (Done true) = refl
newly_is (Some range) (Done true) = refl
newly_is o (Done false) = refl
newly_is o Push = refl
newly_is o (Begin from to) = refl

pub accepted_from-push : (r : Ranges) (es : List LaneEvent) (e : LaneEvent) →
    accepted_from r.begun (es ++ e ∷ []) ≡ accepted_from r.begun es ++ newly (ranges_from r es).begun e
unfolding accepted_from ranges_from
accepted_from-push r [] e = newly_is r.begun e
accepted_from-push r (Push ∷ es) e = accepted_from-push (ranges_after r Push) es e
accepted_from-push r (Begin from to ∷ es) e = accepted_from-push (ranges_after r (Begin from to)) es e
accepted_from-push r (Done true ∷ es) e =
    ap (λ (xs : List (ℕ × ℕ)). option_to_list r.begun ++ xs) (accepted_from-push (ranges_after r (Done true)) es e)
    ∙ sym (append_assoc (option_to_list r.begun) (accepted_from None es)
    (newly (ranges_from (ranges_after r (Done true)) es).begun e))
accepted_from-push r (Done false ∷ es) e = accepted_from-push (ranges_after r (Done false)) es e
