-- What each event does to the fates of the positions before it.
use Rattle.std.proofs.Common.{◌≡◌, ℕ, ◌+◌, ◌-◌, ◌<◌, ◌≤◌, leb, max, Bool, true, false, ◌||◌, ◌⊎◌, inl, inr}
use Rattle.std.proofs.Common.{List, [], ◌∷◌, ◌++◌, Option, Some, None, refl, sym, ◌∙◌, ap, arith, subst}
use Rattle.std.proofs.Common.{append_assoc}
use Rattle.std.specs.List.{list_any}
use Rattle.std.proofs.lemmas.List.{append-nil}
use Rattle.std.proofs.lemmas.Bool.{lt-leb, leb-true, leb-false, cases_Bool, cases_lt, or_cases, or_parts}
use Rattle.out_lane.specs.LaneEvents.{LaneEvent, Push, Begin, Done, Ranges, reached, ranges_after}
use Rattle.out_lane.specs.LaneEvents.{ranges_from, ranges_of, MeetsLane, AreLaneEvents, holds, is_in_open}
use Rattle.out_lane.specs.LaneEvents.{open_end, is_written, Buffered, fate_at}
use Rattle.out_lane.specs.LaneLaws.{no_ranges, oldest_waiting, WritesInOrder, FatesLast}
use Rattle.out_lane.proofs.RangeLemmas.{IsOpenIn, Steady, steady_from, steady_none, newly}
use Rattle.out_lane.proofs.FateLemmas.{holds_inside, holds_before, holds_parts, buffered_by, fate, fate_is}
use Rattle.out_lane.proofs.FateLemmas.{fate_push, same_fate, from_buffered, from_written, written_below}

-- what is Buffered is behind what is written
open_above : (limit n w p : ℕ) (o : Option (ℕ × ℕ)) → IsOpenIn limit n w o → is_in_open p o ≡ true → w ≤ p
open_above limit n w p None s h = cc
open_above limit n w p (Some range) s h = let at = holds_parts range.0 range.1 p h in omega arith

pub buffered_above : (limit : ℕ) (r : Ranges) (p : ℕ) → Steady limit r → buffered_by limit r p ≡ true →
    r.written_to ≤ p
buffered_above limit r p s h =
    elim (or_cases (is_in_open p r.begun) (leb (oldest_waiting limit r) p) h) [
      | inl i ↦ open_above limit r.pushed r.written_to p r.begun s.open_range i
      | inr l ↦ (let e = leb-true (oldest_waiting limit r) p l in omega arith)
    ]

pub writes_in_order : WritesInOrder
writes_in_order batch limit es b a old new h u w =
    let s : Steady limit (ranges_of es) = steady_from batch limit no_ranges es b a (steady_none limit) in
    let at = from_buffered (is_written es old) (buffered_by limit (ranges_of es) old)
    (sym (fate_is limit es old) ∙ u) in
    let above : (ranges_of es).written_to ≤ old = buffered_above limit (ranges_of es) old s at.1 in
    let wrote = from_written (is_written es new) (buffered_by limit (ranges_of es) new)
    (sym (fate_is limit es new) ∙ w) in
    let below : new < (ranges_of es).written_to = written_below batch limit no_ranges es b a
    (steady_none limit) new wrote in
    omega arith

never : true ≡ false → ⊥
never h = cc

pub outside : (from to p : ℕ) → holds p (from, to) ≡ false → (p < from) ⊎ (to ≤ p)
outside from to p h =
    elim (cases_lt p from) [
      | inl l ↦ inl l
      | inr g ↦ elim (cases_lt p to) [ inl l ↦ absurd (never (sym (holds_inside from to p g l) ∙ h)) | inr k ↦ inr k ]
    ]

-- A position that is neither written nor buffered stays so.
lost_after_push : (limit n w p : ℕ) (o : Option (ℕ × ℕ)) → is_in_open p o ≡ false →
    p < max (max w (open_end o)) (n - limit) →
    (is_in_open p o || leb (max (max w (open_end o)) (n + 1 - limit)) p) ≡ false
lost_after_push limit n w p o i h =
    let e : leb (max (max w (open_end o)) (n + 1 - limit)) p ≡ false =
    lt-leb (max (max w (open_end o)) (n + 1 - limit)) p (omega arith) in
    rw (i, e) refl

lost_after_done : (ok : Bool) (limit n w p : ℕ) (o : Option (ℕ × ℕ)) → IsOpenIn limit n w o →
    is_in_open p o ≡ false → p < max (max w (open_end o)) (n - limit) →
    leb (max (max (reached ok w o) 0) (n - limit)) p ≡ false
lost_after_done true limit n w p None s i h = lt-leb (max (max w 0) (n - limit)) p (omega arith)
lost_after_done false limit n w p None s i h = lt-leb (max (max w 0) (n - limit)) p (omega arith)
lost_after_done true limit n w p (Some range) s i h = lt-leb (max (max range.1 0) (n - limit)) p (omega arith)
lost_after_done false limit n w p (Some range) s i h =
    let out = outside range.0 range.1 p i in
    lt-leb (max (max w 0) (n - limit)) p (elim out [ inl l ↦ omega arith | inr g ↦ omega arith ])

lost_after : (batch limit : ℕ) (r : Ranges) (e : LaneEvent) (p : ℕ) → 1 ≤ batch → Steady limit r →
    MeetsLane batch limit r e → is_in_open p r.begun ≡ false → p < oldest_waiting limit r →
    buffered_by limit (ranges_after r e) p ≡ false
lost_after batch limit r Push p b s m i h = lost_after_push limit r.pushed r.written_to p r.begun i h
lost_after batch limit r (Done ok) p b s m i h =
    lost_after_done ok limit r.pushed r.written_to p r.begun s.open_range i h
lost_after batch limit r (Begin from to) p b s m i h =
    let z : open_end r.begun ≡ 0 = ap open_end m.closed in
    let low : p < from = omega arith in
    let e : leb (max (max r.written_to to) (r.pushed - limit)) p ≡ false =
    lt-leb (max (max r.written_to to) (r.pushed - limit)) p (omega arith) in
    let f : holds p (from, to) ≡ false = holds_before from to p low in
    rw (f, e) refl

or_left-false : (t : Bool) → t ≡ false → (t || false) ≡ false
or_left-false true h = h
or_left-false false h = refl

not_newly : (e : LaneEvent) (p : ℕ) (o : Option (ℕ × ℕ)) → is_in_open p o ≡ false →
    list_any (holds p) (newly o e) ≡ false
not_newly Push p o h = refl
not_newly (Begin from to) p o h = refl
not_newly (Done false) p o h = refl
not_newly (Done true) p None h = refl
not_newly (Done true) p (Some range) h = or_left-false (holds p range) h

written_stays : (w v b c : Bool) → w ≡ true → fate (w || v) b ≡ fate w c
written_stays true v b c h = refl
written_stays false v b c h = cc

pub is_buffered_fate : (w b : Bool) → w ≡ false → b ≡ true → fate w b ≡ Buffered
is_buffered_fate w b f t = rw (f, t) refl

-- A fate that isn't Buffered stays.
pub fate_lasts : (batch limit : ℕ) (es : List LaneEvent) (e : LaneEvent) (p : ℕ) → 1 ≤ batch →
    AreLaneEvents batch limit no_ranges es → MeetsLane batch limit (ranges_of es) e →
    (fate_at limit es p ≡ Buffered → ⊥) → fate_at limit (es ++ e ∷ []) p ≡ fate_at limit es p
fate_lasts batch limit es e p b a m n =
    let r : Ranges = ranges_of es in
    let s : Steady limit r = steady_from batch limit no_ranges es b a (steady_none limit) in
    fate_push limit es e p
    ∙ elim (cases_Bool (is_written es p)) [
      | inl t ↦ written_stays (is_written es p) (list_any (holds p) (newly r.begun e))
          (buffered_by limit (ranges_after r e) p) (buffered_by limit r p) t
      | inr f ↦
          elim (cases_Bool (buffered_by limit r p)) [
            | inl t ↦ absurd (n (fate_is limit es p ∙ is_buffered_fate (is_written es p) (buffered_by limit r p) f t))
            | inr g ↦
                (let parts = or_parts (is_in_open p r.begun) (leb (oldest_waiting limit r) p) g in
                same_fate (is_written es p) (list_any (holds p) (newly r.begun e))
                (buffered_by limit (ranges_after r e) p) (buffered_by limit r p)
                (not_newly e p r.begun parts.0)
                (lost_after batch limit r e p b s m parts.0 (leb-false (oldest_waiting limit r) p parts.1) ∙ sym g))
          ]
    ]
    ∙ sym (fate_is limit es p)

AreLaneEvents-append : (batch limit : ℕ) (r : Ranges) (es more : List LaneEvent) →
    AreLaneEvents batch limit r (es ++ more) →
    AreLaneEvents batch limit r es × AreLaneEvents batch limit (ranges_from r es) more
unfolding AreLaneEvents ranges_from
AreLaneEvents-append batch limit r [] more a = (tt, a)
AreLaneEvents-append batch limit r (e ∷ es) more a =
    let rest = AreLaneEvents-append batch limit (ranges_after r e) es more a.1 in
    ((a.0, rest.0), rest.1)

AreLaneEvents-first : (batch limit : ℕ) (r : Ranges) (e : LaneEvent) (es : List LaneEvent) →
    AreLaneEvents batch limit r (e ∷ es) → MeetsLane batch limit r e
unfolding AreLaneEvents
AreLaneEvents-first batch limit r e es a = a.0

fates_last_on : (batch limit : ℕ) (es more : List LaneEvent) → 1 ≤ batch →
    AreLaneEvents batch limit no_ranges (es ++ more) → (p : ℕ) → (fate_at limit es p ≡ Buffered → ⊥) →
    fate_at limit (es ++ more) p ≡ fate_at limit es p
fates_last_on batch limit es [] b a p n = ap (λ (xs : List LaneEvent). fate_at limit xs p) (append-nil es)
fates_last_on batch limit es (e ∷ more) b a p n =
    let parts = AreLaneEvents-append batch limit no_ranges es (e ∷ more) a in
    let step : fate_at limit (es ++ e ∷ []) p ≡ fate_at limit es p =
    fate_lasts batch limit es e p b parts.0 (AreLaneEvents-first batch limit (ranges_of es) e more parts.1) n in
    let again : es ++ e ∷ [] ++ more ≡ es ++ e ∷ more = append_assoc es (e ∷ []) more in
    ap (λ (xs : List LaneEvent). fate_at limit xs p) (sym again)
    ∙ fates_last_on batch limit (es ++ e ∷ []) more b (subst
    (λ (xs : List LaneEvent). AreLaneEvents batch limit no_ranges xs) (sym again) a) p (λ h. n (sym step ∙ h))
    ∙ step

pub fates_last : FatesLast
fates_last batch limit es more b a p n = fates_last_on batch limit es more b a p n
