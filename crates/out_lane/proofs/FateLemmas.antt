-- The fate of a position, by the ranges.
use Rattle.std.proofs.Common.{◌≡◌, ℕ, ◌-◌, ◌<◌, ◌≤◌, ltb, leb, max, Bool, true, false, ◌&&◌, ◌||◌, cond, ◌⊎◌}
use Rattle.std.proofs.Common.{inl, inr, List, [], ◌∷◌, ◌++◌, Option, Some, None, refl, sym, ◌∙◌, ap, arith}
use Rattle.std.specs.Option.{option_to_list}
use Rattle.std.specs.List.{list_any}
use Rattle.std.proofs.lemmas.Bool.{lt-ltb, le-ltb, le-leb, lt-leb, ltb-true, leb-true, cases_Bool, cases_lt}
use Rattle.std.proofs.lemmas.Bool.{or_cases, and_parts}
use Rattle.std.proofs.lemmas.List.Folds.{list_any-append}
use Rattle.out_lane.specs.LaneEvents.{LaneEvent, Push, Begin, Done, Ranges, reached, ranges_after}
use Rattle.out_lane.specs.LaneEvents.{ranges_from, ranges_of, accepted_from, AreLaneEvents, holds, is_in_open}
use Rattle.out_lane.specs.LaneEvents.{open_end, is_written, is_buffered, LaneFate, Written, Buffered, Dropped}
use Rattle.out_lane.specs.LaneEvents.{fate_at}
use Rattle.out_lane.specs.LaneLaws.{no_ranges, oldest_waiting}
use Rattle.out_lane.proofs.RangeLemmas.{IsOpenIn, Steady, steady_after, steady_none, ranges_from-push, newly}
use Rattle.out_lane.proofs.RangeLemmas.{accepted_from-push}

-- tests of positions
pub holds_inside : (from to p : ℕ) → from ≤ p → p < to → holds p (from, to) ≡ true
holds_inside from to p f t =
    let a : leb from p ≡ true = le-leb from p f in
    let b : ltb p to ≡ true = lt-ltb p to t in
    rw (a, b) refl

pub holds_before : (from to p : ℕ) → p < from → holds p (from, to) ≡ false
holds_before from to p f = let a : leb from p ≡ false = lt-leb from p f in rw a refl

pub holds_behind : (from to p : ℕ) → to ≤ p → holds p (from, to) ≡ false
holds_behind from to p t =
    let b : ltb p to ≡ false = le-ltb p to t in
    elim (leb from p) as (λ a. (a && ltb p to) ≡ false) [ true ↦ b | false ↦ refl ]

pub holds_parts : (from to p : ℕ) → holds p (from, to) ≡ true → (from ≤ p) × (p < to)
holds_parts from to p h =
    let both = and_parts (leb from p) (ltb p to) h in
    (leb-true from p both.0, ltb-true p to both.1)

leb-max : (a b p : ℕ) → (leb a p && leb b p) ≡ leb (max a b) p
leb-max a b p =
    elim (cases_lt p a) [
      | inl l ↦
          (let e : leb a p ≡ false = lt-leb a p l in
          let m : leb (max a b) p ≡ false = lt-leb (max a b) p (omega arith) in
          rw (e, m) refl)
      | inr g ↦
          (let e : leb a p ≡ true = le-leb a p g in
          elim (cases_lt p b) [
            | inl l ↦
                (let f : leb b p ≡ false = lt-leb b p l in
                let m : leb (max a b) p ≡ false = lt-leb (max a b) p (omega arith) in
                rw (e, f, m) refl)
            | inr h ↦
                (let f : leb b p ≡ true = le-leb b p h in
                let m : leb (max a b) p ≡ true = le-leb (max a b) p (omega arith) in
                rw (e, f, m) refl)
          ])
    ]

pub leb_same : (a b p : ℕ) → ((p < a) × (p < b)) ⊎ ((a ≤ p) × (b ≤ p)) → leb a p ≡ leb b p
leb_same a b p (inl h) = lt-leb a p h.0 ∙ sym (lt-leb b p h.1)
leb_same a b p (inr h) = le-leb a p h.0 ∙ sym (le-leb b p h.1)

-- a position is buffered in the open range, and from where the waiting items begin
abbrev pub buffered_by : ℕ → Ranges → ℕ → Bool
buffered_by limit r p = is_in_open p r.begun || leb (oldest_waiting limit r) p

pub buffered_is : (limit : ℕ) (r : Ranges) (p : ℕ) → is_buffered limit r p ≡ buffered_by limit r p
buffered_is limit r p =
    ap (λ (t : Bool). is_in_open p r.begun || t)
    (ap (λ (t : Bool). t && leb (r.pushed - limit) p) (leb-max r.written_to (open_end r.begun) p)
    ∙ leb-max (max r.written_to (open_end r.begun)) (r.pushed - limit) p)

pub not_open : (o : Option (ℕ × ℕ)) (p : ℕ) → open_end o ≤ p → is_in_open p o ≡ false
not_open None p h = refl
not_open (Some range) p h = holds_behind range.0 range.1 p h

-- the fate, by whether it is written and whether it is buffered
abbrev pub fate : Bool → Bool → LaneFate
fate w b = cond w Written (cond b Buffered Dropped)

pub fate_is : (limit : ℕ) (es : List LaneEvent) (p : ℕ) →
    fate_at limit es p ≡ fate (is_written es p) (buffered_by limit (ranges_of es) p)
fate_is limit es p = ap (λ (b : Bool). fate (is_written es p) b) (buffered_is limit (ranges_of es) p)

pub written_push : (es : List LaneEvent) (e : LaneEvent) (p : ℕ) →
    is_written (es ++ e ∷ []) p ≡ (is_written es p || list_any (holds p) (newly (ranges_of es).begun e))
written_push es e p =
    ap (λ (xs : List (ℕ × ℕ)). list_any (holds p) xs) (accepted_from-push no_ranges es e)
    ∙ list_any-append (holds p) (accepted_from None es) (newly (ranges_of es).begun e)

pub fate_push : (limit : ℕ) (es : List LaneEvent) (e : LaneEvent) (p : ℕ) →
    fate_at limit (es ++ e ∷ []) p ≡ fate (is_written es p || list_any (holds p) (newly (ranges_of es).begun e))
    (buffered_by limit (ranges_after (ranges_of es) e) p)
fate_push limit es e p =
    fate_is limit (es ++ e ∷ []) p
    ∙ ap (λ (w : Bool). fate w (buffered_by limit (ranges_of (es ++ e ∷ [])) p)) (written_push es e p)
    ∙ ap (λ (r : Ranges). fate (is_written es p || list_any (holds p) (newly (ranges_of es).begun e))
    (buffered_by limit r p)) (ranges_from-push no_ranges es e)

or_false : (w v : Bool) → v ≡ false → (w || v) ≡ w
or_false true v h = refl
or_false false v h = h

pub same_fate : (w v b c : Bool) → v ≡ false → b ≡ c → fate (w || v) b ≡ fate w c
same_fate w v b c h e = ap (λ (t : Bool). fate t b) (or_false w v h) ∙ ap (λ (t : Bool). fate w t) e

pub from_buffered : (w b : Bool) → fate w b ≡ Buffered → (w ≡ false) × (b ≡ true)
from_buffered true b h = (cc, cc)
from_buffered false true h = (refl, refl)
from_buffered false false h = (refl, cc)

pub from_written : (w b : Bool) → fate w b ≡ Written → w ≡ true
from_written true b h = refl
from_written false true h = cc
from_written false false h = cc

-- what is written is below how far is written
reached_rises : (ok : Bool) (limit n w : ℕ) (o : Option (ℕ × ℕ)) → IsOpenIn limit n w o → w ≤ reached ok w o
reached_rises true limit n w None s = omega arith
reached_rises true limit n w (Some range) s = omega arith
reached_rises false limit n w o s = omega arith

rises_after : (batch limit : ℕ) (r : Ranges) (e : LaneEvent) → Steady limit r →
    r.written_to ≤ (ranges_after r e).written_to
rises_after batch limit r Push s = omega arith
rises_after batch limit r (Begin from to) s = omega arith
rises_after batch limit r (Done ok) s = reached_rises ok limit r.pushed r.written_to r.begun s.open_range

pub written_rises : (batch limit : ℕ) (r : Ranges) (es : List LaneEvent) → 1 ≤ batch →
    AreLaneEvents batch limit r es → Steady limit r → r.written_to ≤ (ranges_from r es).written_to
unfolding AreLaneEvents ranges_from
written_rises batch limit r [] b a s = omega arith
written_rises batch limit r (e ∷ es) b a s =
    let up = rises_after batch limit r e s in
    let more = written_rises batch limit (ranges_after r e) es b a.1 (steady_after batch limit r e b a.0 s) in
    omega arith

opened_below : (p w : ℕ) (o : Option (ℕ × ℕ)) → list_any (holds p) (option_to_list o) ≡ true →
    p < reached true w o
opened_below p w None h = cc
opened_below p w (Some range) h =
    (holds_parts range.0 range.1 p (sym (or_false (holds p range) false refl) ∙ h)).1

pub written_below : (batch limit : ℕ) (r : Ranges) (es : List LaneEvent) → 1 ≤ batch →
    AreLaneEvents batch limit r es → Steady limit r → (p : ℕ) →
    list_any (holds p) (accepted_from r.begun es) ≡ true → p < (ranges_from r es).written_to
unfolding AreLaneEvents ranges_from accepted_from
written_below batch limit r [] b a s p h = cc
written_below batch limit r (Push ∷ es) b a s p h =
    written_below batch limit (ranges_after r Push) es b a.1 (steady_after batch limit r Push b a.0 s) p h
written_below batch limit r (Begin from to ∷ es) b a s p h =
    written_below batch limit (ranges_after r (Begin from to)) es b a.1
    (steady_after batch limit r (Begin from to) b a.0 s) p h
written_below batch limit r (Done false ∷ es) b a s p h =
    written_below batch limit (ranges_after r (Done false)) es b a.1 (steady_after batch limit r (Done false) b a.0 s) p
    h
written_below batch limit r (Done true ∷ es) b a s p h =
    let next = ranges_after r (Done true) in
    let t : Steady limit next = steady_after batch limit r (Done true) b a.0 s in
    elim (or_cases (list_any (holds p) (option_to_list r.begun)) (list_any (holds p) (accepted_from None es))
    (sym (list_any-append (holds p) (option_to_list r.begun) (accepted_from None es)) ∙ h)) [
      | inl l ↦
          (let low : p < reached true r.written_to r.begun = opened_below p r.written_to r.begun l in
          let up = written_rises batch limit next es b a.1 t in
          omega arith)
      | inr m ↦ written_below batch limit next es b a.1 t p m
    ]

pub is_unwritten : (batch limit : ℕ) (es : List LaneEvent) (p : ℕ) → 1 ≤ batch →
    AreLaneEvents batch limit no_ranges es → (ranges_of es).written_to ≤ p → is_written es p ≡ false
is_unwritten batch limit es p b a h =
    elim (cases_Bool (is_written es p)) [
      | inl t ↦ (let low = written_below batch limit no_ranges es b a (steady_none limit) p t in absurd (omega arith))
      | inr f ↦ f
    ]
