-- Which positions are buffered before and after each event.
use Rattle.std.proofs.Common.{◌≡◌, ℕ, ◌<◌, ◌≤◌, leb, min, max, Bool, true, false, ◌||◌, ◌⊎◌, inl, inr, List}
use Rattle.std.proofs.Common.{[], ◌∷◌, ◌++◌, Option, refl, sym, ◌∙◌, ap, arith}
use Rattle.std.specs.List.{list_any}
use Rattle.std.proofs.lemmas.Bool.{le-leb, lt-leb, cases_lt, or_left, or_right}
use Rattle.out_lane.specs.LaneEvents.{LaneEvent, ranges_after, ranges_of, holds, is_in_open, open_end}
use Rattle.out_lane.specs.LaneEvents.{is_written, Written, Buffered, fate_at}
use Rattle.out_lane.proofs.RangeLemmas.{newly}
use Rattle.out_lane.proofs.FateLemmas.{holds_inside, holds_before, holds_behind, leb_same, buffered_by}
use Rattle.out_lane.proofs.FateLemmas.{not_open, fate, fate_is, fate_push, same_fate}
use Rattle.out_lane.proofs.EventLemmas.{is_buffered_fate}

-- the fate before and after an event, by the two tests
pub stays : (limit : ℕ) (es : List LaneEvent) (e : LaneEvent) (p : ℕ) →
    list_any (holds p) (newly (ranges_of es).begun e) ≡ false →
    buffered_by limit (ranges_after (ranges_of es) e) p ≡ buffered_by limit (ranges_of es) p →
    fate_at limit (es ++ e ∷ []) p ≡ fate_at limit es p
stays limit es e p v b =
    fate_push limit es e p
    ∙ same_fate (is_written es p) (list_any (holds p) (newly (ranges_of es).begun e))
    (buffered_by limit (ranges_after (ranges_of es) e) p) (buffered_by limit (ranges_of es) p) v b
    ∙ sym (fate_is limit es p)

pub was_buffered : (limit : ℕ) (es : List LaneEvent) (p : ℕ) → is_written es p ≡ false →
    buffered_by limit (ranges_of es) p ≡ true → fate_at limit es p ≡ Buffered
was_buffered limit es p w b =
    fate_is limit es p ∙ is_buffered_fate (is_written es p) (buffered_by limit (ranges_of es) p) w b

fate_unwritten : (w v b c : Bool) → w ≡ false → v ≡ false → b ≡ c → fate (w || v) b ≡ fate false c
fate_unwritten w v b c e f h = rw (e, f, h) refl

pub is_now : (limit : ℕ) (es : List LaneEvent) (e : LaneEvent) (p : ℕ) (b : Bool) → is_written es p ≡ false →
    list_any (holds p) (newly (ranges_of es).begun e) ≡ false →
    buffered_by limit (ranges_after (ranges_of es) e) p ≡ b → fate_at limit (es ++ e ∷ []) p ≡ fate false b
is_now limit es e p b w v h =
    fate_push limit es e p
    ∙ fate_unwritten (is_written es p) (list_any (holds p) (newly (ranges_of es).begun e))
    (buffered_by limit (ranges_after (ranges_of es) e) p) b w v h

fate_newly : (w v b : Bool) → v ≡ true → fate (w || v) b ≡ Written
fate_newly true v b h = refl
fate_newly false v b h = rw h refl

pub is_now_written : (limit : ℕ) (es : List LaneEvent) (e : LaneEvent) (p : ℕ) →
    list_any (holds p) (newly (ranges_of es).begun e) ≡ true → fate_at limit (es ++ e ∷ []) p ≡ Written
is_now_written limit es e p v =
    fate_push limit es e p
    ∙ fate_newly (is_written es p) (list_any (holds p) (newly (ranges_of es).begun e))
    (buffered_by limit (ranges_after (ranges_of es) e) p) v

-- a push: s and t are where the waiting items begin before and after
pub push_same : (o : Option (ℕ × ℕ)) (s t p : ℕ) → s ≤ t → (p < s) ⊎ (t ≤ p) →
    (is_in_open p o || leb t p) ≡ (is_in_open p o || leb s p)
push_same o s t p h (inl l) = ap (λ (b : Bool). is_in_open p o || b) (leb_same t s p (inl (omega arith, l)))
push_same o s t p h (inr g) = ap (λ (b : Bool). is_in_open p o || b) (leb_same t s p (inr (g, omega arith)))

pub behind_start : (o : Option (ℕ × ℕ)) (s p : ℕ) → s ≤ p → (is_in_open p o || leb s p) ≡ true
behind_start o s p h = or_right (is_in_open p o) (leb s p) (le-leb s p h)

pub before_start : (o : Option (ℕ × ℕ)) (s p : ℕ) → open_end o ≤ p → p < s →
    (is_in_open p o || leb s p) ≡ false
before_start o s p h l =
    let i : is_in_open p o ≡ false = not_open o p h in
    let e : leb s p ≡ false = lt-leb s p l in
    rw (i, e) refl

-- a batch that is begun
pub begin_same : (from to s p : ℕ) → from ≤ to → s ≡ max from to →
    (holds p (from, to) || leb s p) ≡ (false || leb from p)
begin_same from to s p h e =
    elim (cases_lt p from) [
      | inl l ↦
          (let f : holds p (from, to) ≡ false = holds_before from to p l in
          let a : leb s p ≡ false = lt-leb s p (omega arith) in
          let b : leb from p ≡ false = lt-leb from p l in
          rw (f, a, b) refl)
      | inr g ↦
          (let b : leb from p ≡ true = le-leb from p g in
          elim (cases_lt p to) [
            | inl l ↦ (let f : holds p (from, to) ≡ true = holds_inside from to p g l in rw (f, b) refl)
            | inr k ↦
                (let f : holds p (from, to) ≡ false = holds_behind from to p k in
                let a : leb s p ≡ true = le-leb s p (omega arith) in
                rw (f, a, b) refl)
          ])
    ]

pub inside_is_buffered : (from to s p : ℕ) → from ≤ p → p < to → (holds p (from, to) || leb s p) ≡ true
inside_is_buffered from to s p f t = or_left (holds p (from, to)) (leb s p) (holds_inside from to p f t)

pub outside_is_no_more : (from to p : ℕ) → (p < from) ⊎ (to ≤ p) → holds p (from, to) ≡ false
outside_is_no_more from to p (inl l) = holds_before from to p l
outside_is_no_more from to p (inr g) = holds_behind from to p g

-- a batch that is accepted
pub accept_same : (from to s t p : ℕ) → s ≡ t → (p < from) ⊎ (to ≤ p) →
    (false || leb t p) ≡ (holds p (from, to) || leb s p)
accept_same from to s t p e h =
    let f : holds p (from, to) ≡ false = outside_is_no_more from to p h in
    let g : leb s p ≡ leb t p = ap (λ k. leb k p) e in
    rw (f, g) refl

-- a batch that fails: n - l positions are too old
pub fail_same : (from to s t k p : ℕ) → from ≤ to → s ≡ max to k → t ≡ max from k →
    (p < from) ⊎ (min to t ≤ p) → (false || leb t p) ≡ (holds p (from, to) || leb s p)
fail_same from to s t k p h a b (inl l) =
    let f : holds p (from, to) ≡ false = holds_before from to p l in
    let e : leb s p ≡ false = lt-leb s p (omega arith) in
    let g : leb t p ≡ false = lt-leb t p (omega arith) in
    rw (f, e, g) refl
fail_same from to s t k p h a b (inr m) =
    elim (cases_lt p to) [
      | inl l ↦
          (let f : holds p (from, to) ≡ true = holds_inside from to p (omega arith) l in
          let g : leb t p ≡ true = le-leb t p (omega arith) in
          rw (f, g) refl)
      | inr j ↦
          (let f : holds p (from, to) ≡ false = holds_behind from to p j in
          elim (cases_lt p k) [
            | inl l ↦
                (let e : leb s p ≡ false = lt-leb s p (omega arith) in
                let g : leb t p ≡ false = lt-leb t p (omega arith) in
                rw (f, e, g) refl)
            | inr i ↦
                (let e : leb s p ≡ true = le-leb s p (omega arith) in
                let g : leb t p ≡ true = le-leb t p (omega arith) in
                rw (f, e, g) refl)
          ])
    ]

pub once_any : (t : Bool) → (t || false) ≡ t
once_any true = refl
once_any false = refl
