-- Clocks that are taken one after the other.
use Rattle.std.proofs.Common.{◌≡◌, ◌+◌, ◌++◌, ℕ, List, [], ◌∷◌, refl, ap, ◌∙◌, inl, inr, arith, Option, None, map}
use Rattle.std.proofs.lemmas.Bool.{cases_lt}
use Rattle.std.proofs.lemmas.List.{length_push, get_or_append_left, get_or_push, map-append}
use Rattle.agent_base.specs.Moments.{Moments}
use Rattle.agent_base.specs.Places.{SameBut}
use Rattle.agent_run.specs.ClockLists.{AreTaken, from_first}
use Rattle.agent_base.specs.Carried.{Timed}

-- no clock was taken yet
pub taken_none : (first : ℕ) (told : ℕ → Option Moments) → AreTaken first 0 [] told told
taken_none first told = record { count_is = refl; each = λ k l. absurd (omega (arith, l)); others = λ who away. refl }

abbrev told_so : Option Moments → ℕ → Timed
told_so moments next = record { moments = moments; next = next }

timed_is : (clock : Timed) (told : Option Moments) → clock.moments ≡ told → clock.next ≡ 0 → clock ≡ from_first told
timed_is clock told e f = ap (λ (m : Option Moments). told_so m clock.next) e ∙ ap (λ (p : ℕ). told_so told p) f

-- one clock more
taken_push : (first n : ℕ) (clocks : List Timed) (clock : Timed) (w0 w1 w2 : ℕ → Option Moments)
    → AreTaken first n clocks w0 w1 → clock ≡ from_first (w1 (first + n)) → SameBut (first + n) w1 w2
    → AreTaken first (n + 1) (clocks ++ clock ∷ []) w0 w2
taken_push first n clocks clock w0 w1 w2 h e same = record {
  count_is = length_push clocks clock ∙ ap (λ (k : ℕ). k + 1) h.count_is;
  each = λ k l. elim (cases_lt k n) [
    | inl before ↦ get_or_append_left clocks (clock ∷ []) (from_first None) k (omega (arith, before, h.count_is))
        ∙ h.each k before
    | inr behind ↦
        let here : n ≡ k = omega (arith, l, behind) in
        get_or_push clocks clock (from_first None) k (h.count_is ∙ here) ∙ e
        ∙ ap from_first (h.others (first + n) (inr (omega arith)) ∙ ap (λ (i : ℕ). w0 (first + i)) here)
  ];
  others = λ who away. elim away [
    | inl before ↦ same who (λ x. absurd (omega (arith, x, before))) ∙ h.others who (inl before)
    | inr behind ↦ same who (λ x. absurd (omega (arith, x, behind))) ∙ h.others who (inr (omega (arith, behind)))
  ];
}

pub taken_more : {C : Type 0} (timed : C → Timed) (first n : ℕ) (clocks : List C) (clock : C)
    (w0 w1 w2 : ℕ → Option Moments) → AreTaken first n (map timed clocks) w0 w1
    → (timed clock).moments ≡ w1 (first + n) → (timed clock).next ≡ 0 → SameBut (first + n) w1 w2
    → AreTaken first (n + 1) (map timed (clocks ++ clock ∷ [])) w0 w2
taken_more timed first n clocks clock w0 w1 w2 h told at_first same =
    rw (map-append timed clocks (clock ∷ []))
    (taken_push first n (map timed clocks) (timed clock) w0 w1 w2 h
    (timed_is (timed clock) (w1 (first + n)) told at_first) same)
