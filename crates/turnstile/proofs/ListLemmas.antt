-- Lists of numbers, and what stands at the end of a list.
use Rattle.std.proofs.Common.{◌≡◌, ◌⊎◌, ℕ, ◌<◌, ◌≤◌, List, [], ◌∷◌, ◌++◌, length, get_or, sym, refl, ap, ⊎_elim}
use Rattle.std.proofs.Common.{inl, inr, arith, zero, suc, max}
use mathlib.Core.Option.{some, some-ne-none, some-injective}
use lib.ListN.{get_elem?}
use Rattle.turnstile.specs.View.{greater}

-- past the end stands 0
pub beyond : (xs : List ℕ) (i : ℕ) → length xs ≤ i → get_or xs i 0 ≡ 0
beyond [] i h = refl
beyond (x ∷ xs) zero h = absurd (omega arith)
beyond (x ∷ xs) (suc i) h = beyond xs i (omega arith)

-- there are as many greater numbers
pub length-greater : (xs ys : List ℕ) → length xs ≡ length ys → length (greater xs ys) ≡ length ys
length-greater [] ys e = e
length-greater (x ∷ xs) [] e = absurd (omega arith)
length-greater (x ∷ xs) (y ∷ ys) e = let i = length-greater xs ys (omega arith) in omega arith

-- the greater number at an index
pub greater_at : (xs ys : List ℕ) (i : ℕ) → length xs ≡ length ys
    → get_or (greater xs ys) i 0 ≡ max (get_or xs i 0) (get_or ys i 0)
greater_at [] [] i e = refl
greater_at [] (y ∷ ys) i e = absurd (omega arith)
greater_at (x ∷ xs) [] i e = absurd (omega arith)
greater_at (x ∷ xs) (y ∷ ys) zero e = refl
greater_at (x ∷ xs) (y ∷ ys) (suc i) e = greater_at xs ys i (omega arith)

module _ {A : Type 0} where
  -- what stands in a list with one element more
  pub at_end : (l : List A) (a b : A) (j : ℕ) → get_elem? (l ++ a ∷ []) j ≡ some b
      → ((j < length l) × (get_elem? l j ≡ some b)) ⊎ ((j ≡ length l) × (a ≡ b))
  at_end [] a b zero e = inr (refl, some-injective a b e)
  at_end [] a b (suc j) e = absurd (some-ne-none b (sym e))
  at_end (x ∷ xs) a b zero e = inl (omega arith, e)
  at_end (x ∷ xs) a b (suc j) e = ⊎_elim
      (λ (t : (j < length xs) × (get_elem? xs j ≡ some b)). inl (let h = t.0 in omega arith, t.1))
      (λ (t : (j ≡ length xs) × (a ≡ b)). inr (ap suc t.0, t.1)) (at_end xs a b j e)
