-- Where a key stands in a list of keys with values.
use Rattle.std.proofs.Common.{◌≡◌, ◌<◌, ◌∷◌, ◌∙◌, ℕ, true, false, cond, List, [], length, get_or, refl, sym, ap}
use Rattle.std.proofs.Common.{arith, Some, None, Bool}
use Rattle.std.specs.List.{position}
use Rattle.std.specs.Prelude.{ltb}
use Rattle.std.specs.Str.{bytes_eq}
use Rattle.std.proofs.lemmas.List.Sums.{position_or_len_is}

-- no pair before an index has the key
abbrev pub NoneBefore : {X : Type 0} → List (List ℕ × X) → List ℕ → ℕ → Type 0
NoneBefore {X} pairs key i = (k : ℕ) (d : List ℕ × X) → k < i → bytes_eq (get_or pairs k d).0 key ≡ false

placed : (m n i : ℕ) (b : Bool) → m ≡ i → ltb i n ≡ b
    → cond b (Some i) None ≡ cond (ltb m n) (Some m) None
placed m n i b is within = λ j. cond (sym (ap (λ (k : ℕ). ltb k n) is ∙ within) j) (Some (sym is j)) None

module _ {X : Type 0} (key : List ℕ) where
  pub found : (pairs : List (List ℕ × X)) (i : ℕ) (d : List ℕ × X) → i < length pairs
      → bytes_eq (get_or pairs i d).0 key ≡ true → NoneBefore pairs key i
      → Some i ≡ position (λ pair. bytes_eq pair.0 key) pairs
  found pairs i d lt here before =
      placed _ (length pairs) i true (position_or_len_is (λ (pair : List ℕ × X). bytes_eq pair.0 key)
      pairs i d (omega arith) (λ k h. before k d h) (λ h. here)) (grind arith)

  pub nowhere : (pairs : List (List ℕ × X)) → NoneBefore pairs key (length pairs)
      → None ≡ position (λ pair. bytes_eq pair.0 key) pairs
  nowhere [] before = refl
  nowhere (pair ∷ pairs) before =
      placed _ (length (pair ∷ pairs)) (length (pair ∷ pairs)) false
      (position_or_len_is (λ (p : List ℕ × X). bytes_eq p.0 key)
      (pair ∷ pairs) (length (pair ∷ pairs)) pair (omega arith) (λ k h. before k pair h)
      (λ h. absurd (omega arith))) (grind arith)
