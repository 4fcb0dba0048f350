-- The views of a table after one was changed, or one more came.
use Rattle.std.proofs.Common.{◌≡◌, ◌≢◌, ◌⊎◌, ℕ, ◌<◌, List, [], ◌∷◌, ◌++◌, length, set, sym, ◌∙◌, ⊎_elim, inl, inr}
use Rattle.std.proofs.Common.{arith, zero, suc}
use mathlib.Core.Option.{some, some-ne-none, some-injective}
use lib.ListN.{get_elem?}
use Rattle.atomic_table.proofs.Lists.{at_set}
use Rattle.turnstile.specs.declared.history.View.{View}
use Rattle.turnstile.specs.View.{LivesAt}
use Rattle.turnstile.proofs.ListLemmas.{at_end}

module _ {O A : Type 0} where
  -- a live view after a change of one: the changed one, or another
  pub live_set : (views : List (View O A)) (id j : ℕ) (w v : View O A) → LivesAt (set views id w) j v
      → ((j ≡ id) × (w ≡ v)) ⊎ ((j ≢ id) × LivesAt views j v)
  live_set views id j w v l = ⊎_elim (λ (t : (j ≡ id) × (w ≡ v)). inl t)
      (λ (t : (j ≢ id) × (get_elem? views j ≡ some v)). inr (t.0, (t.1, l.1))) (at_set views id j w v l.0)

  -- an index with a view is one of the list
  pub there : (views : List (View O A)) (id : ℕ) (v : View O A) → get_elem? views id ≡ some v → id < length views
  there [] id v e = absurd (some-ne-none v (sym e))
  there (x ∷ xs) zero v e = omega arith
  there (x ∷ xs) (suc id) v e = let h = there xs id v e in omega arith

  -- an index has one view
  pub same_view : (views : List (View O A)) (id : ℕ) (v w : View O A) → get_elem? views id ≡ some v
      → get_elem? views id ≡ some w → v ≡ w
  same_view views id v w p q = some-injective v w (sym p ∙ q)

  -- a live view after one more came
  pub live_end : (vs : List (View O A)) (a : View O A) (j : ℕ) (u : View O A) → LivesAt (vs ++ a ∷ []) j u
      → ((j < length vs) × LivesAt vs j u) ⊎ ((j ≡ length vs) × (a ≡ u))
  live_end vs a j u l = ⊎_elim (λ (t : (j < length vs) × (get_elem? vs j ≡ some u)). inl (t.0, (t.1, l.1)))
      (λ (t : (j ≡ length vs) × (a ≡ u)). inr t) (at_end vs a u j l.0)
