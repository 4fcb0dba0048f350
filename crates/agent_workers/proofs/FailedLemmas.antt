-- How many of the last batches failed, with one batch more.
use Rattle.std.proofs.Common.{◌≡◌, ℕ, ◌+◌, ◌-◌, ◌^◌, min, Bool, true, false, List, [], ◌∷◌, ◌++◌, replicate, sym, ap}
use Rattle.std.proofs.Common.{◌∙◌, subst, inl, inr, arith, append_assoc}
use Rattle.std.proofs.lemmas.List.{replicate_more}
use Rattle.agent_workers.specs.Output.{FailedLast, IsFailedRow}

-- no batch is done
pub failed_first : (n : ℕ) (all : List Bool) → n ≡ 0 → all ≡ [] → FailedLast n all
failed_first n all none first = record { count = 0; row = inl first; counted = omega (arith, none) }

-- the same batches
pub failed_same : (n : ℕ) (old new : List Bool) → new ≡ old → FailedLast n old → FailedLast n new
failed_same n old new same h = subst (FailedLast n) (sym same) h

-- a batch was accepted
pub failed_accepted : (n : ℕ) (old new : List Bool) → n ≡ 0 → new ≡ old ++ true ∷ [] → FailedLast n new
failed_accepted n old new none is = record { count = 0; row = inr (old, is); counted = omega (arith, none) }

row_more : (count : ℕ) (old : List Bool) → IsFailedRow count old → IsFailedRow (count + 1) (old ++ false ∷ [])
row_more count old (inl all) = inl (ap (λ (bs : List Bool). bs ++ false ∷ []) all ∙ replicate_more count false)
row_more count old (inr some) = inr (
  some.0,
  ap (λ (bs : List Bool). bs ++ false ∷ []) some.1 ∙ append_assoc some.0 (true ∷ replicate count false) (false ∷ [])
      ∙ ap (λ (bs : List Bool). some.0 ++ true ∷ bs) (replicate_more count false),
)

-- one failed
pub failed_once : (n next : ℕ) (old new : List Bool) → next ≡ min (n + 1) (2 ^ 32 - 1) → new ≡ old ++ false ∷ []
    → FailedLast n old → FailedLast next new
failed_once n next old new one is h = record {
  count = h.count + 1;
  row = subst (IsFailedRow (h.count + 1)) (sym is) (row_more h.count old h.row);
  counted = omega (arith, one, h.counted);
}
