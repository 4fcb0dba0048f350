-- Queues of reports, of which the first is taken.
use Rattle.std.proofs.Common.{◌≡◌, ◌≢◌, ◌<◌, ℕ, zero, suc, List, [], ◌∷◌, length, drop, Bool, true, false, arith, refl}
use Rattle.std.proofs.Common.{ap}
use Rattle.std.proofs.Common.{sym, subst, ◌∙◌, ◌+◌, ◌==◌}
use Rattle.std.proofs.lemmas.Bool.{eqb-true, eqb-false}
use Rattle.std.specs.Prelude.{slice_get, slice_set, is_some}
use Rattle.account.specs.declared.entry.Report.{Report}
use Rattle.pipeline_core.specs.CoreState.{told_at}

-- a report of an input's queue was taken: the queue is shorter
pub queue_less : (told : List (List Report)) (i : ℕ) → is_some (slice_get (told_at told i) 0) ≡ true
    → length (told_at (slice_set told i (drop 1 (told_at told i))) i) < length (told_at told i)
queue_less [] i e = absurd cc
queue_less ([] ∷ xs) zero e = absurd cc
queue_less ((r ∷ rs) ∷ xs) zero e = omega arith
queue_less (x ∷ xs) (suc i) e = queue_less xs i e

-- and where none was there it has none
pub queue_none : (told : List (List Report)) (i : ℕ) → is_some (slice_get (told_at told i) 0) ≡ false
    → told_at (slice_set told i (drop 1 (told_at told i))) i ≡ []
queue_none [] i e = refl
queue_none ([] ∷ xs) zero e = refl
queue_none ((r ∷ rs) ∷ xs) zero e = absurd cc
queue_none (x ∷ xs) (suc i) e = queue_none xs i e

-- the other queues stay
pub queue_other : (told : List (List Report)) (i k : ℕ) (queue : List Report) → k ≢ i
    → told_at (slice_set told i queue) k ≡ told_at told k
queue_other [] i k queue ne = refl
queue_other (x ∷ xs) zero zero queue ne = absurd (ne refl)
queue_other (x ∷ xs) zero (suc k) queue ne = refl
queue_other (x ∷ xs) (suc i) zero queue ne = refl
queue_other (x ∷ xs) (suc i) (suc k) queue ne = queue_other xs i k queue (λ e. ne (ap suc e))

-- one queue more has none
pub none_to : (old new : List (List Report)) (i input : ℕ) → input ≡ i → told_at new input ≡ []
    → ((k : ℕ) → k ≢ input → told_at new k ≡ told_at old k) → ((k : ℕ) → k < i → told_at old k ≡ [])
    → (k : ℕ) → k < i + 1 → told_at new k ≡ []
none_to old new i input here gone others before k b = at (k == input) refl
  where
    at : (t : Bool) → (k == input) ≡ t → told_at new k ≡ []
    at true e = subst (λ (n : ℕ). told_at new n ≡ []) (sym (eqb-true k input e)) gone
    at false e = others k (eqb-false k input e)
        ∙ before k (let ne = eqb-false k input e in omega (arith, b, here, ne))
