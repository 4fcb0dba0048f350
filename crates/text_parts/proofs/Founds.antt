-- Readings that gave an answer.
use Rattle.std.proofs.Common.{◌≡◌, ℕ, ◌<◌, Bool, true, false, cond, List, length, Result, Ok, Err, refl, ap, subst}
use Rattle.std.proofs.Common.{arith}
use Rattle.std.specs.Prelude.{◌==◌, not}
use Rattle.std.proofs.lemmas.Bool.{eqb-false}
use Rattle.text_parts.specs.declared.error.ReadError.{ReadError}
use Rattle.text_parts.specs.declared.error.ReadError.TheVariants as errors
use Rattle.text_parts.specs.Chain.{◌>>=◌, Fails}

pub bind_ok : {F A B : Type 0} (r : Result A F) (next : A → Result B F) (y : B) → (r >>= next) ≡ Ok y
    → (x : A) × (r ≡ Ok x) × (next x ≡ Ok y)
bind_ok (Ok x) next y e = (x, refl, e)
bind_ok (Err fault) next y e = absurd cc

pub chosen_ok : {F A : Type 0} (t : Bool) (fault : F) (r : Result A F) (y : A) → cond t (Err fault) r ≡ Ok y
    → (t ≡ false) × (r ≡ Ok y)
chosen_ok true fault r y e = absurd cc
chosen_ok false fault r y e = (refl, e)

pub taken_ok : {F A : Type 0} (t : Bool) (fault : F) (r : Result A F) (y : A) → cond t r (Err fault) ≡ Ok y
    → (t ≡ true) × (r ≡ Ok y)
taken_ok true fault r y e = (refl, e)
taken_ok false fault r y e = absurd cc

ok_or : {F A : Type 0} → A → Result A F → A
ok_or a (Ok x) = x
ok_or a (Err fault) = a

pub same_ok : {F A : Type 0} (a b : A) → let l : Result A F = Ok a in let r : Result A F = Ok b in l ≡ r → a ≡ b
unfolding ok_or
same_ok {F} {A} a b e = ap (ok_or {F = F} a) e

pub ok_pair : {F A : Type 0} (a b : A) (m n : ℕ) → let l : Result (A × ℕ) F = Ok (a, m) in
    let r : Result (A × ℕ) F = Ok (b, n) in l ≡ r → (a ≡ b) × (m ≡ n)
ok_pair {F} {A} a b m n e = let same = same_ok {F = F} (a, m) (b, n) e in
    (ap (λ (p : A × ℕ). p.0) same, ap (λ (p : A × ℕ). p.1) same)

-- a fault that a reader gave is that of the reading
pub fault_given : {F A : Type 0} (e : ReadError F) (fault : F) (r : Result A F) → e ≡ errors.Fault fault → Fails e r
    → r ≡ Err fault
fault_given {F} {A} e fault r is h = subst (λ (x : ReadError F). Fails x r) is h

-- ---- tests that failed

pub not_false : (b : Bool) → not b ≡ false → b ≡ true
not_false true e = refl
not_false false e = absurd cc

pub some_of : {A : Type 0} (xs : List A) → (length xs == 0) ≡ false → 0 < length xs
some_of xs e = let ne : length xs ≡ 0 → ⊥ = eqb-false (length xs) 0 e in omega arith
