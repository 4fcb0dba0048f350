-- A sum, to which each operation adds.
use Rattle.std.specs.Prelude.{◌≡◌, ℕ, zero, suc, ◌+◌, ◌-◌, ◌^◌, ◌≤◌, min}
use Rattle.std.proofs.Common.{arith}
use Rattle.turnstile_scenarios.specs.declared.sum.Addend.{Addend}
use Rattle.turnstile_scenarios.specs.declared.sum.Addend.TheVariants.{Number, BytesOf}
use Rattle.turnstile_scenarios.specs.declared.sum.Sum.{Sum}

-- the answer is the sum with the number, which is held at the greatest number of its type; of an input there may be any
-- number of bytes
abbrev pub is_added : Sum → Addend → ℕ → Type 0
is_added s (Number n) answer = (s.total ≤ answer) × (answer ≡ min (s.total + n) (2 ^ 64 - 1))
is_added s (BytesOf input) answer = s.total ≤ answer

-- the sum is then the answer
abbrev pub added : Sum → Addend → ℕ → Sum
added s addend answer = record { total = answer }

-- dial 0 is the sum, and each other one is 0
abbrev pub sum_dial : Sum → ℕ → ℕ
sum_dial s zero = s.total
sum_dial s (suc n) = 0

-- no dial falls
pub sum_dial-added : (s : Sum) (addend : Addend) (answer i : ℕ) → is_added s addend answer
    → sum_dial s i ≤ sum_dial (added s addend answer) i
sum_dial-added s (Number n) answer zero h = h.0
sum_dial-added s (BytesOf input) answer zero h = h
sum_dial-added s addend answer (suc i) h = omega arith
