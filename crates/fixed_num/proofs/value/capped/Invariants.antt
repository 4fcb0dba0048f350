use Rattle.std.proofs.Common.{◌≡◌, ℕ, ◌≤◌, take, min}
use Rattle.std.specs.Str.Parse.{digits_value_after}
use Rattle.fixed_num.specs.declared.value.TheConstants.{CAP}
use Rattle.fixed_num.proofs.value.capped.Given as goal

abbrev pub invariant-loop-b : goal.invariant-loop-b
invariant-loop-b l = (l.value ≤ CAP) × ((n : ℕ) → l.fn.start ≡ min n CAP
    → l.value ≡ min (digits_value_after 10 n (take l.b-index l.digits)) CAP)
