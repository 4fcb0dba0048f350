use Rattle.std.proofs.Common.{◌≡◌, ℕ, ◌≤◌, ◌*◌, ◌^◌, min}
use Rattle.fixed_num.specs.declared.value.TheConstants.{CAP}
use Rattle.fixed_num.proofs.value.grown.Given as goal

abbrev pub invariant-loop-zero : goal.invariant-loop-zero
invariant-loop-zero l = (l.value ≤ CAP) × ((n : ℕ) → l.fn.start ≡ min n CAP → l.value ≡ min (n * 10 ^ l._zero) CAP)
