use Rattle.std.proofs.Common.{◌≤◌, ◌-◌, length}
use Rattle.fixed_num.specs.Digits.{Pointed}
use Rattle.fixed_num.proofs.plain.digits_behind.Given as goal

abbrev pub invariant-loop-at : goal.invariant-loop-at
invariant-loop-at l = record { within : l.at ≤ length l.text; pointed : Pointed l.text l.point l.at l.number }

abbrev pub decreases-loop-at : goal.decreases-loop-at
decreases-loop-at l = length l.text - l.at
