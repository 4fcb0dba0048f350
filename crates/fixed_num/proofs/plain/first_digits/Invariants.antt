use Rattle.std.proofs.Common.{◌≤◌, ◌-◌, length, take}
use Rattle.fixed_num.specs.Digits.{Spells}
use Rattle.fixed_num.proofs.plain.first_digits.Given as goal

abbrev pub invariant-loop-at : goal.invariant-loop-at
invariant-loop-at l = record { within : l.at ≤ length l.text; spells : Spells (take l.at l.text) l.number }

abbrev pub decreases-loop-at : goal.decreases-loop-at
decreases-loop-at l = length l.text - l.at
