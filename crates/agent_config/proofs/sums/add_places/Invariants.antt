use Rattle.std.proofs.Common.{◌≡◌, ◌≤◌, ◌+◌, ◌-◌, ◌*◌, ◌^◌, drop, length}
use Rattle.agent_config.specs.Durations.{number_behind}
use Rattle.agent_config.specs.Sums.{AreDigits, weight}
use Rattle.agent_config.proofs.sums.add_places.Given as goal

abbrev pub invariant-loop-at : goal.invariant-loop-at
invariant-loop-at l = record {
  within : l.at ≤ length l.digits;
  len : length l.places ≡ length l.fn.places;
  small : l.carry ≤ 100000000000000;
  digits : AreDigits l.places;
  value : weight l.places + l.carry * 10 ^ (length l.fn.places - l.at)
      ≡ weight l.fn.places
      + number_behind 0 (drop l.at l.digits) * l.unit * 10 ^ (length l.fn.places - length l.digits);
}

abbrev pub decreases-loop-at : goal.decreases-loop-at
decreases-loop-at l = l.at
