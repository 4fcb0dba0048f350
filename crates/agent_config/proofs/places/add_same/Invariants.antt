use Rattle.std.proofs.Common.{◌≡◌, ◌≤◌, ◌+◌, ◌++◌, drop, take, length}
use Rattle.agent_config.specs.Faults.{same_faults}
use Rattle.agent_config.specs.Found.{founds_view}
use Rattle.agent_config.proofs.places.add_same.Given as goal

abbrev pub invariant-loop-at : goal.invariant-loop-at
invariant-loop-at l = record {
  counted : l.at ≡ l.number + l.from;
  within : l.at ≤ length l.places;
  left : founds_view l.founds.items
      ++ same_faults l.class l.number l.faulty (take l.at l.places) (drop l.at l.places)
      ≡ founds_view l.fn.founds.items
      ++ same_faults l.class 0 l.faulty (take l.from l.places) (drop l.from l.places);
}
