use Rattle.std.proofs.Common.{◌≡◌, drop}
use Rattle.agent_config.specs.Faults.{stands_in}
use Rattle.agent_config.proofs.places.stands_in.Given as goal

abbrev pub invariant-loop-other : goal.invariant-loop-other
invariant-loop-other l =
    stands_in (drop l.other-index l.places) l.place ≡ stands_in l.places l.place
