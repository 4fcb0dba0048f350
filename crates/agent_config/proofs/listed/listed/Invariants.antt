use Rattle.std.proofs.Common.{◌≡◌, ◌++◌, drop, map}
use Rattle.agent_config.specs.Found.{founds_view}
use Rattle.agent_config.specs.Listed.{listed_of}
use Rattle.agent_config.proofs.listed.listed.Given as goal

abbrev pub invariant-loop-found : goal.invariant-loop-found
invariant-loop-found l =
    l.faults.items ++ map listed_of (founds_view (drop l.found-index l.founds))
    ≡ map listed_of (founds_view l.founds)
