use Rattle.std.proofs.Common.{◌≡◌, ◌++◌, drop}
use Rattle.agent_config.specs.Found.{founds_view, unfollowed}
use Rattle.agent_config.proofs.listed.unfollowed.Given as goal

abbrev pub invariant-loop-found : goal.invariant-loop-found
invariant-loop-found l =
    founds_view l.kept.items ++ unfollowed (founds_view (drop l.found-index l.founds))
    ≡ unfollowed (founds_view l.founds)
