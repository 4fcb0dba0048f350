use Rattle.std.proofs.Common.{◌≡◌, ◌++◌}
use Rattle.toml.specs.View.{members_view}
use Rattle.agent_config.specs.Faults.{global_faults}
use Rattle.agent_config.specs.Found.{wrongs_view}
use Rattle.agent_config.proofs.adding.Findings.check_globals.Given as goal

abbrev pub invariant-loop-key : goal.invariant-loop-key
invariant-loop-key l =
    wrongs_view l.self.wrongs.items ++ global_faults (members_view l.key-iterator)
    ≡ wrongs_view l.fn.self.wrongs.items ++ global_faults (members_view l.tags.entries)
