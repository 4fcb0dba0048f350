use Rattle.std.proofs.Common.{◌≡◌, ◌++◌}
use Rattle.toml.specs.View.{members_view}
use Rattle.agent_config.specs.Faults.{inner_keys_faults}
use Rattle.agent_config.specs.Found.{wrongs_view}
use Rattle.agent_config.proofs.adding.Findings.check_inner.Given as goal

abbrev pub invariant-loop-name : goal.invariant-loop-name
invariant-loop-name l =
    wrongs_view l.self.wrongs.items ++ inner_keys_faults l.key l.inner (members_view l.name-iterator)
    ≡ wrongs_view l.fn.self.wrongs.items ++ inner_keys_faults l.key l.inner (members_view l.table.entries)
