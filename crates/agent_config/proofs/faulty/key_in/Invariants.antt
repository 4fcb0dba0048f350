use Rattle.std.proofs.Common.{◌≡◌}
use Rattle.toml.specs.View.{members_view}
use Rattle.agent_config.specs.Faults.{entry_faults}
use Rattle.agent_config.specs.FaultyKey.{faulty_key}
use Rattle.agent_config.proofs.faulty.key_in.Given as goal

abbrev pub invariant-loop-key : goal.invariant-loop-key
invariant-loop-key l =
    faulty_key (entry_faults l.keys) (members_view l.key-iterator)
    ≡ faulty_key (entry_faults l.keys) (members_view l.table.entries)
