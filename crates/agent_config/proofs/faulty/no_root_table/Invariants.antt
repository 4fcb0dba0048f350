use Rattle.std.proofs.Common.{◌≡◌}
use Rattle.toml.specs.View.{members_view}
use Rattle.agent_config.specs.FaultyKey.{faulty_key, no_root_table}
use Rattle.agent_config.proofs.faulty.no_root_table.Given as goal

abbrev pub invariant-loop-key : goal.invariant-loop-key
invariant-loop-key l =
    faulty_key no_root_table (members_view l.key-iterator)
    ≡ faulty_key no_root_table (members_view l.root.entries)
