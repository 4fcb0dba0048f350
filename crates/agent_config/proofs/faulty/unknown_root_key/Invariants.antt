use Rattle.std.proofs.Common.{◌≡◌}
use Rattle.toml.specs.View.{members_view}
use Rattle.agent_config.specs.FaultyKey.{faulty_key, unknown_root_key}
use Rattle.agent_config.proofs.faulty.unknown_root_key.Given as goal

abbrev pub invariant-loop-key : goal.invariant-loop-key
invariant-loop-key l =
    faulty_key unknown_root_key (members_view l.key-iterator)
    ≡ faulty_key unknown_root_key (members_view l.root.entries)
