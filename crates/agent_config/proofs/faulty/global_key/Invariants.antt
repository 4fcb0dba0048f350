use Rattle.std.proofs.Common.{◌≡◌}
use Rattle.toml.specs.View.{members_view}
use Rattle.agent_config.specs.FaultyKey.{faulty_key, global_entry}
use Rattle.agent_config.proofs.faulty.global_key.Given as goal

abbrev pub invariant-loop-key : goal.invariant-loop-key
invariant-loop-key l =
    faulty_key global_entry (members_view l.key-iterator) ≡ faulty_key global_entry (members_view l.tags.entries)
