use Rattle.std.proofs.Common.{◌≡◌, ◌++◌}
use Rattle.toml.specs.View.{members_view}
use Rattle.agent_config.specs.Values.{globals_of}
use Rattle.agent_config.proofs.settings.globals_of.Given as goal

abbrev pub invariant-loop-key : goal.invariant-loop-key
invariant-loop-key l =
    l.globals.items ++ globals_of (members_view l.key-iterator) ≡ globals_of (members_view l.tags.entries)
