use Rattle.std.proofs.Common.{◌≡◌, ◌++◌}
use Rattle.toml.specs.View.{members_view}
use Rattle.agent_config.specs.Steps.{targets_of}
use Rattle.agent_config.proofs.rules.targets_of.Given as goal

abbrev pub invariant-loop-name : goal.invariant-loop-name
invariant-loop-name l =
    l.rules.items ++ targets_of (members_view l.name-iterator) ≡ targets_of (members_view l.table.entries)
