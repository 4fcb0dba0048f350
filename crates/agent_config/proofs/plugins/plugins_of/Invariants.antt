use Rattle.std.proofs.Common.{◌≡◌, ◌++◌}
use Rattle.toml.specs.View.{members_view}
use Rattle.agent_config.specs.Faults.{plugins_of}
use Rattle.agent_config.specs.Plugins.{plugins_view}
use Rattle.agent_config.proofs.plugins.plugins_of.Given as goal

abbrev pub invariant-loop-name : goal.invariant-loop-name
invariant-loop-name l =
    plugins_view l.plugins.items ++ plugins_of (members_view l.name-iterator)
    ≡ plugins_of (members_view l.class.entries)
