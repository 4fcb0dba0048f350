use Rattle.std.proofs.Common.{◌≡◌}
use Rattle.toml.specs.View.{members_view}
use Rattle.agent_config.specs.Naming.{plugin_name}
use Rattle.agent_config.proofs.naming.plugin_name.Given as goal

abbrev pub invariant-loop-kind : goal.invariant-loop-kind
invariant-loop-kind l =
    plugin_name (members_view l.kind-iterator) l.left ≡ plugin_name (members_view l.class.entries) l.number
