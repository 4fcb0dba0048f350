use Rattle.std.proofs.Common.{◌≡◌, ◌++◌, drop}
use Rattle.toml.specs.View.{items_view}
use Rattle.agent_config.specs.Faults.{listed}
use Rattle.agent_config.specs.Plugins.{plugins_view}
use Rattle.agent_config.proofs.plugins.add_all.Given as goal

abbrev pub invariant-loop-value : goal.invariant-loop-value
invariant-loop-value l =
    plugins_view l.plugins.items ++ listed l.name (items_view (drop l.value-index l.values))
    ≡ plugins_view l.fn.plugins.items ++ listed l.name (items_view l.values)
