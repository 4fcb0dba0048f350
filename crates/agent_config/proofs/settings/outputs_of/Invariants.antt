use Rattle.std.proofs.Common.{◌≡◌, map, take}
use Rattle.agent_config.specs.Plugins.{plugins_view}
use Rattle.agent_config.specs.Values.{output_of}
use Rattle.agent_config.proofs.settings.outputs_of.Given as goal

abbrev pub invariant-loop-plugin : goal.invariant-loop-plugin
invariant-loop-plugin l = l.outputs.items
    ≡ map (output_of l.limits) (plugins_view (take l.plugin-index l.plugins))
