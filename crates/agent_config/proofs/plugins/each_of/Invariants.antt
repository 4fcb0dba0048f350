use Rattle.std.proofs.Common.{◌≡◌, map, take}
use Rattle.agent_config.specs.Plugins.{plugins_view}
use Rattle.agent_config.proofs.plugins.each_of.Given as goal

abbrev pub invariant-loop-plugin : goal.invariant-loop-plugin
invariant-loop-plugin g l =
    l.each.items ≡ map g.T.OfPlugin.made_of (plugins_view (take l.plugin-index l.plugins))
