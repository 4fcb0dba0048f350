use Rattle.std.proofs.Common.{◌≡◌, ◌++◌, map, take}
use Rattle.agent_config.specs.Faults.{place_of}
use Rattle.agent_config.specs.Plugins.{plugins_view}
use Rattle.agent_config.proofs.places.add_places.Given as goal

abbrev pub invariant-loop-plugin : goal.invariant-loop-plugin
invariant-loop-plugin l =
    l.places.items
    ≡ l.fn.places.items ++ map (place_of l.class) (plugins_view (take l.plugin-index l.plugins))
