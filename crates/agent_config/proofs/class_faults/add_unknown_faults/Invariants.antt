use Rattle.std.proofs.Common.{◌≡◌, ◌++◌, drop}
use Rattle.agent_config.specs.Faults.{numbered, unknown_faults}
use Rattle.agent_config.specs.Found.{founds_view}
use Rattle.agent_config.specs.Plugins.{plugins_view}
use Rattle.agent_config.proofs.class_faults.add_unknown_faults.Given as goal

abbrev pub invariant-loop-plugin : goal.invariant-loop-plugin
invariant-loop-plugin l = record {
  counted : l.number ≡ l.plugin-index;
  left : founds_view l.founds.items
      ++ numbered l.class (unknown_faults l.class) l.number (plugins_view (drop l.plugin-index l.plugins))
      ≡ founds_view l.fn.founds.items ++ numbered l.class (unknown_faults l.class) 0 (plugins_view l.plugins);
}
