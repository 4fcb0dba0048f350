-- Plugins as the code has them, as what they are.
use Rattle.std.specs.Prelude.{List, map}
use Rattle.toml.specs.View.{view}
use Rattle.agent_config.specs.Faults.{Classes as ClassesData, Plugin as PluginData}
use Rattle.agent_config.specs.declared.plugins.Classes.{Classes}
use Rattle.agent_config.specs.declared.plugins.Plugin.{Plugin}

-- what stands at a plugin's references
abbrev pub plugin_view : Plugin → PluginData
plugin_view plugin = record { name = plugin.name.now; value = view plugin.value.now }

abbrev pub plugins_view : List Plugin → List PluginData
plugins_view plugins = map plugin_view plugins

abbrev pub classes_view : Classes → ClassesData
classes_view classes = record {
  inputs = plugins_view classes.inputs.items;
  processors = plugins_view classes.processors.items;
  aggregators = plugins_view classes.aggregators.items;
  outputs = plugins_view classes.outputs.items;
}
