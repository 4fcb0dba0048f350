-- What messages name: the keys of tables and what they take, and plugins as their file has them.
use Rattle.std.specs.Ordering.{int_eq}
use Rattle.std.specs.Prelude.{◌+◌, ◌-◌, ℕ, List, [], ◌∷◌, codes, drop, map, take, nat_lt, pos}
use Rattle.std.specs.Prelude.{Option, Some, None, is_some, option_and_then, option_map, if◌then◌else◌}
use Rattle.std.specs.Str.{bytes_eq}
use Rattle.toml.specs.Data.{Data, Items, Members, as_array, item, member, no_items, no_members}
use Rattle.agent_config.specs.Faults.{Plugin, place_of, plugins_of, tree_of}
use Rattle.agent_config.specs.Kinds.{keys_of}
use Rattle.agent_config.specs.Listed.{faults_listed}
use Rattle.agent_config.specs.Rows.{table_at}
use Rattle.agent_config.specs.declared.fault.Class.{Class}
use Rattle.agent_config.specs.declared.fault.Class.TheVariants as classes
use Rattle.agent_config.specs.declared.fault.ConfigFault.{ConfigFault}
use Rattle.agent_config.specs.declared.fault.ConfigKind.{ConfigKind}
use Rattle.agent_config.specs.declared.fault.ConfigKind.TheVariants as kinds
use Rattle.agent_config.specs.declared.fault.ListedFault.{ListedFault}
use Rattle.agent_config.specs.declared.naming.FaultNames.{FaultNames}
use Rattle.agent_config.specs.declared.naming.PluginName.{PluginName}
use Rattle.agent_config.specs.declared.inner.Inner.{Inner}
use Rattle.agent_config.specs.declared.inner.Inner.TheVariants.{Replacement, FieldTargets, TagTargets, Rewriting}
use Rattle.agent_config.specs.declared.naming.Takes.{Takes}
use Rattle.agent_config.specs.declared.naming.Takes.TheVariants as takes
use Rattle.agent_config.specs.declared.shapes.Names.TheVariants.{ReadFormats, WrittenFormats}
use Rattle.agent_config.specs.declared.shapes.Shape.{Shape}
use Rattle.agent_config.specs.declared.shapes.Shape.TheVariants as shapes
use Rattle.agent_config.specs.declared.table.Keys.{Keys}
use Rattle.agent_config.specs.declared.table.Keys.TheVariants as tables

-- the keys of the table `agent`, or of a plugin of a class whose kind has this name
abbrev pub keys_in : Class → List ℕ → Keys
keys_in classes.Agent name = tables.Agent
keys_in class name = keys_of class name

-- what a key takes whose value has such tables in it
abbrev pub inner_takes : Inner → Takes
inner_takes Replacement = takes.Replacements
inner_takes FieldTargets = takes.FieldTargets
inner_takes TagTargets = takes.TagTargets
inner_takes Rewriting = takes.Rewritings

-- what a key of a row takes
abbrev pub takes_of : Shape → Takes
takes_of shapes.Anything = takes.Anything
takes_of (shapes.Count row) = takes.Number row.most
takes_of (shapes.Truth usual) = takes.Truth
takes_of (shapes.Place usual) = takes.FilledText
takes_of (shapes.AnyText usual) = takes.AnyText
takes_of (shapes.OneOf ReadFormats) = takes.ReadFormat
takes_of (shapes.OneOf WrittenFormats) = takes.WrittenFormat
takes_of shapes.Templates = takes.Templates
takes_of shapes.Files = takes.Files
takes_of (shapes.Time row) = if int_eq row.least (pos 0) then takes.TimeFromZero else takes.Time
takes_of shapes.Globs = takes.Globs
takes_of shapes.TagGlobs = takes.TagGlobs
takes_of shapes.WholeNumber = takes.WholeNumber
takes_of (shapes.Table inner) = inner_takes inner
takes_of (shapes.Tables inner) = inner_takes inner
takes_of shapes.Statistics = takes.Statistics

-- ---- plugins as their file has them

-- how many plugins of its kind a value stands for
abbrev pub items_count : Items → ℕ
items_count no_items = 0
items_count (item value items) = items_count items + 1

abbrev pub count_by : Option Items → ℕ
count_by None = 1
count_by (Some items) = items_count items

abbrev pub count_in : Data → ℕ
count_in value = count_by (as_array value)

-- the plugin of a class with a number: its kind, and which of the kind it is, counted from 1
abbrev pub plugin_name : Members → ℕ → Option PluginName
plugin_name no_members number = None
plugin_name (member kind value members) number =
    if nat_lt number (count_in value) then Some (record {
      kind = kind;
      at = number + 1;
      of = count_in value;
      is_listed = is_some (as_array value);
    })
    else plugin_name members (number - count_in value)

-- the number of the first plugin that has a place
abbrev pub first_at : Class → List ℕ → List Plugin → Option ℕ
first_at class place [] = None
first_at class place (plugin ∷ plugins) =
    if bytes_eq (place_of class plugin) place then Some 0
    else option_map (λ number. number + 1) (first_at class place plugins)

-- the number of the first of some plugins that has the place of the one behind them
abbrev pub same_in : Class → List Plugin → List Plugin → Option ℕ
same_in class before [] = None
same_in class before (plugin ∷ plugins) = first_at class (place_of class plugin) before

-- the number of the first plugin that has the place of the one with a number, before it
abbrev pub same_before : Class → List Plugin → ℕ → Option ℕ
same_before class plugins number = same_in class (take number plugins) (drop number plugins)

-- that plugin
abbrev pub other_name : Class → Members → ℕ → Option PluginName
other_name class table number = option_and_then (plugin_name table) (same_before class (plugins_of table) number)

-- the table of a class of plugins
abbrev pub class_table : Class → Members → Members
class_table classes.Inputs root = table_at (codes "inputs") root
class_table classes.Processors root = table_at (codes "processors") root
class_table classes.Aggregators root = table_at (codes "aggregators") root
class_table classes.Outputs root = table_at (codes "outputs") root
class_table class root = no_members

-- what a message names of a fault, given the table of its class: the plugin that it is about, and the one that has its
-- place already
abbrev pub named_plugin : ConfigKind → Members → ℕ → Option PluginName
named_plugin kinds.TooManyPlugins table number = None
named_plugin kind table number = plugin_name table number

abbrev pub named_other : ConfigKind → Class → Members → ℕ → Option PluginName
named_other kinds.SamePlace class table number = other_name class table number
named_other kind class table number = None

abbrev pub names_of : ConfigFault → Members → FaultNames
names_of fault table = record {
  plugin = named_plugin fault.kind table fault.number;
  other = named_other fault.kind fault.class table fault.number;
}

abbrev pub names_in : Members → ListedFault → FaultNames
names_in root listed = names_of listed.fault (class_table listed.fault.class root)

-- what messages name of each of a text's faults; nothing of a text that is no TOML
abbrev pub names_by : Option Members → List ListedFault → List FaultNames
names_by None faults = []
names_by (Some root) faults = map (names_in root) faults

abbrev pub names_listed : List ℕ → List FaultNames
names_listed text = names_by (tree_of text) (faults_listed text)
