-- The key that a fault of a configuration is about.
use Rattle.std.specs.Prelude.{ℕ, List, if◌then◌else◌, Option, Some, None, is_some, codes, slice_get}
use Rattle.std.specs.Prelude.{option_and_then}
use Rattle.toml.specs.Data.{Data, Members, as_str, as_table, member, no_members}
use Rattle.agent_config.specs.Faults.{Plugin, entry_faults, first, global_tag_faults, plugins_at, tree_of}
use Rattle.agent_config.specs.Found.{Wrong, wrong}
use Rattle.agent_config.specs.Keys.{is_root_key}
use Rattle.agent_config.specs.Kinds.{keys_of}
use Rattle.agent_config.specs.Rows.{table_at}
use Rattle.agent_config.specs.Unless.{unless}
use Rattle.agent_config.specs.declared.fault.Class.{Class}
use Rattle.agent_config.specs.declared.fault.Class.TheVariants.{Agent, Aggregators, GlobalTags, Inputs}
use Rattle.agent_config.specs.declared.fault.Class.TheVariants.{Outputs, Processors, Root}
use Rattle.agent_config.specs.declared.fault.ConfigFault.{ConfigFault}
use Rattle.agent_config.specs.declared.fault.ConfigKind.{ConfigKind}
use Rattle.agent_config.specs.declared.fault.ConfigKind.TheVariants.{TooManyPlugins, UnknownKind}
use Rattle.agent_config.specs.declared.fault.FaultKind.TheVariants.{UnknownKey, WrongType}
use Rattle.agent_config.specs.declared.table.Keys.{Keys}
use Rattle.agent_config.specs.declared.table.Keys.TheVariants as tables

-- the first key of a table that has a fault
abbrev pub faulty_key : (List ℕ → Data → List Wrong) → Members → Option (List ℕ)
faulty_key faults no_members = None
faulty_key faults (member key value members) =
    if is_some (first (faults key value)) then Some key else faulty_key faults members

-- the first of two, where there is one
abbrev pub either_key : Option (List ℕ) → Option (List ℕ) → Option (List ℕ)
either_key None second = second
either_key (Some key) second = Some key

-- the fault of a key of the root that isn't known, and of one whose value is no table
abbrev pub unknown_root_key : List ℕ → Data → List Wrong
unknown_root_key key value = unless (is_root_key key) (wrong UnknownKey key)

abbrev pub no_root_table : List ℕ → Data → List Wrong
no_root_table key value = unless (is_some (as_table value)) (wrong WrongType key)

abbrev pub root_key : Members → Option (List ℕ)
root_key root = either_key (faulty_key unknown_root_key root) (faulty_key no_root_table root)

abbrev pub global_entry : List ℕ → Data → List Wrong
global_entry key value = global_tag_faults key (as_str value)

abbrev pub key_in_table : Keys → Option Members → Option (List ℕ)
key_in_table keys None = None
key_in_table keys (Some members) = faulty_key (entry_faults keys) members

-- of a plugin its kind, where that isn't known, none where there are too many, else the first faulty key of
-- its table
abbrev pub key_of_plugin : Class → ConfigKind → Plugin → Option (List ℕ)
key_of_plugin class UnknownKind plugin = Some plugin.name
key_of_plugin class TooManyPlugins plugin = None
key_of_plugin class kind plugin = key_in_table (keys_of class plugin.name) (as_table plugin.value)

abbrev pub key_in_class : Class → ConfigKind → Option Plugin → Option (List ℕ)
key_in_class class kind None = None
key_in_class class kind (Some plugin) = key_of_plugin class kind plugin

-- the key that a fault of a class, with its number, is about
abbrev pub key_at : Members → Class → ConfigKind → ℕ → Option (List ℕ)
key_at root Root kind number = root_key root
key_at root Agent kind number = faulty_key (entry_faults tables.Agent) (table_at (codes "agent") root)
key_at root GlobalTags kind number = faulty_key global_entry (table_at (codes "global_tags") root)
key_at root Inputs kind number =
    key_in_class Inputs kind (slice_get (plugins_at (codes "inputs") root) number)
key_at root Processors kind number =
    key_in_class Processors kind (slice_get (plugins_at (codes "processors") root) number)
key_at root Aggregators kind number =
    key_in_class Aggregators kind (slice_get (plugins_at (codes "aggregators") root) number)
key_at root Outputs kind number =
    key_in_class Outputs kind (slice_get (plugins_at (codes "outputs") root) number)

-- the key that a fault of a text is about: none where it is about a whole table, or about more than one
abbrev pub key_of : List ℕ → ConfigFault → Option (List ℕ)
key_of text fault =
    option_and_then (λ root. key_at root fault.class fault.kind fault.number) (tree_of text)
