-- What is wrong with a configuration: a list, of which the first counts.
use Rattle.std.specs.Prelude.{◌==◌, ◌&&◌, ◌||◌, ◌+◌, ℕ, ℤ, Bool, false, not, take, drop, decimal}
use Rattle.std.specs.Prelude.{List, [], ◌∷◌, ◌++◌, length, map, chars, codes, nat_le}
use Rattle.std.specs.Prelude.{Option, Some, None, is_some, option_and_then, option_map, unwrap_or}
use Rattle.std.specs.Prelude.{if◌then◌else◌}
use Rattle.std.specs.List.{list_any}
use Rattle.std.specs.Result.{result_ok}
use Rattle.std.specs.Str.{bytes_eq, is_utf8}
use Rattle.toml.specs.Data.{Data, Items, no_items, item}
use Rattle.toml.specs.Data.{Members, no_members, member, get_member, as_table, as_array, as_str, as_integer}
use Rattle.toml.specs.Data.{as_bool}
use Rattle.toml.specs.Parse.{parse_document}
use Rattle.metric.specs.Glob.{glob_of}
use Rattle.format_words.specs.Template.{template_of}
use Rattle.format_words.specs.Template.{Shape as Template}
use Rattle.agent_config.specs.Found.{Found, Wrong, at, fault_of, whole, wrong, wrong_text}
use Rattle.agent_config.specs.Keys.{is_one_of, is_root_key, names_of, statistics}
use Rattle.agent_config.specs.Kinds.{agent_limits, kind_of, limits_faults, needs, own_faults, place_key, row_of}
use Rattle.agent_config.specs.Kinds.{number_at, text_at}
use Rattle.agent_config.specs.Rows.{is_counted, is_long_enough, is_no_text, members_in, table_at, time_in}
use Rattle.agent_config.specs.Unless.{unless}
use Rattle.agent_config.specs.Usual.{usual_packets, usual_quiet_limit}
use Rattle.agent_config.specs.declared.shapes.Shape.{Shape}
use Rattle.agent_config.specs.declared.shapes.Shape.TheVariants.{Anything, Count, Truth, Place, AnyText, Files}
use Rattle.agent_config.specs.declared.shapes.Shape.TheVariants.{OneOf, Templates, Time, Globs, TagGlobs}
use Rattle.agent_config.specs.declared.shapes.Shape.TheVariants.{WholeNumber, Table, Tables, Statistics}
use Rattle.agent_config.specs.Inner.{count_of, inner_key, inner_needs, sources}
use Rattle.agent_config.specs.declared.inner.Inner.{Inner}
use Rattle.agent_config.specs.declared.inner.Inner.TheVariants.{Replacement}
use Rattle.agent_config.specs.declared.inner.InnerShape.{InnerShape}
use Rattle.agent_config.specs.declared.inner.InnerShape.TheVariants.{FilledText, Pattern}
use Rattle.agent_config.specs.declared.inner.InnerShape.TheVariants.{AnyText as InnerText, Globs as InnerGlobs}
use Rattle.proc_regex.specs.Pattern.{is_pattern}
use Rattle.agent_config.specs.declared.spelled.Spelled.{Spelled}
use Rattle.agent_config.specs.declared.spelled.Spelled.TheVariants as spells
use Rattle.agent_config.specs.declared.table.Keys.{Keys}
use Rattle.agent_config.specs.declared.table.Keys.TheVariants as tables
use Rattle.agent_config.specs.declared.table.Kind.{Kind}
use Rattle.agent_config.specs.declared.table.Kind.TheVariants.{StatsdInput}
use Rattle.agent_config.specs.Told.{fault_told}
use Rattle.agent_config.specs.declared.fault.ConfigFault.{ConfigFault}
use Rattle.agent_config.specs.declared.fault.Fault.{Fault}
use Rattle.agent_config.specs.declared.fault.FaultKind.{FaultKind}
use Rattle.agent_config.specs.declared.fault.FaultKind.TheVariants.{NotToml, UnknownKind, UnknownKey}
use Rattle.agent_config.specs.declared.fault.FaultKind.TheVariants.{WrongType}
use Rattle.agent_config.specs.declared.fault.FaultKind.TheVariants.{Missing, OutOfRange, BadGlob, BadPattern}
use Rattle.agent_config.specs.declared.fault.FaultKind.TheVariants.{BadTemplate}
use Rattle.agent_config.specs.declared.fault.FaultKind.TheVariants.{TooManyPlugins}
use Rattle.agent_config.specs.declared.fault.FaultKind.TheVariants.{NoInput, NoOutput}
use Rattle.agent_config.specs.declared.fault.FaultKind.TheVariants.{SamePlace}
use Rattle.agent_config.specs.declared.tables.Limits.{Limits}
use Rattle.agent_config.specs.declared.fault.Class.{Class}
use Rattle.agent_config.specs.declared.fault.Class.TheVariants.{Root, Agent, GlobalTags, Inputs, Processors}
use Rattle.agent_config.specs.declared.fault.Class.TheVariants.{Aggregators, Outputs}

-- the first of a list
abbrev pub first : {X : Type 0} → List X → Option X
first [] = None
first (x ∷ xs) = Some x

-- ---- values

-- what each of some items is read as, or None where one isn't
abbrev pub all_of : {X : Type 0} → (Data → Option X) → Items → Option (List X)
all_of read no_items = Some []
all_of read (item value items) = option_and_then (λ x. option_map (λ xs. x ∷ xs) (all_of read items)) (read value)

-- the texts of items, or None where an item is none
abbrev pub texts_of : Items → Option (List (List ℕ))
texts_of items = all_of as_str items

-- the texts of a value that is a list of texts
abbrev pub texts_in : Data → Option (List (List ℕ))
texts_in value = option_and_then texts_of (as_array value)

-- a value of a key, by whether what it is read as is right: WrongType where it is of another type than the key takes,
-- OutOfRange where it isn't right
abbrev pub range_faults : List ℕ → Option Bool → List Wrong
range_faults key None = wrong WrongType key ∷ []
range_faults key (Some right) = unless right (wrong OutOfRange key)

-- is a text not empty
abbrev pub is_filled : List ℕ → Bool
is_filled text = not (length text == 0)

-- are texts exactly one, which isn't empty
abbrev pub is_one_place : List (List ℕ) → Bool
is_one_place (text ∷ []) = is_filled text
is_one_place texts = false

-- a time that is no shorter than the least
abbrev pub time_faults : List ℕ → ℤ → Data → List Wrong
time_faults key least value =
    if is_some (as_integer value) || is_some (as_str value)
    then unless (is_long_enough least (time_in value)) (wrong OutOfRange key)
    else wrong WrongType key ∷ []

-- is the text a glob
abbrev pub is_glob : List ℕ → Bool
is_glob text = is_some (glob_of (chars text))

-- the template that a text spells; None where it spells none
unfoldable pub template_in : List ℕ → Option Template
template_in text = result_ok (template_of text)

-- is the text a template
abbrev pub is_template : List ℕ → Bool
is_template text = is_some (template_in text)

-- does a text spell what the texts of its list have to
abbrev pub is_spelled : Spelled → List ℕ → Bool
is_spelled spells.Glob text = is_glob text
is_spelled spells.Template text = is_template text
is_spelled spells.Statistic text = is_one_of statistics text

-- what is wrong with one that doesn't
abbrev pub misspelled : Spelled → FaultKind
misspelled spells.Glob = BadGlob
misspelled spells.Template = BadTemplate
misspelled spells.Statistic = OutOfRange

-- the texts at a key that don't spell it
abbrev pub spelling_faults : List ℕ → Spelled → List (List ℕ) → List Wrong
spelling_faults key spelled [] = []
spelling_faults key spelled (text ∷ texts) =
    unless (is_spelled spelled text) (wrong_text (misspelled spelled) key text) ++ spelling_faults key spelled texts

-- the faults of a list of texts: WrongType where it is none, before all else in it
abbrev pub texts_faults : List ℕ → Spelled → Option (List (List ℕ)) → List Wrong
texts_faults key spelled None = wrong WrongType key ∷ []
texts_faults key spelled (Some texts) = spelling_faults key spelled texts

-- the faults of a tag with a list of globs, at a key of tables of them
abbrev pub listed_faults : List ℕ → List ℕ → Option (List (List ℕ)) → List Wrong
listed_faults key tag None = wrong WrongType key ∷ []
listed_faults key tag (Some texts) =
    unless (is_filled tag) (wrong OutOfRange key) ++ spelling_faults key spells.Glob texts

-- the faults of tags with lists of globs, in order
abbrev pub tag_faults : List ℕ → Members → List Wrong
tag_faults key no_members = []
tag_faults key (member tag value members) = listed_faults key tag (texts_in value) ++ tag_faults key members

abbrev pub tagged_faults : List ℕ → Option Members → List Wrong
tagged_faults key None = wrong WrongType key ∷ []
tagged_faults key (Some members) = tag_faults key members

-- ---- tables inside values. A fault there is about the outer key, and has the inner one as its text

-- a text that isn't empty, at a key of an inner table
abbrev pub filled_faults : List ℕ → List ℕ → Option (List ℕ) → List Wrong
filled_faults key inner None = wrong_text WrongType key inner ∷ []
filled_faults key inner (Some text) = unless (is_filled text) (wrong_text OutOfRange key inner)

-- a pattern; of another text the fault has the text itself
abbrev pub pattern_faults : List ℕ → List ℕ → Option (List ℕ) → List Wrong
pattern_faults key inner None = wrong_text WrongType key inner ∷ []
pattern_faults key inner (Some text) = unless (is_pattern text) (wrong_text BadPattern key text)

-- a list of globs
abbrev pub inner_glob_faults : List ℕ → List ℕ → Option (List (List ℕ)) → List Wrong
inner_glob_faults key inner None = wrong_text WrongType key inner ∷ []
inner_glob_faults key inner (Some texts) = spelling_faults key spells.Glob texts

-- what is wrong with one key of an inner table: it isn't known, or its value is wrong
abbrev pub inner_value_faults : List ℕ → List ℕ → Option InnerShape → Data → List Wrong
inner_value_faults key inner None value = wrong_text UnknownKey key inner ∷ []
inner_value_faults key inner (Some FilledText) value = filled_faults key inner (as_str value)
inner_value_faults key inner (Some InnerText) value = unless (is_some (as_str value)) (wrong_text WrongType key inner)
inner_value_faults key inner (Some Pattern) value = pattern_faults key inner (as_str value)
inner_value_faults key inner (Some InnerGlobs) value = inner_glob_faults key inner (texts_in value)

-- what is wrong with its keys, in order
abbrev pub inner_keys_faults : List ℕ → Inner → Members → List Wrong
inner_keys_faults key kind no_members = []
inner_keys_faults key kind (member inner value members) =
    inner_value_faults key inner (inner_key kind inner) value ++ inner_keys_faults key kind members

-- what is renamed stands at just one key
abbrev pub source_faults : List ℕ → Inner → Members → List Wrong
source_faults key Replacement members = unless (count_of sources members == 1) (wrong Missing key)
source_faults key kind _ = []

-- keys that it needs and that aren't there
abbrev pub inner_missing_faults : List ℕ → List (List ℕ) → Members → List Wrong
inner_missing_faults key [] _ = []
inner_missing_faults key (inner ∷ inners) members =
    unless (is_some (get_member inner members)) (wrong_text Missing key inner)
    ++ inner_missing_faults key inners members

-- what is wrong with an inner table: its keys in order, then those that it lacks
abbrev pub inner_faults : List ℕ → Inner → Members → List Wrong
inner_faults key kind members =
    inner_keys_faults key kind members
    ++ (source_faults key kind members ++ inner_missing_faults key (inner_needs kind) members)

-- what is wrong with a value that is an inner table
abbrev pub table_value_faults : List ℕ → Inner → Option Members → List Wrong
table_value_faults key kind None = wrong WrongType key ∷ []
table_value_faults key kind (Some members) = inner_faults key kind members

-- the tables of items, or None where an item is none
abbrev pub tables_of : Items → Option (List Members)
tables_of items = all_of as_table items

-- the tables of a value that is a list of tables
abbrev pub tables_in : Data → Option (List Members)
tables_in value = option_and_then tables_of (as_array value)

-- what is wrong with each of some inner tables, from the first on
abbrev pub each_table_faults : List ℕ → Inner → List Members → List Wrong
each_table_faults key kind [] = []
each_table_faults key kind (members ∷ tables) =
    inner_faults key kind members ++ each_table_faults key kind tables

-- what is wrong with a list of inner tables: WrongType where it is none, before all else in it
abbrev pub tables_faults : List ℕ → Inner → Option (List Members) → List Wrong
tables_faults key kind None = wrong WrongType key ∷ []
tables_faults key kind (Some tables) = each_table_faults key kind tables

-- what is wrong with the value of a key
abbrev pub value_faults : List ℕ → Shape → Data → List Wrong
value_faults key Anything value = []
value_faults key (Count row) value = range_faults key (option_map (is_counted row.most) (as_integer value))
value_faults key (Truth usual) value = unless (is_some (as_bool value)) (wrong WrongType key)
value_faults key (Place usual) value = range_faults key (option_map is_filled (as_str value))
value_faults key (AnyText usual) value = unless (is_some (as_str value)) (wrong WrongType key)
value_faults key (OneOf names) value = range_faults key (option_map (is_one_of (names_of names)) (as_str value))
value_faults key Templates value = texts_faults key spells.Template (texts_in value)
value_faults key Files value = range_faults key (option_map is_one_place (texts_in value))
value_faults key (Time row) value = time_faults key row.least value
value_faults key Globs value = texts_faults key spells.Glob (texts_in value)
value_faults key TagGlobs value = tagged_faults key (as_table value)
value_faults key WholeNumber value = unless (is_some (as_integer value)) (wrong WrongType key)
value_faults key (Table kind) value = table_value_faults key kind (as_table value)
value_faults key (Tables kind) value = tables_faults key kind (tables_in value)
value_faults key Statistics value = texts_faults key spells.Statistic (texts_in value)

-- ---- tables

-- what is wrong with one key: it isn't known, or its value is wrong
abbrev pub key_faults : List ℕ → Option Shape → Data → List Wrong
key_faults key None value = wrong UnknownKey key ∷ []
key_faults key (Some shape) value = value_faults key shape value

-- what is wrong with a key of a table
unfoldable pub entry_faults : Keys → List ℕ → Data → List Wrong
entry_faults keys key value = key_faults key (row_of keys key) value

-- what is wrong with the keys of a table, in order
abbrev pub keys_faults : Keys → Members → List Wrong
keys_faults keys no_members = []
keys_faults keys (member key value members) = entry_faults keys key value ++ keys_faults keys members

-- a global tag: a text under a key that isn't empty
abbrev pub global_tag_faults : List ℕ → Option (List ℕ) → List Wrong
global_tag_faults key value = range_faults key (option_map (λ text. is_filled key) value)

abbrev pub global_faults : Members → List Wrong
global_faults no_members = []
global_faults (member key value members) = global_tag_faults key (as_str value) ++ global_faults members

-- ---- plugins

-- a plugin: the name of its kind, and its value
pub record Plugin : Type 0 where
  pub name : List ℕ
  pub value : Data

-- the plugins of one kind, each item one
abbrev pub listed : List ℕ → Items → List Plugin
listed name no_items = []
listed name (item value items) = record { name = name; value = value } ∷ listed name items

-- the plugins of one kind: those of an array, or else the value itself
abbrev pub of_kind : List ℕ → Data → Option Items → List Plugin
of_kind name value None = record { name = name; value = value } ∷ []
of_kind name value (Some items) = listed name items

-- the plugins of a class, by number
abbrev pub plugins_of : Members → List Plugin
plugins_of no_members = []
plugins_of (member name value members) = of_kind name value (as_array value) ++ plugins_of members

-- the faults of each plugin, from a number on
abbrev pub numbered : Class → (Plugin → List Wrong) → ℕ → List Plugin → List Found
numbered class faults number [] = []
numbered class faults number (plugin ∷ plugins) =
    at class number (faults plugin) ++ numbered class faults (number + 1) plugins

-- a kind that the class hasn't
abbrev pub unknown_faults : Class → Plugin → List Wrong
unknown_faults class plugin = unless (is_some (kind_of class plugin.name)) (wrong UnknownKind plugin.name)

unfoldable pub agent_faults : Members → List Wrong
agent_faults agent = keys_faults tables.Agent agent ++ limits_faults (agent_limits agent)

-- keys that are needed and aren't there
abbrev pub missing_faults : List (List ℕ) → Members → List Wrong
missing_faults [] _ = []
missing_faults (key ∷ keys) members =
    unless (is_some (get_member key members)) (wrong Missing key) ++ missing_faults keys members

-- the faults of a table that is a plugin of a kind: its keys in order, then keys that it lacks, then its own
abbrev pub kind_faults : Kind → Limits → Members → List Wrong
kind_faults kind limits members =
    keys_faults (tables.Plugin kind) members ++ (missing_faults (needs kind) members ++ own_faults kind limits members)

-- the faults of a plugin, where its kind is known
abbrev pub faults_by : Option Kind → Limits → Option Members → List Wrong
faults_by None _ _ = []
faults_by (Some kind) limits None = whole WrongType false ∷ []
faults_by (Some kind) limits (Some members) = kind_faults kind limits members

unfoldable pub plugin_faults : Class → Limits → Plugin → List Wrong
plugin_faults class limits plugin = faults_by (kind_of class plugin.name) limits (as_table plugin.value)

-- the most plugins of a class
abbrev pub most_plugins : ℕ
most_plugins = 16

-- those of them that may be there: what is behind them is too many, and isn't looked at
abbrev pub few : List Plugin → List Plugin
few plugins = take most_plugins plugins

-- the faults of a class: too many plugins, then unknown kinds by number, then each known plugin by number
unfoldable pub class_faults : Class → Limits → List Plugin → List Found
class_faults class limits plugins =
    at class most_plugins (unless (nat_le (length plugins) most_plugins) (whole TooManyPlugins false))
    ++ (numbered class (unknown_faults class) 0 (few plugins)
    ++ numbered class (plugin_faults class limits) 0 (few plugins))

-- ---- places

-- the only item of a list
abbrev pub only_item : Items → Option Data
only_item (item value no_items) = Some value
only_item items = None

-- the only text of the list at a key; no text where there is no such list
abbrev pub only_text_at : List ℕ → Members → List ℕ
only_text_at key members =
    unwrap_or (option_and_then as_str (option_and_then only_item (option_and_then as_array
    (get_member key members)))) []

-- the text of the list of one place that a key has, where there is such a key
abbrev pub place_at : Option (List ℕ) → Members → List ℕ
place_at None _ = []
place_at (Some key) members = only_text_at key members

-- the place of a server: that it listens on UDP, its address, how many packets a group has, and after how many quiets
-- in succession it is at its end
abbrev pub udp_place : List ℕ → ℕ → ℕ → List ℕ
udp_place address packets quiet_limit =
    codes "udp " ++ (address ++ (codes " " ++ (decimal packets ++ (codes " " ++ decimal quiet_limit))))

-- no text where the server has no address
abbrev pub listening_place : List ℕ → ℕ → ℕ → List ℕ
listening_place address packets quiet_limit =
    if length address == 0 then [] else udp_place address packets quiet_limit

-- the place of a StatsD server: a number that is faulty, or isn't said, is the usual one there
abbrev pub server_place : Members → List ℕ
server_place members =
    listening_place (text_at (tables.Plugin StatsdInput) (codes "service_address") members)
    (number_at (tables.Plugin StatsdInput) (codes "packets") usual_packets members)
    (number_at (tables.Plugin StatsdInput) (codes "quiet_limit") usual_quiet_limit members)

-- the place of a plugin of a kind
abbrev pub place_in : Kind → Members → List ℕ
place_in StatsdInput members = server_place members
place_in kind members = place_at (place_key kind) members

-- the place of a plugin, where its kind is known
abbrev pub place_by : Option Kind → Members → List ℕ
place_by None _ = []
place_by (Some kind) members = place_in kind members

abbrev pub place_of : Class → Plugin → List ℕ
place_of class plugin = place_by (kind_of class plugin.name) (members_in (as_table plugin.value))

-- does a place stand among others
abbrev pub stands_in : List (List ℕ) → List ℕ → Bool
stands_in places place = list_any (λ other. bytes_eq other place) places

-- does that a place stands among those before it only follow: no value says it, or the first of them, which is that of
-- the journal, stands for a faulty one, and no other is the same
abbrev pub only_follows : Bool → List (List ℕ) → List ℕ → Bool
only_follows faulty before place = length place == 0 || (faulty && not (stands_in (drop 1 before) place))

-- the places that stand already among those before them, by number
abbrev pub same_faults : Class → ℕ → Bool → List (List ℕ) → List (List ℕ) → List Found
same_faults class number faulty before [] = []
same_faults class number faulty before (place ∷ places) =
    at class number (unless (not (stands_in before place)) (whole SamePlace (only_follows faulty before place)))
    ++ same_faults class (number + 1) faulty (before ++ place ∷ []) places

-- the place of the journal
abbrev pub journal_of : Members → List ℕ
journal_of agent = text_at tables.Agent (codes "journal") agent

-- does it stand for a value that is no text
abbrev pub is_journal_faulty : Members → Bool
is_journal_faulty agent = is_no_text (get_member (codes "journal") agent)

-- ---- the whole

abbrev pub plugins_at : List ℕ → Members → List Plugin
plugins_at key root = plugins_of (table_at key root)

-- the plugins of the classes
pub record Classes : Type 0 where
  pub inputs : List Plugin
  pub processors : List Plugin
  pub aggregators : List Plugin
  pub outputs : List Plugin

abbrev pub classes_of : Members → Classes
classes_of root = record {
  inputs = plugins_at (codes "inputs") root;
  processors = plugins_at (codes "processors") root;
  aggregators = plugins_at (codes "aggregators") root;
  outputs = plugins_at (codes "outputs") root;
}

-- the keys of the root that aren't known
abbrev pub root_key_faults : Members → List Wrong
root_key_faults no_members = []
root_key_faults (member key value root) = unless (is_root_key key) (wrong UnknownKey key) ++ root_key_faults root

-- the values of the root that are no table
abbrev pub root_value_faults : Members → List Wrong
root_value_faults no_members = []
root_value_faults (member key value root) =
    unless (is_some (as_table value)) (wrong WrongType key) ++ root_value_faults root

-- the faults of the root and of the tables that aren't classes of plugins
abbrev pub table_faults : Members → List Found
table_faults root =
    at Root 0 (root_key_faults root ++ root_value_faults root)
    ++ (at Agent 0 (agent_faults (table_at (codes "agent") root))
    ++ at GlobalTags 0 (global_faults (table_at (codes "global_tags") root)))

-- the faults of the classes of plugins
abbrev pub classes_faults : Limits → Classes → List Found
classes_faults limits classes =
    class_faults Inputs limits classes.inputs
    ++ (class_faults Processors limits classes.processors
    ++ (class_faults Aggregators limits classes.aggregators
    ++ class_faults Outputs limits classes.outputs))

-- a class without a plugin that needs one
abbrev pub none_faults : List Plugin → FaultKind → List Found
none_faults plugins kind = at Root 0 (unless (not (length plugins == 0)) (whole kind false))

-- the faults of classes beside others: none has a plugin, or two have one place
abbrev pub beside_faults : Members → Classes → List Found
beside_faults agent classes =
    none_faults classes.inputs NoInput
    ++ (none_faults classes.outputs NoOutput
    ++ (same_faults Inputs 0 false [] (map (place_of Inputs) (few classes.inputs))
    ++ same_faults Outputs 0 (is_journal_faulty agent) (journal_of agent ∷ [])
    (map (place_of Outputs) (few classes.outputs))))

-- the faults of a text that is TOML, in order
abbrev pub faults_of : Members → List Found
faults_of root =
    table_faults root
    ++ (classes_faults (agent_limits (table_at (codes "agent") root)) (classes_of root)
    ++ beside_faults (table_at (codes "agent") root) (classes_of root))

-- 1 MiB, the longest text that is read
abbrev pub longest_text : ℕ
longest_text = 1048576

-- the tree of a text: one that isn't too long, is UTF-8 and is TOML
abbrev pub tree_of : List ℕ → Option Members
tree_of text = if nat_le (length text) longest_text && is_utf8 text then parse_document text else None

-- what is found in a tree, or NotToml alone
abbrev pub found_in : Option Members → List Found
found_in None = at Root 0 (whole NotToml false ∷ [])
found_in (Some root) = faults_of root

-- the faults of a tree
abbrev pub tree_faults : Option Members → List Fault
tree_faults tree = map fault_of (found_in tree)

-- the same as they are told
abbrev pub faults_in : Option Members → List ConfigFault
faults_in tree = map fault_told (tree_faults tree)

-- the faults of a text
abbrev pub text_faults : List ℕ → List ConfigFault
text_faults text = faults_in (tree_of text)
