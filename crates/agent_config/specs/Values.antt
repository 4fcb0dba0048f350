-- The values of a configuration, each with its default.
use Rattle.std.specs.Prelude.{◌==◌, ◌++◌, ℕ, List, [], ◌∷◌, length, map}
use Rattle.std.specs.Prelude.{codes, Option, Some, None, option_and_then, option_to_list, if◌then◌else◌}
use Rattle.std.specs.Str.{bytes_eq}
use Rattle.toml.specs.Data.{Members, no_members, member, get_member, as_str}
use Rattle.format_words.specs.Template.{Shape as Template}
use Rattle.agent_config.specs.Aggs.{agg_of}
use Rattle.agent_config.specs.Faults.{Plugin, journal_of, place_of, plugins_at, template_in, texts_in}
use Rattle.agent_config.specs.Filters.{filter_of, plugin_members}
use Rattle.agent_config.specs.Kinds.{agent_limits, agent_number, keys_of, number_at, own_limits, text_at, time_at}
use Rattle.agent_config.specs.Kinds.{truth_at}
use Rattle.agent_config.specs.Rows.{table_at}
use Rattle.agent_config.specs.Steps.{in_order, step_of}
use Rattle.agent_config.specs.Usual.{usual_undelivered}
use Rattle.agent_config.specs.declared.fault.Class.TheVariants.{Inputs, Outputs}
use Rattle.agent_config.specs.declared.table.Keys.{Keys}
use Rattle.agent_config.specs.declared.table.Keys.TheVariants.{Agent}
use Rattle.agent_config.specs.declared.tables.Limits.{Limits}
use Rattle.agent_config.specs.declared.config.AgentConf.{AgentConf}
use Rattle.agent_config.specs.declared.config.Config.{Config}
use Rattle.format_words.specs.declared.format.InFormat.{InFormat}
use Rattle.format_words.specs.declared.format.InFormat.TheVariants as read
use Rattle.agent_config.specs.declared.config.InputConf.{InputConf}
use Rattle.format_words.specs.declared.format.OutFormat.{OutFormat}
use Rattle.format_words.specs.declared.format.OutFormat.TheVariants as written
use Rattle.agent_config.specs.declared.config.OutputConf.{OutputConf}

-- ---- the agent

abbrev pub agent_of : Members → AgentConf
agent_of agent = record {
  gather_pieces = agent_number (codes "gather_pieces") agent;
  final_tries = agent_number (codes "final_tries") agent;
  flush_interval = time_at Agent (codes "flush_interval") agent;
  skip_second = truth_at Agent (codes "skip_processors_after_aggregators") agent;
  workers = truth_at Agent (codes "workers") agent;
  journal = journal_of agent;
}

-- ---- global tags: those with a value, in the order of their keys

abbrev pub global_tag : List ℕ → Option (List ℕ) → List (List ℕ × List ℕ)
global_tag key None = []
global_tag key (Some value) = if length value == 0 then [] else (key, value) ∷ []

abbrev pub globals_of : Members → List (List ℕ × List ℕ)
globals_of no_members = []
globals_of (member key value members) = global_tag key (as_str value) ++ globals_of members

-- ---- formats

-- the templates that texts spell, in order; a text that spells none is left out
abbrev pub templates_of : List (List ℕ) → List Template
templates_of [] = []
templates_of (text ∷ texts) = option_to_list (template_in text) ++ templates_of texts

-- the templates of a value that is a list of texts; another has none
abbrev pub templates_in : Option (List (List ℕ)) → List Template
templates_in None = []
templates_in (Some texts) = templates_of texts

-- the templates of an input
unfoldable pub templates_at : Members → List Template
templates_at members = templates_in (option_and_then texts_in (get_member (codes "templates") members))

-- the name of a plugin's format
abbrev pub format_name : Keys → Members → List ℕ
format_name keys members = text_at keys (codes "data_format") members

-- Graphite's lines with the templates and the separator of an input
abbrev pub graphite_at : Keys → Members → InFormat
graphite_at keys members = read.Graphite (templates_at members) (text_at keys (codes "separator") members)

-- expositions, with what an input says of them
abbrev pub openmetrics_at : Keys → Members → InFormat
openmetrics_at keys members =
    read.Openmetrics (truth_at keys (codes "type_tag") members) (truth_at keys (codes "pass_out_of_range") members)

-- the format of this name that is read; Influx where no other has the name, as at a kind that takes no name of a format
unfoldable pub in_format : Keys → List ℕ → Members → InFormat
in_format keys name members =
    if bytes_eq name (codes "statsd") then read.Statsd
    else if bytes_eq name (codes "graphite") then graphite_at keys members
    else if bytes_eq name (codes "openmetrics") then openmetrics_at keys members
    else read.Influx

-- the format of this name that is written; Influx where no other has the name
abbrev pub out_format : List ℕ → OutFormat
out_format name =
    if bytes_eq name (codes "graphite") then written.Graphite
    else if bytes_eq name (codes "openmetrics") then written.Openmetrics
    else written.Influx

-- ---- inputs and outputs

abbrev pub input_of : Plugin → InputConf
input_of plugin = record {
  place = place_of Inputs plugin;
  format = in_format (keys_of Inputs plugin.name)
      (format_name (keys_of Inputs plugin.name) (plugin_members plugin)) (plugin_members plugin);
  tracked = truth_at (keys_of Inputs plugin.name) (codes "tracked") (plugin_members plugin);
  max_undelivered = number_at (keys_of Inputs plugin.name)
      (codes "max_undelivered_messages") usual_undelivered (plugin_members plugin);
  filter = filter_of (plugin_members plugin);
}

-- an output: its batch size and its buffer limit are the agent's where it has none
abbrev pub output_of : Limits → Plugin → OutputConf
output_of limits plugin = record {
  place = place_of Outputs plugin;
  format = out_format (format_name (keys_of Outputs plugin.name) (plugin_members plugin));
  batch = (own_limits (keys_of Outputs plugin.name) limits (plugin_members plugin)).batch;
  limit = (own_limits (keys_of Outputs plugin.name) limits (plugin_members plugin)).limit;
  filter = filter_of (plugin_members plugin);
}

-- ---- the whole

abbrev pub config_of : Members → Config
config_of root = record {
  agent = agent_of (table_at (codes "agent") root);
  globals = globals_of (table_at (codes "global_tags") root);
  inputs = map input_of (plugins_at (codes "inputs") root);
  steps = map step_of (in_order (plugins_at (codes "processors") root));
  aggs = map agg_of (plugins_at (codes "aggregators") root);
  outputs = map (output_of (agent_limits (table_at (codes "agent") root))) (plugins_at
      (codes "outputs") root);
}
