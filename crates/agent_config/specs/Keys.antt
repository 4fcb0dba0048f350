-- The keys of the tables of a configuration, and what each takes: a row for each key.
use Rattle.std.specs.Prelude.{ℕ, Bool, true, false, List, [], ◌∷◌, codes, pos, Option, Some, None, if◌then◌else◌}
use Rattle.std.specs.List.{list_any}
use Rattle.std.specs.Str.{bytes_eq}
use Rattle.agent_config.specs.declared.shapes.Names.{Names}
use Rattle.agent_config.specs.declared.shapes.Names.TheVariants.{ReadFormats, WrittenFormats}
use Rattle.agent_config.specs.declared.shapes.Shape.{Shape}
use Rattle.agent_config.specs.declared.shapes.UsualText.{UsualText}
use Rattle.agent_config.specs.declared.shapes.UsualText.TheVariants.{Journal, Nothing, Point}
use Rattle.agent_config.specs.declared.shapes.Shape.TheVariants.{Anything, Count, Truth, Place, AnyText, Files}
use Rattle.agent_config.specs.declared.inner.Inner.TheVariants.{Replacement, FieldTargets, TagTargets, Rewriting}
use Rattle.agent_config.specs.declared.shapes.Shape.TheVariants.{OneOf, Templates, Time, Globs, TagGlobs}
use Rattle.agent_config.specs.declared.shapes.Shape.TheVariants.{WholeNumber, Table, Tables, Statistics}
use Rattle.agent_config.specs.Usual.{usual_packets, usual_quiet_limit, usual_undelivered}

-- is the key one of these
abbrev pub is_one_of : List (List ℕ) → List ℕ → Bool
is_one_of names key = list_any (λ name. bytes_eq key name) names

-- the names of the formats that are read, and of those that are written
abbrev pub names_of : Names → List (List ℕ)
names_of ReadFormats = codes "influx" ∷ codes "statsd" ∷ codes "graphite" ∷ codes "openmetrics" ∷ []
names_of WrittenFormats = codes "influx" ∷ codes "graphite" ∷ codes "openmetrics" ∷ []

-- the names of the statistics
abbrev pub statistics : List (List ℕ)
statistics = codes "sum" ∷ codes "count" ∷ codes "min" ∷ codes "max" ∷ []

-- the one of them where nothing is said
abbrev pub usual_name : Names → List ℕ
usual_name ReadFormats = codes "influx"
usual_name WrittenFormats = codes "influx"

-- what a text is where nothing is said
abbrev pub text_of : UsualText → List ℕ
text_of Journal = codes "agent.journal"
text_of Point = codes "."
text_of Nothing = []

-- the tables of the root
abbrev pub is_root_key : List ℕ → Bool
is_root_key key =
    is_one_of (codes "agent" ∷ codes "global_tags" ∷ codes "inputs" ∷ codes "processors" ∷ codes "aggregators"
    ∷ codes "outputs" ∷ []) key

-- a whole number from 1 to the first of two, which is the second where nothing is said
abbrev pub count_to : ℕ → ℕ → Option Shape
count_to most usual = Some (Count (record { most = most; usual = usual }))

-- a time of so many nanoseconds or more, and how many it has where nothing is said
abbrev pub time_from : ℕ → ℕ → Option Shape
time_from least usual = Some (Time (record { least = pos least; usual = pos usual }))

-- ---- the agent

-- has the key of `agent` no effect
abbrev pub is_unused : List ℕ → Bool
is_unused =
    is_one_of (codes "interval" ∷ codes "collection_jitter" ∷ codes "flush_jitter" ∷ codes "round_interval"
    ∷ codes "precision" ∷ codes "hostname" ∷ codes "omit_hostname" ∷ codes "debug" ∷ codes "quiet"
    ∷ codes "logfile" ∷ [])

-- what a key of `agent` takes that is one of its numbers
abbrev pub agent_number_key : List ℕ → Option Shape
agent_number_key key =
    if bytes_eq key (codes "metric_batch_size") then count_to 10000 1000
    else if bytes_eq key (codes "metric_buffer_limit") then count_to 10000 10000
    else if bytes_eq key (codes "gather_pieces") then count_to 10000 1000
    else if bytes_eq key (codes "final_tries") then count_to 100 3
    else None

-- what a key of `agent` takes
abbrev pub agent_key : List ℕ → Option Shape
agent_key key =
    if bytes_eq key (codes "flush_interval") then time_from 1 10000000000
    else if bytes_eq key (codes "workers") then Some (Truth true)
    else if bytes_eq key (codes "skip_processors_after_aggregators") then Some (Truth false)
    else if bytes_eq key (codes "journal") then Some (Place Journal)
    else if is_unused key then Some Anything
    else agent_number_key key

-- ---- plugins

-- what a key takes that each plugin has
abbrev pub plugin_key : List ℕ → Option Shape
plugin_key key =
    if bytes_eq key (codes "alias") then Some Anything
    else if is_one_of (codes "namepass" ∷ codes "namedrop" ∷ codes "fieldinclude" ∷ codes "fieldexclude"
    ∷ codes "fieldpass" ∷ codes "fielddrop" ∷ codes "taginclude" ∷ codes "tagexclude" ∷ []) key
    then Some Globs
    else if is_one_of (codes "tagpass" ∷ codes "tagdrop" ∷ []) key then Some TagGlobs
    else None

-- what a key takes that each input has
abbrev pub input_key : List ℕ → Option Shape
input_key key =
    if bytes_eq key (codes "tracked") then Some (Truth false)
    else if bytes_eq key (codes "max_undelivered_messages") then count_to 100000 usual_undelivered
    else plugin_key key

-- what a key takes that says how an input reads its format
abbrev pub read_format_key : List ℕ → Option Shape
read_format_key key =
    if bytes_eq key (codes "data_format") then Some (OneOf ReadFormats)
    else if bytes_eq key (codes "templates") then Some Templates
    else if bytes_eq key (codes "separator") then Some (AnyText Point)
    else if is_one_of (codes "type_tag" ∷ codes "pass_out_of_range" ∷ []) key then Some (Truth false)
    else input_key key

-- what a key of an input of a file takes
abbrev pub file_input_key : List ℕ → Option Shape
file_input_key key = if bytes_eq key (codes "files") then Some Files else read_format_key key

-- what a key of an input takes that is a StatsD server: it needs an address, and has no name of a format
abbrev pub statsd_input_key : List ℕ → Option Shape
statsd_input_key key =
    if bytes_eq key (codes "service_address") then Some (Place Nothing)
    else if bytes_eq key (codes "packets") then count_to 100000 usual_packets
    else if bytes_eq key (codes "quiet_limit") then count_to 1000000 usual_quiet_limit
    else input_key key

-- what a key of an output of a file takes: its sizes what those of the agent take
abbrev pub file_output_key : List ℕ → Option Shape
file_output_key key =
    if bytes_eq key (codes "files") then Some Files
    else if bytes_eq key (codes "data_format") then Some (OneOf WrittenFormats)
    else if is_one_of (codes "metric_batch_size" ∷ codes "metric_buffer_limit" ∷ []) key
    then agent_number_key key
    else plugin_key key

-- ---- processors

-- what a key takes that each processor has
abbrev pub processor_key : List ℕ → Option Shape
processor_key key = if bytes_eq key (codes "order") then Some WholeNumber else plugin_key key

-- what a key of a processor takes that converts
abbrev pub converter_key : List ℕ → Option Shape
converter_key key =
    if bytes_eq key (codes "fields") then Some (Table FieldTargets)
    else if bytes_eq key (codes "tags") then Some (Table TagTargets)
    else processor_key key

-- of one that removes what is repeated: ten minutes where nothing is said
abbrev pub dedup_key : List ℕ → Option Shape
dedup_key key =
    if bytes_eq key (codes "dedup_interval") then time_from 0 600000000000 else processor_key key

-- of one that rewrites by patterns
abbrev pub regex_key : List ℕ → Option Shape
regex_key key =
    if is_one_of (codes "fields" ∷ codes "tags" ∷ []) key then Some (Tables Rewriting) else processor_key key

-- of one that renames
abbrev pub rename_key : List ℕ → Option Shape
rename_key key = if bytes_eq key (codes "replace") then Some (Tables Replacement) else processor_key key

-- ---- aggregators

-- what a key takes that each aggregator has: a period of 30 s, a delay of 100 ms and no grace where nothing is said
abbrev pub aggregator_key : List ℕ → Option Shape
aggregator_key key =
    if bytes_eq key (codes "period") then time_from 1 30000000000
    else if bytes_eq key (codes "delay") then time_from 0 100000000
    else if bytes_eq key (codes "grace") then time_from 0 0
    else if bytes_eq key (codes "drop_original") then Some (Truth false)
    else plugin_key key

-- what a key of one of statistics takes
abbrev pub basicstats_key : List ℕ → Option Shape
basicstats_key key = if bytes_eq key (codes "stats") then Some Statistics else aggregator_key key

-- of one that gives last metrics: a timeout of five minutes where nothing is said
abbrev pub final_key : List ℕ → Option Shape
final_key key =
    if bytes_eq key (codes "series_timeout") then time_from 0 300000000000 else aggregator_key key
