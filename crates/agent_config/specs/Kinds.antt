-- The kinds of plugins: by which class and name each is known, which keys it has and needs, where its place is, and
-- which faults are its own.
use Rattle.std.specs.Prelude.{◌||◌, ℕ, ℤ, pos, Bool, false, List, [], ◌∷◌, codes, nat_le, Option, Some, None}
use Rattle.std.specs.Prelude.{option_and_then, unwrap_or, if◌then◌else◌}
use Rattle.std.specs.Str.{bytes_eq}
use Rattle.toml.specs.Data.{Members, as_integer, get_member}
use Rattle.agent_config.specs.Found.{Wrong, whole}
use Rattle.agent_config.specs.Keys.{agent_key, converter_key, dedup_key, file_input_key, file_output_key, regex_key}
use Rattle.agent_config.specs.Keys.{aggregator_key, basicstats_key, final_key, rename_key, statsd_input_key}
use Rattle.agent_config.specs.Rows.{count_row, faulty_by, row_number, row_text, row_time, row_truth, usual_of}
use Rattle.agent_config.specs.Unless.{unless}
use Rattle.agent_config.specs.declared.fault.Class.{Class}
use Rattle.agent_config.specs.declared.fault.Class.TheVariants.{Aggregators, Inputs, Outputs, Processors}
use Rattle.agent_config.specs.declared.fault.FaultKind.TheVariants.{BatchAboveLimit}
use Rattle.agent_config.specs.declared.shapes.Shape.{Shape}
use Rattle.agent_config.specs.declared.table.Keys.{Keys}
use Rattle.agent_config.specs.declared.table.Keys.TheVariants.{Agent, Plugin, Unknown}
use Rattle.agent_config.specs.declared.table.Kind.{Kind}
use Rattle.agent_config.specs.declared.table.Kind.TheVariants.{FileInput, FileOutput, Converter, Dedup, Regex, Rename}
use Rattle.agent_config.specs.declared.table.Kind.TheVariants.{BasicStats, Final, Merge, MinMax, StatsdInput}
use Rattle.agent_config.specs.declared.tables.Limits.{Limits}

-- the kind of inputs, that of outputs, that of processors, and that of aggregators, of a name
abbrev pub input_kind : List ℕ → Option Kind
input_kind name =
    if bytes_eq name (codes "file") then Some FileInput
    else if bytes_eq name (codes "statsd") then Some StatsdInput
    else None

abbrev pub output_kind : List ℕ → Option Kind
output_kind name = if bytes_eq name (codes "file") then Some FileOutput else None

abbrev pub processor_kind : List ℕ → Option Kind
processor_kind name =
    if bytes_eq name (codes "converter") then Some Converter
    else if bytes_eq name (codes "dedup") then Some Dedup
    else if bytes_eq name (codes "regex") then Some Regex
    else if bytes_eq name (codes "rename") then Some Rename
    else None

abbrev pub aggregator_kind : List ℕ → Option Kind
aggregator_kind name =
    if bytes_eq name (codes "basicstats") then Some BasicStats
    else if bytes_eq name (codes "final") then Some Final
    else if bytes_eq name (codes "merge") then Some Merge
    else if bytes_eq name (codes "minmax") then Some MinMax
    else None

-- the kind of a class that has a name
unfoldable pub kind_of : Class → List ℕ → Option Kind
kind_of Inputs name = input_kind name
kind_of Outputs name = output_kind name
kind_of Processors name = processor_kind name
kind_of Aggregators name = aggregator_kind name
kind_of class name = None

-- what a key of a plugin of a kind takes
abbrev pub kind_key : Kind → List ℕ → Option Shape
kind_key FileInput key = file_input_key key
kind_key StatsdInput key = statsd_input_key key
kind_key FileOutput key = file_output_key key
kind_key Converter key = converter_key key
kind_key Dedup key = dedup_key key
kind_key Regex key = regex_key key
kind_key Rename key = rename_key key
kind_key BasicStats key = basicstats_key key
kind_key Final key = final_key key
kind_key Merge key = aggregator_key key
kind_key MinMax key = aggregator_key key

-- the keys that a plugin of a kind needs
abbrev pub needs : Kind → List (List ℕ)
needs FileInput = codes "files" ∷ []
needs StatsdInput = codes "service_address" ∷ []
needs FileOutput = codes "files" ∷ []
needs kind = []

-- the key of the list whose only text is its place, where it has such a key
abbrev pub place_key : Kind → Option (List ℕ)
place_key FileInput = Some (codes "files")
place_key FileOutput = Some (codes "files")
place_key kind = None

-- ---- the keys of tables

-- the keys of a plugin of a kind; one that isn't known has none
abbrev pub kind_keys : Option Kind → Keys
kind_keys None = Unknown
kind_keys (Some kind) = Plugin kind

abbrev pub keys_of : Class → List ℕ → Keys
keys_of class name = kind_keys (kind_of class name)

-- what a key of a table takes; None where it isn't known
abbrev pub row_of : Keys → List ℕ → Option Shape
row_of Agent key = agent_key key
row_of (Plugin kind) key = kind_key kind key
row_of Unknown key = None

-- the number at a key, or another where there is none that its row allows
unfoldable pub number_at : Keys → List ℕ → ℕ → Members → ℕ
number_at keys key other members = row_number (row_of keys key) key other members

-- is the value at a key none that its row of a number takes; another answer where there is no value
unfoldable pub is_faulty_at : Keys → List ℕ → Bool → Members → Bool
is_faulty_at keys key other members = faulty_by (count_row (row_of keys key)) other (get_member key members)

-- the number at a key of the table `agent`
unfoldable pub agent_number : List ℕ → Members → ℕ
agent_number key agent = number_at Agent key (usual_of (count_row (row_of Agent key))) agent

-- the truth value at a key
unfoldable pub truth_at : Keys → List ℕ → Members → Bool
truth_at keys key members = row_truth (row_of keys key) key members

-- the whole number at a key; 0 where none is said
unfoldable pub whole_number_at : List ℕ → Members → ℤ
whole_number_at key members = unwrap_or (option_and_then as_integer (get_member key members)) (pos 0)

-- the time at a key
unfoldable pub time_at : Keys → List ℕ → Members → ℤ
time_at keys key members = row_time (row_of keys key) key members

-- the text at a key
unfoldable pub text_at : Keys → List ℕ → Members → List ℕ
text_at keys key members = row_text (row_of keys key) key members

-- ---- sizes of outputs

-- the batch size and the buffer limit of the table `agent`, which are those of an output that has none
abbrev pub agent_limits : Members → Limits
agent_limits agent = record {
  batch = agent_number (codes "metric_batch_size") agent;
  limit = agent_number (codes "metric_buffer_limit") agent;
  batch_faulty = is_faulty_at Agent (codes "metric_batch_size") false agent;
  limit_faulty = is_faulty_at Agent (codes "metric_buffer_limit") false agent;
}

-- those of an output with these keys
abbrev pub own_limits : Keys → Limits → Members → Limits
own_limits keys limits members = record {
  batch = number_at keys (codes "metric_batch_size") limits.batch members;
  limit = number_at keys (codes "metric_buffer_limit") limits.limit members;
  batch_faulty = is_faulty_at keys (codes "metric_batch_size") limits.batch_faulty members;
  limit_faulty = is_faulty_at keys (codes "metric_buffer_limit") limits.limit_faulty members;
}

-- may a batch hold more metrics than the buffer; that only follows where one of the sizes stands for a faulty one
abbrev pub limits_faults : Limits → List Wrong
limits_faults limits =
    unless (nat_le limits.batch limits.limit) (whole BatchAboveLimit (limits.batch_faulty || limits.limit_faulty))

-- ---- the faults of a kind

-- the faults of a plugin of a kind that no key of it has alone
abbrev pub own_faults : Kind → Limits → Members → List Wrong
own_faults FileOutput limits members = limits_faults (own_limits (Plugin FileOutput) limits members)
own_faults kind _ _ = []
