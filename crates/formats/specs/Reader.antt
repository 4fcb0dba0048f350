-- How the pieces of an input are read, and what is kept of them.
use Rattle.std.specs.Prelude.{ℕ, ℤ, ◌*◌, ◌≤◌, min, Bool, true, false, List, [], ◌∷◌, Result, Ok, Err, count_by}
use Rattle.std.specs.List.{filter_map}
use Rattle.std.specs.declared.option.Option.{Option}
use Rattle.std.specs.declared.option.Option.TheVariants.{Some, None}
use Rattle.agent_base.specs.Cut.{Cut, TooLong, Whole}
use Rattle.agent_base.specs.Cut as lines
use Rattle.agent_base.specs.declared.piece.CutKind.{CutKind}
use Rattle.agent_base.specs.declared.piece.CutKind.TheVariants.{Lines, Expositions}
use Rattle.format_words.specs.declared.format.InFormat.{InFormat}
use Rattle.format_words.specs.declared.format.InFormat.TheVariants.{Influx, Statsd, Graphite, Openmetrics}
use Rattle.graphite_text.specs.Grammar as graphite_most
use Rattle.graphite_text.specs.Reading as graphite
use Rattle.line_proto.specs.Grammar as line_most
use Rattle.line_proto.specs.Reading.{reading}
use Rattle.openmetrics_text.specs.Grammar as exposition_most
use Rattle.openmetrics_text.specs.Reading as openmetrics
use Rattle.openmetrics_text.specs.declared.exposition.Exposition.{Exposition}
use Rattle.statsd_text.specs.Grammar as parts_most
use Rattle.statsd_text.specs.Reading as statsd
use Rattle.metric.specs.Pairs.{with_all_missing}
use Rattle.metric.specs.declared.metric.Content.{Content}
use Rattle.metric_filter.specs.Filter.{applied}
use Rattle.metric_filter.specs.declared.rules.FilterRules.{FilterRules}
use Rattle.formats.specs.declared.reading.ReadRule.{ReadRule}

-- what a piece says at a moment: it is refused; or it says metrics, and so many samples of it are passed over
pub data PieceSays : Type 0 where
  Refused : PieceSays
  Says : List Content → ℕ → PieceSays

-- how a text is cut into pieces, and what a piece that isn't too long says at a moment
pub record Reader : Type 0 where
  pub cut : List ℕ → List Cut
  pub say : ℤ → List ℕ → PieceSays

-- a line says its metric, and one that has none, as a blank one, none; no sample is passed over
abbrev pub line_says : {F : Type 0} → Result (Option Content) F → PieceSays
line_says (Ok None) = Says [] 0
line_says (Ok (Some metric)) = Says (metric ∷ []) 0
line_says (Err fault) = Refused

-- a line of several parts says a metric for each of them; no sample is passed over
abbrev pub parts_say : {F : Type 0} → Result (List Content) F → PieceSays
parts_say (Ok metrics) = Says metrics 0
parts_say (Err fault) = Refused

-- an exposition says a metric for each sample whose number is a decimal in range; the others are passed over
abbrev pub exposition_says : {F : Type 0} → Result Exposition F → PieceSays
exposition_says (Ok exposition) = Says exposition.metrics exposition.passed
exposition_says (Err fault) = Refused

-- what a piece says in a format
abbrev pub say_in : InFormat → ℤ → List ℕ → PieceSays
say_in Influx moment piece = line_says (reading piece moment)
say_in Statsd moment piece = parts_say (statsd.reading piece moment)
say_in (Graphite templates separator) moment piece = line_says (graphite.reading templates separator piece moment)
say_in (Openmetrics type_tag passing) moment piece =
    exposition_says (openmetrics.reading piece moment type_tag passing)

-- how the text of an input is cut: into expositions in OpenMetrics, else into lines
abbrev pub cut_of : InFormat → CutKind
cut_of Influx = Lines
cut_of Statsd = Lines
cut_of (Graphite templates separator) = Lines
cut_of (Openmetrics type_tag passing) = Expositions

-- the reader of a format
abbrev pub reader_of : InFormat → Reader
reader_of format = record { cut = lines.cut (cut_of format); say = say_in format }

-- how many metrics a piece says at most: what is so in its format, of the longest line or the longest exposition. In
-- line protocol and Graphite that is 1, in StatsD 21,845, in OpenMetrics 1,048,576
abbrev pub most_said : InFormat → ℕ
most_said Influx = line_most.most_said
most_said Statsd = parts_most.most_said (lines.most_bytes Lines)
most_said (Graphite templates separator) = graphite_most.most_said
most_said (Openmetrics type_tag passing) = exposition_most.most_said (lines.most_bytes Expositions)

-- by what rule an input is read: its format, the tags that each metric gets that lacks them, what is kept of a
-- metric, and how many pieces a gather has at most
pub record InRule : Type 0 where
  pub format : InFormat
  pub globals : List (List ℕ × List ℕ)
  pub keep : Content → Option Content
  pub most : ℕ

-- so many metrics are no more than the pieces of a gather say at most
abbrev pub FitsGather : InRule → ℕ → Type 0
FitsGather rule count = count ≤ rule.most * most_said rule.format

-- a filter keeps its result for a metric
abbrev pub in_rule : InFormat → List (List ℕ × List ℕ) → FilterRules → ℕ → InRule
in_rule format globals filter most = record { format = format; globals = globals; keep = applied filter; most = most }

-- line protocol with no global tags, of which each metric is kept
abbrev pub plain_rule : ℕ → InRule
plain_rule most = record { format = Influx; globals = []; keep = λ metric. Some metric; most = most }

-- the rule of what is handed down of an input
abbrev pub rule_view : ReadRule → InRule
rule_view rule = in_rule rule.format.now rule.globals.now rule.filter.now rule.most

-- what a piece says: one that is too long is refused
abbrev pub says : InRule → ℤ → Cut → PieceSays
says rule moment TooLong = Refused
says rule moment (Whole piece) = (reader_of rule.format).say moment piece

abbrev pub is_refusal : PieceSays → Bool
is_refusal Refused = true
is_refusal (Says metrics passed) = false

abbrev pub metrics_of : PieceSays → List Content
metrics_of Refused = []
metrics_of (Says metrics passed) = metrics

abbrev pub passed_of : PieceSays → ℕ
passed_of Refused = 0
passed_of (Says metrics passed) = passed

-- what is kept of a metric once it has the global tags that it lacks
abbrev pub keeps : InRule → Content → Option Content
keeps rule metric = rule.keep (record metric { tags = with_all_missing metric.tags rule.globals })

abbrev pub is_none : Option Content → Bool
is_none None = true
is_none (Some metric) = false

-- what is kept of metrics, and of how many of them nothing is
abbrev pub kept : InRule → List Content → List Content
kept rule metrics = filter_map (keeps rule) metrics

abbrev pub filtered_out : InRule → List Content → ℕ
filtered_out rule metrics = count_by (λ metric. is_none (keeps rule metric)) metrics

-- is a piece refused at a moment
abbrev pub is_refused : InRule → ℤ → Cut → Bool
is_refused rule moment piece = is_refusal (says rule moment piece)

-- the metrics that are kept of a piece, how many of its metrics are not, and how many of its samples are passed
-- over
abbrev pub kept_of : InRule → ℤ → Cut → List Content
kept_of rule moment piece = kept rule (metrics_of (says rule moment piece))

abbrev pub filtered_of : InRule → ℤ → Cut → ℕ
filtered_of rule moment piece = filtered_out rule (metrics_of (says rule moment piece))

abbrev pub passed_over : InRule → ℤ → Cut → ℕ
passed_over rule moment piece = passed_of (says rule moment piece)

-- a count that stands still at 4,294,967,295
abbrev pub capped : ℕ → ℕ
capped n = min n 4294967295
