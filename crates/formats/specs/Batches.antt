-- The text of a batch.
use Rattle.std.specs.Prelude.{ℕ, List}
use Rattle.std.specs.List.{flat_map}
use Rattle.format_words.specs.declared.format.OutFormat.{OutFormat}
use Rattle.format_words.specs.declared.format.OutFormat.TheVariants.{Influx, Graphite, Openmetrics}
use Rattle.metric.specs.declared.metric.Content.{Content}
use Rattle.graphite_text.specs.Writing.{metric_text}
use Rattle.line_proto.specs.LineText.{line_text}
use Rattle.openmetrics_text.specs.Writing as exposition

-- the text of a batch in a format: in line protocol and Graphite the lines of its views, in order, in OpenMetrics
-- one exposition
abbrev pub batch_text : OutFormat → List Content → List ℕ
batch_text Influx views = flat_map line_text views
batch_text Graphite views = flat_map metric_text views
batch_text Openmetrics views = exposition.batch_text views
