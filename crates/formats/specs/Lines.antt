-- The formats in which each metric has lines of its own.
use Rattle.std.specs.Prelude.{ℕ, List}
use Rattle.metric.specs.declared.metric.Content.{Content}
use Rattle.graphite_text.specs.Writing.{metric_text}
use Rattle.line_proto.specs.LineText.{line_text}
use Rattle.formats.specs.declared.writing.LineFormat.{LineFormat}
use Rattle.formats.specs.declared.writing.LineFormat.TheVariants.{Influx, Graphite}

-- the lines of a metric
abbrev pub lines_in : LineFormat → Content → List ℕ
lines_in Influx = line_text
lines_in Graphite = metric_text
