-- What readers returned.
use Rattle.std.specs.Prelude.{◌≡◌, Option, option_map, Result, Ok, Err, ◌⊎◌}
use Rattle.metric.specs.declared.metric.Content.{Content}
use Rattle.graphite_text.specs.declared.fault.GraphiteFault.{GraphiteFault}
use Rattle.graphite_text.specs.declared.fault.GraphiteKind.TheVariants as kinds
use Rattle.graphite_text.specs.declared.path.Path as declared
use Rattle.graphite_text.specs.declared.line.Line as lines
use Rattle.format_words.specs.Views.{part_at, texts_view, tags_view}
use Rattle.graphite_text.specs.Path.{Path}
use Rattle.graphite_text.specs.Reading.{Line}

abbrev pub path_view : declared.Path → Path
path_view path = record { segments = texts_view path.segments; tags = tags_view path.tags }

abbrev pub line_view : lines.Line → Line
line_view line = record {
  path = part_at line.path;
  value = part_at line.value;
  time = option_map part_at line.time;
}

-- the result is the reading, or memory ran out
abbrev pub Answers : Result (Option Content) GraphiteFault → Result (Option Content) GraphiteFault → Type 0
Answers (Ok metric) reading = reading ≡ Ok metric
Answers (Err e) reading = (e ≡ record { kind = kinds.OutOfMemory; offset = 0 }) ⊎ (reading ≡ Err e)
