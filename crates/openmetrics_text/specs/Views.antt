-- What readers returned, and what a reader of lines has so far.
use Rattle.std.specs.Prelude.{◌≡◌, ◌<◌, ℕ, List, length, map, Option, option_map, Result, Ok, Err, ◌⊎◌, ⊤}
use Rattle.std.specs.Borrow.{Bor}
use Rattle.std.specs.String.{string_bytes}
use Rattle.text_parts.specs.declared.split.Placed.{Placed}
use Rattle.text_parts.specs.Split.{PartAt}
use Rattle.metric.specs.Draft.{Tag}
use Rattle.openmetrics_text.specs.declared.collected.Collected.{Collected}
use Rattle.openmetrics_text.specs.declared.exposition.Exposition.{Exposition}
use Rattle.openmetrics_text.specs.declared.fault.ExpositionFault.{ExpositionFault}
use Rattle.openmetrics_text.specs.declared.fault.ExpositionKind.TheVariants.{OutOfMemory}
use Rattle.openmetrics_text.specs.declared.labels.Label.{Label}
use Rattle.openmetrics_text.specs.declared.labels.LabelText.{LabelText}
use Rattle.openmetrics_text.specs.declared.labels.LabelText.TheVariants.{Plain, Escaped}
use Rattle.openmetrics_text.specs.declared.line.Line.{Line}
use Rattle.openmetrics_text.specs.declared.line.Line.TheVariants as lines
use Rattle.openmetrics_text.specs.declared.sample.Head.{Head}
use Rattle.openmetrics_text.specs.declared.sample.Shape.{Shape}
use Rattle.openmetrics_text.specs.declared.sample.Sample.{Sample}
use Rattle.openmetrics_text.specs.Lines.{LineSays, Typed, Nothing, Sampled}
use Rattle.openmetrics_text.specs.Labels.{AreNamed}
use Rattle.openmetrics_text.specs.Sample.{Said}
use Rattle.openmetrics_text.specs.Sample as said

-- a part, as the code has it
abbrev pub part_at : Placed → PartAt
part_at part = (part.offset, part.text.now)

abbrev pub text_view : LabelText → List ℕ
text_view (Plain text) = text.now
text_view (Escaped text) = string_bytes text

abbrev pub label_view : Label → Tag
label_view label = (label.name.now, text_view label.value)

abbrev pub head_view : Head → said.Head
head_view head = record {
  name = head.name.now;
  labels = map label_view head.labels.items;
  behind = head.behind;
}

abbrev pub shape_view : Shape → said.Shape
shape_view shape = record { number = shape.number.now; time = option_map (λ text. text.now) shape.time }

abbrev pub sample_view : Sample → Said
sample_view sample = record {
  name = sample.name.now;
  labels = map label_view sample.labels.items;
  number = sample.number;
  time = sample.time;
}

-- the name is filled, and so are those of the labels
pub record IsFilled (sample : Sample) : Type 0 where
  pub named : 0 < length sample.name.now
  pub labels : AreNamed (map label_view sample.labels.items)

abbrev pub line_view : Line → LineSays
line_view (lines.Typed name kind) = Typed name.now kind.now
line_view lines.Nothing = Nothing
line_view (lines.Sampled sample) = Sampled (sample_view sample)

-- the names of a sample are filled
abbrev pub IsFilledLine : Line → Type 0
IsFilledLine (lines.Typed name kind) = ⊤
IsFilledLine lines.Nothing = ⊤
IsFilledLine (lines.Sampled sample) = IsFilled sample

abbrev pub texts_view : Option (Option (Bor (List ℕ))) → Option (Option (List ℕ))
texts_view texts = option_map (λ text. option_map (λ (t : Bor (List ℕ)). t.now) text) texts

abbrev pub said_view : Collected → Exposition
said_view collected = record {
  metrics = collected.metrics.items;
  passed = collected.passed;
  out_of_range = collected.out_of_range;
}

-- the result is the reading, or memory ran out
abbrev pub Answers : Result Exposition ExpositionFault → Result Exposition ExpositionFault → Type 0
Answers (Ok exposition) reading = reading ≡ Ok exposition
Answers (Err e) reading = (e ≡ record { kind = OutOfMemory; offset = 0 }) ⊎ (reading ≡ Err e)
