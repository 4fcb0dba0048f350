-- Lines that are read back.
use Rattle.std.specs.Prelude.{◌≡◌, ◌<◌, ◌⊎◌, ℕ, ℤ, pos, negsuc, false, List, [], ◌∷◌, codes}
use Rattle.std.specs.Prelude.{Some, Ok}
use Rattle.std.specs.Prelude.{if◌then◌else◌}
use Rattle.std.specs.List.{AllByRecursion, slice_split}
use Rattle.text_parts.specs.Split.{is_byte}
use Rattle.fixed_num.specs.Scaled.{scaled}
use Rattle.metric.specs.declared.value.Value.TheVariants.{Fixed}
use Rattle.metric.specs.declared.metric.Content.{Content}
use Rattle.metric.specs.Draft.{Field}
use Rattle.metric.specs.Metric.{IsMetric}
use Rattle.metric.specs.Numbers.{is_text, billionths_of}
use Rattle.format_words.specs.Bytes.{dot}
use Rattle.format_words.specs.Segments.{AreFilled}
use Rattle.graphite_text.specs.Reading.{is_minus_one, reading}
use Rattle.graphite_text.specs.Writing.{path_text, line_text, seconds_of}

-- no dot begins or ends the text, and no two stand in a row: no segment of it is empty
abbrev pub IsDotted : List ℕ → Type 0
IsDotted text = AreFilled (slice_split (is_byte dot) text)

-- a key is `value`, or dotted
abbrev pub IsDottedKey : List ℕ → Type 0
IsDottedKey key = (key ≡ codes "value") ⊎ IsDotted key

-- the first second whose nanoseconds are a moment is -9,223,372,036
abbrev pub IsSecond : ℤ → Type 0
IsSecond (pos n) = Unit {0}
IsSecond (negsuc n) = n < 9223372036

-- -1 s stands for the moment
abbrev pub time_behind : ℤ → ℤ → ℤ
time_behind moment seconds = if is_minus_one (scaled seconds) then moment else scaled seconds

-- what a line of a metric is read as without templates
abbrev pub metric_behind : Content → Field → ℤ → Content
metric_behind m field moment = record {
  name = path_text m field.0;
  tags = [];
  fields = (codes "value", Fixed (billionths_of field.1)) ∷ [];
  time = time_behind moment (seconds_of m.time);
}

-- each line of a metric is read back: that of a field of it which is no text
abbrev pub WrittenIsReadBack : Type 0
WrittenIsReadBack = (m : Content) (moment : ℤ) → IsMetric m → IsDotted m.name → IsSecond (seconds_of m.time)
    → AllByRecursion (λ (field : Field). is_text field.1 ≡ false → IsDottedKey field.0
    → reading [] (codes ".") (line_text m field) moment ≡ Ok (Some (metric_behind m field moment))) m.fields
