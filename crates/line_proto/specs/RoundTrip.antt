-- Metrics that are read back from their lines.
use Rattle.std.specs.Prelude.{◌≡◌, ◌≤◌, ℕ, ℤ, List, ◌++◌, length, codes, Some, Ok}
use Rattle.std.specs.List.{AllByRecursion}
use Rattle.text_parts.specs.Escaped.{NoBackslashEnd}
use Rattle.metric.specs.Metric.{IsMetric}
use Rattle.metric.specs.declared.value.Value.{Value}
use Rattle.metric.specs.declared.value.Value.TheVariants.{Int, Uint, Fixed, «Bool» as Truth, Text}
use Rattle.metric.specs.declared.metric.Content.{Content}
use Rattle.text_parts.specs.Grammar.{HasNone}
use Rattle.metric.specs.Draft.{Tag, Field}
use Rattle.line_proto.specs.Grammar.{NoHash}
use Rattle.line_proto.specs.LineText.{line_text, untimed_text}
use Rattle.line_proto.specs.OneLine.{ends_line}
use Rattle.line_proto.specs.Reading.{reading}

-- a name, a key or the value of a tag that is written as it is, but for escapes
pub record IsPlainWord (text : List ℕ) : Type 0 where
  pub none : HasNone ends_line text
  pub end : NoBackslashEnd text

-- a value that is written as it is: a text in one line, or no text
abbrev pub IsPlainValue : Value → Type 0
IsPlainValue (Int n) = Unit {0}
IsPlainValue (Uint n) = Unit {0}
IsPlainValue (Fixed n) = Unit {0}
IsPlainValue (Truth b) = Unit {0}
IsPlainValue (Text text) = HasNone ends_line text

-- the metric's texts are in one line, none but those of its fields ends with a backslash, its measurement
-- begins no comment, and it keeps the limits
pub record IsPlain (m : Content) : Type 0 where
  pub name : IsPlainWord m.name
  pub no_comment : NoHash m.name
  pub tags : AllByRecursion (λ (tag : Tag). IsPlainWord tag.0 × IsPlainWord tag.1) m.tags
  pub few_tags : length m.tags ≤ 64
  pub fields : AllByRecursion (λ (field : Field). IsPlainWord field.0 × IsPlainValue field.1) m.fields
  pub few_fields : length m.fields ≤ 256

-- the text of a plain metric is one line and its newline, and the line is read as the metric at any moment
abbrev pub MetricIsReadBack : Type 0
MetricIsReadBack = (m : Content) (moment : ℤ) → IsMetric m → IsPlain m
    → (line : List ℕ) × (line_text m ≡ line ++ codes "\n") × HasNone ends_line line
    × (reading line moment ≡ Ok (Some m))

-- so is its text without a time, which is read as the metric at the moment that is given
abbrev pub UntimedIsReadBack : Type 0
UntimedIsReadBack = (m : Content) (moment : ℤ) → IsMetric m → IsPlain m
    → (line : List ℕ) × (untimed_text m ≡ line ++ codes "\n") × HasNone ends_line line
    × (reading line moment ≡ Ok (Some (record m { time = moment })))

-- what is read of a piece in one line is plain
abbrev pub ReadIsPlain : Type 0
ReadIsPlain = (piece : List ℕ) (moment : ℤ) (content : Content) → HasNone ends_line piece
    → reading piece moment ≡ Ok (Some content) → IsPlain content
