-- Lines as they are written.
use Rattle.std.specs.Prelude.{◌≡◌, ◌<◌, ℕ, ℤ, ◌==◌, ◌||◌, Bool, false, List, [], ◌∷◌, ◌++◌, replicate}
use Rattle.std.specs.Prelude.{Option, Some, None, Ok, ◌⊎◌, ◌≤◌, length, IfOk}
use Rattle.std.specs.Option.{option_to_list}
use Rattle.std.specs.Str.{IsUtf8}
use Rattle.text_parts.specs.Bytes.{space, double_quote, hash, comma, equals_sign}
use Rattle.text_parts.specs.Grammar.{Mark, spelled, meant, IsPart, HasNone, IsWritten}
use Rattle.text_parts.specs.Pairs.{pair_text, pairs_text, AllAre}
use Rattle.metric.specs.declared.value.Value.{Value}
use Rattle.metric.specs.declared.value.Value.TheVariants.{Text}
use Rattle.metric.specs.declared.metric.Content.{Content}
use Rattle.metric.specs.Draft.{Tag, Field, has_too_many}
use Rattle.line_proto.specs.Kinds.{name_part, key_part, tag_value_part, text_part}
use Rattle.line_proto.specs.Values.{value_of, time_of}
use Rattle.line_proto.specs.Reading.{Line, content_of, reading}

-- what ends the value of a field; a space
abbrev pub ends_word : ℕ → Bool
ends_word b = b == comma || b == space

abbrev pub is_space : ℕ → Bool
is_space b = b == space

-- a line as it is written: spaces, a measurement, tags, spaces, fields, perhaps spaces and a time, spaces
pub record Written : Type 0 where
  pub before : ℕ
  pub name : List ℕ
  pub tags : List (List ℕ × List ℕ)
  pub gap : ℕ
  pub first : List ℕ × List ℕ
  pub others : List (List ℕ × List ℕ)
  pub time : Option (ℕ × List ℕ)
  pub after : ℕ

abbrev pub spaces : ℕ → List ℕ
spaces n = replicate n space

-- a time behind its spaces
abbrev pub time_text : Option (ℕ × List ℕ) → List ℕ
time_text None = []
time_text (Some t) = spaces t.0 ++ t.1

-- what stands behind the fields, behind the tags and behind the measurement
abbrev pub behind_fields : Written → List ℕ
behind_fields w = time_text w.time ++ spaces w.after

abbrev pub behind_tags : Written → List ℕ
behind_tags w = spaces w.gap ++ (pair_text w.first ++ (pairs_text w.others ++ behind_fields w))

abbrev pub behind_name : Written → List ℕ
behind_name w = pairs_text w.tags ++ behind_tags w

-- the text of a line is the concatenation of its parts
abbrev pub line_spelling : Written → List ℕ
line_spelling w = spaces w.before ++ (w.name ++ behind_name w)

-- a written pair in front of the rest is a tag
pub record IsTag (written : List ℕ × List ℕ) (rest : List ℕ) (tag : Tag) : Type 0 where
  pub key : IsWritten key_part written.0 (equals_sign ∷ (written.1 ++ rest)) tag.0
  pub value : IsWritten tag_value_part written.1 rest tag.1

-- a text between double quotes is a value
pub record IsQuoted (written rest : List ℕ) (value : Value) : Type 0 where
  pub marks : List Mark
  pub is : written ≡ double_quote ∷ (spelled marks ++ double_quote ∷ [])
  pub part : IsPart text_part marks (double_quote ∷ rest)
  pub says : Text (meant text_part marks) ≡ value

-- the text begins with no double quote
abbrev pub NoQuote : List ℕ → Type 0
NoQuote [] = Unit {0}
NoQuote (b ∷ bs) = (b == double_quote) ≡ false

-- what stands without quotes is a value
pub record IsUnquoted (written : List ℕ) (value : Value) : Type 0 where
  pub none : HasNone ends_word written
  pub no_quote : NoQuote written
  pub says : value_of written ≡ Ok value

-- a written pair in front of the rest is a field
pub record IsField (written : List ℕ × List ℕ) (rest : List ℕ) (field : Field) : Type 0 where
  pub key : IsWritten key_part written.0 (equals_sign ∷ (written.1 ++ rest)) field.0
  pub value : IsQuoted written.1 rest field.1 ⊎ IsUnquoted written.1 field.1

-- the time that is written behind a space, or the moment where none is
abbrev pub IsTime : Option (ℕ × List ℕ) → ℤ → ℤ → Type 0
IsTime None time moment = time ≡ moment
IsTime (Some t) time moment = (0 < t.0) × HasNone is_space t.1 × (time_of t.1 ≡ Ok time)

-- the text begins with no `#`
abbrev pub NoHash : List ℕ → Type 0
NoHash [] = Unit {0}
NoHash (b ∷ bs) = (b == hash) ≡ false

-- the line that is written
pub record IsLine (w : Written) (line : Line) (moment : ℤ) : Type 0 where
  pub name : IsWritten name_part w.name (behind_name w) line.name
  pub no_comment : NoHash w.name
  pub tags : AllAre IsTag w.tags (behind_tags w) line.tags
  pub gap : 0 < w.gap
  pub fields : AllAre IsField (w.first ∷ w.others) (behind_fields w) line.fields
  pub time : IsTime w.time line.time moment

-- a written line of at most 64 tags and 256 fields is read as its metric
abbrev pub WrittenIsRead : Type 0
WrittenIsRead = (w : Written) (line : Line) (moment : ℤ)
    → IsLine w line moment → IsUtf8 (line_spelling w) → has_too_many line.tags line.fields ≡ false
    → reading (line_spelling w) moment ≡ Ok (Some (content_of line))

-- what is read as a metric is a written line of at most 64 tags and 256 fields
abbrev pub ReadIsWritten : Type 0
ReadIsWritten = (piece : List ℕ) (moment : ℤ) (content : Content) → reading piece moment ≡ Ok (Some content)
    → (w : Written) × (line : Line) × (piece ≡ line_spelling w) × IsUtf8 piece × IsLine w line moment
    × (has_too_many line.tags line.fields ≡ false) × (content ≡ content_of line)

-- ---- how many metrics are said

-- one
abbrev pub most_said : ℕ
most_said = 1

-- no piece says more
abbrev pub SaysAtMost : Type 0
SaysAtMost = (piece : List ℕ) (moment : ℤ)
    → IfOk (reading piece moment) (λ metric. length (option_to_list metric) ≤ most_said)
