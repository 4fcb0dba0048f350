-- Lines as they are written.
use Rattle.std.specs.Prelude.{◌≡◌, ◌⊎◌, ℕ, ℤ, Bool, true, false, List, [], ◌∷◌, ◌++◌, length, map}
use Rattle.std.specs.Prelude.{flat_map, nat_lt}
use Rattle.std.specs.Prelude.{Option, Some, None, Ok, ◌≤◌, IfOk}
use Rattle.std.specs.List.{AllByRecursion}
use Rattle.std.specs.Option.{option_to_list}
use Rattle.std.specs.Str.{IsUtf8}
use Rattle.text_parts.specs.Grammar.{HasNone}
use Rattle.text_parts.specs.Pairs.{pair_text}
use Rattle.text_parts.specs.Split.{is_byte, AllLack}
use Rattle.text_parts.specs.Words.{Spaced, spaces, spaced_text, AreWords}
use Rattle.fixed_num.specs.Fixed.{read_as}
use Rattle.metric.specs.declared.metric.Content.{Content}
use Rattle.metric.specs.Draft.{Tag}
use Rattle.metric.specs.Pairs.{in_key_order}
use Rattle.graphite_text.specs.Bytes.{semicolon}
use Rattle.graphite_text.specs.Path.{Path}
use Rattle.format_words.specs.Grammar.{AreSegments, segments_text, IsPair}
use Rattle.format_words.specs.Template.{Shape}
use Rattle.graphite_text.specs.Applied.{used}
use Rattle.graphite_text.specs.Reading.{is_minus_one, is_moment, Said, content_of, said_of, reading}

-- ---- paths

-- `;key=value`
abbrev pub tag_text : Tag → List ℕ
tag_text tag = semicolon ∷ pair_text tag

abbrev pub path_spelling : Path → List ℕ
path_spelling path = segments_text path.segments ++ flat_map tag_text path.tags

pub record IsPathText (path : Path) : Type 0 where
  pub segments : AreSegments path.segments
  pub bucket : HasNone (is_byte semicolon) (segments_text path.segments)
  pub pairs : AllByRecursion IsPair path.tags
  pub semicolons : AllLack semicolon (map pair_text path.tags)

-- ---- lines

-- what is written in a line: the spaces before it, the path, the value, perhaps a time, and the spaces behind
-- each
pub record Written : Type 0 where
  pub before : ℕ
  pub path : Path
  pub path_spaces : ℕ
  pub value : List ℕ
  pub value_spaces : ℕ
  pub time : Option Spaced

abbrev pub time_words : Option Spaced → List Spaced
time_words None = []
time_words (Some time) = time ∷ []

abbrev pub line_words : Written → List Spaced
line_words w =
    (path_spelling w.path, w.path_spaces) ∷ (w.value, w.value_spaces) ∷ time_words w.time

-- the text of a line is the concatenation of its parts
abbrev pub line_spelling : Written → List ℕ
line_spelling w = spaces w.before ++ spaced_text (line_words w)

-- a time of so many nanoseconds; that of -1 s stands for the moment
abbrev pub IsMoment : ℤ → ℤ → ℤ → Type 0
IsMoment moment nanoseconds time =
    ((is_minus_one nanoseconds ≡ true) × (time ≡ moment))
    ⊎ ((is_minus_one nanoseconds ≡ false) × (is_moment nanoseconds ≡ true) × (time ≡ nanoseconds))

abbrev pub IsTime : ℤ → Option Spaced → ℤ → Type 0
IsTime moment None time = time ≡ moment
IsTime moment (Some word) time = (n : ℤ) × (read_as word.0 ≡ Ok n) × IsMoment moment n time

-- the line has this value and this time; its words aren't empty and have no spaces, which stand between them
pub record IsLine (w : Written) (moment value time : ℤ) : Type 0 where
  pub words : AreWords (line_words w)
  pub path : IsPathText w.path
  pub is_value : read_as w.value ≡ Ok value
  pub is_time : IsTime moment w.time time

-- what the template that is used makes of a line
abbrev pub said_in : List Shape → List ℕ → Written → ℤ → ℤ → Said
said_in templates separator w value time =
    said_of separator (used templates w.path.segments) w.path value time

abbrev pub has_too_many : Said → Bool
has_too_many said = nat_lt 64 (length (in_key_order said.tags))

-- a written line whose metric has at most 64 tags is read as its metric
abbrev pub WrittenIsRead : Type 0
WrittenIsRead = (templates : List Shape) (separator : List ℕ) (w : Written) (moment value time : ℤ)
    → IsLine w moment value time → IsUtf8 (line_spelling w)
    → has_too_many (said_in templates separator w value time) ≡ false
    → reading templates separator (line_spelling w) moment
    ≡ Ok (Some (content_of (said_in templates separator w value time)))

-- a piece that is read as a metric is a written line whose metric has at most 64 tags
abbrev pub ReadIsWritten : Type 0
ReadIsWritten = (templates : List Shape) (separator piece : List ℕ) (moment : ℤ) (metric : Content)
    → reading templates separator piece moment ≡ Ok (Some metric)
    → (w : Written) × (value : ℤ) × (time : ℤ) × (piece ≡ line_spelling w) × IsUtf8 piece
    × IsLine w moment value time
    × (has_too_many (said_in templates separator w value time) ≡ false)
    × (metric ≡ content_of (said_in templates separator w value time))

-- ---- how many metrics are said

-- one
abbrev pub most_said : ℕ
most_said = 1

-- no piece says more
abbrev pub SaysAtMost : Type 0
SaysAtMost = (templates : List Shape) (separator piece : List ℕ) (moment : ℤ)
    → IfOk (reading templates separator piece moment) (λ metric. length (option_to_list metric) ≤ most_said)
