-- Reading a line: its words, its path, its value, its time; the first fault counts.
use Rattle.std.specs.Prelude.{◌^◌, ◌==◌, ℕ, ℤ, pos, negsuc, Bool, false, List, [], ◌∷◌, length, nat_lt}
use Rattle.std.specs.Prelude.{Option, Some}
use Rattle.std.specs.Prelude.{None, Result, Ok, Err, if◌then◌else◌}
use Rattle.std.specs.Str.{is_utf8}
use Rattle.std.specs.Str.Lossy.{utf8_valid_len}
use Rattle.text_parts.specs.Chain.{◌>>=◌}
use Rattle.text_parts.specs.Split.{PartAt}
use Rattle.text_parts.specs.Words.{words_of}
use Rattle.fixed_num.specs.declared.fixed.NumFault.{NumFault}
use Rattle.fixed_num.specs.declared.fixed.NumFault.TheVariants as numbers
use Rattle.fixed_num.specs.Fixed.{read_as}
use Rattle.metric.specs.declared.value.Value.TheVariants as values
use Rattle.metric.specs.declared.metric.Content.{Content}
use Rattle.metric.specs.Draft.{Tag}
use Rattle.metric.specs.Pairs.{in_key_order, with_values}
use Rattle.format_words.specs.declared.fault.ShapeFault.{ShapeFault}
use Rattle.format_words.specs.declared.fault.ShapeFault.TheVariants.{Malformed}
use Rattle.graphite_text.specs.declared.fault.GraphiteFault.{GraphiteFault}
use Rattle.graphite_text.specs.declared.fault.GraphiteKind.{GraphiteKind}
use Rattle.graphite_text.specs.declared.fault.GraphiteKind.TheVariants.{FieldCount, BadPath, BadValue}
use Rattle.graphite_text.specs.declared.fault.GraphiteKind.TheVariants.{BadTime}
use Rattle.graphite_text.specs.declared.fault.GraphiteKind.TheVariants.{NumberRange, NotUtf8, TooMany}
use Rattle.graphite_text.specs.Path.{Path, path_of}
use Rattle.format_words.specs.Template.{Shape}
use Rattle.graphite_text.specs.Applied.{used, name_of, key_of, tags_of}

-- a fault at an offset
abbrev pub fault : {A : Type 0} → GraphiteKind → ℕ → Result A GraphiteFault
fault kind offset = Err (record { kind = kind; offset = offset })

-- ---- the words of a line

-- a line: a path, a value, perhaps a time
pub record Line : Type 0 where
  pub path : PartAt
  pub value : PartAt
  pub time : Option PartAt

-- the last word, where there is one; no other stands behind it
unfoldable pub last_word : List PartAt → Result (Option PartAt) GraphiteFault
last_word [] = Ok None
last_word (time ∷ []) = Ok (Some time)
last_word (time ∷ word ∷ words) = fault FieldCount 0

unfoldable pub words_behind : PartAt → List PartAt → Result (Option Line) GraphiteFault
words_behind path [] = fault FieldCount 0
words_behind path (value ∷ words) = do
  time ← last_word words
  Ok (Some (record { path = path; value = value; time = time }))

-- no word is no line; else there are two words or three
unfoldable pub line_of : List PartAt → Result (Option Line) GraphiteFault
line_of [] = Ok None
line_of (path ∷ words) = words_behind path words

-- ---- its parts

-- a path that isn't one is a fault of the line
abbrev pub or_bad_path : Result Path ShapeFault → Result Path GraphiteFault
or_bad_path (Ok path) = Ok path
or_bad_path (Err Malformed) = fault BadPath 0

-- a number that begins at an offset, and the kind of fault where a text is none
abbrev pub number_at : GraphiteKind → ℕ → Result ℤ NumFault → Result ℤ GraphiteFault
number_at kind offset (Ok number) = Ok number
number_at kind offset (Err numbers.NotANumber) = fault kind offset
number_at kind offset (Err numbers.NumberRange) = fault NumberRange offset

abbrev pub value_of : PartAt → Result ℤ GraphiteFault
value_of part = number_at BadValue part.0 (read_as part.1)

-- nanoseconds that are a moment
abbrev pub is_moment : ℤ → Bool
is_moment (pos n) = nat_lt n (2 ^ 63)
is_moment (negsuc n) = nat_lt n (2 ^ 63)

-- one second before 1970
abbrev pub is_minus_one : ℤ → Bool
is_minus_one (pos n) = false
is_minus_one (negsuc n) = n == 999999999

-- the time of so many nanoseconds; -1 s stands for the moment
abbrev pub moment_of : ℕ → ℤ → ℤ → Result ℤ GraphiteFault
moment_of offset moment nanoseconds =
    if is_minus_one nanoseconds then Ok moment
    else if is_moment nanoseconds then Ok nanoseconds
    else fault NumberRange offset

-- the billionths of a number of seconds are its nanoseconds; without a time it is the moment
unfoldable pub time_of : ℤ → Option PartAt → Result ℤ GraphiteFault
time_of moment None = Ok moment
time_of moment (Some part) = do
  nanoseconds ← number_at BadTime part.0 (read_as part.1)
  moment_of part.0 moment nanoseconds

-- ---- the metric

-- what a metric is made of: its tags as they were given
pub record Said : Type 0 where
  pub name : List ℕ
  pub tags : List Tag
  pub key : List ℕ
  pub value : ℤ
  pub time : ℤ

-- the last tag of a key counts; no tag's value is empty
abbrev pub content_of : Said → Content
content_of said = record {
  name = said.name;
  tags = with_values (in_key_order said.tags);
  fields = (said.key, values.Fixed said.value) ∷ [];
  time = said.time;
}

-- a metric has at most 64 tags
abbrev pub limited : Said → Result (Option Content) GraphiteFault
limited said =
    if nat_lt 64 (length (in_key_order said.tags)) then fault TooMany 0 else Ok (Some (content_of said))

-- what a template makes of a path, a value and a time
abbrev pub said_of : List ℕ → Shape → Path → ℤ → ℤ → Said
said_of separator shape path value time = record {
  name = name_of separator shape.parts path.segments;
  tags = tags_of separator shape path;
  key = key_of separator shape.parts path.segments;
  value = value;
  time = time;
}

-- the metric of a line
unfoldable pub metric_reading : List Shape → List ℕ → Line → ℤ → Result (Option Content) GraphiteFault
metric_reading templates separator line moment = do
  path ← or_bad_path (path_of line.path.1)
  value ← value_of line.value
  time ← time_of moment line.time
  limited (said_of separator (used templates path.segments) path value time)

abbrev pub line_reading : List Shape → List ℕ → ℤ → Option Line → Result (Option Content) GraphiteFault
line_reading templates separator moment None = Ok None
line_reading templates separator moment (Some line) = metric_reading templates separator line moment

-- the metric of a text, none where it has no word
unfoldable pub text_reading : List Shape → List ℕ → List ℕ → ℤ → Result (Option Content) GraphiteFault
text_reading templates separator piece moment = do
  line ← line_of (words_of (0, piece))
  line_reading templates separator moment line

-- the metric of a piece; it has to be UTF-8, else the fault is at the end of its longest front that is
unfoldable pub reading : List Shape → List ℕ → List ℕ → ℤ → Result (Option Content) GraphiteFault
reading templates separator piece moment =
    if is_utf8 piece then text_reading templates separator piece moment
    else fault NotUtf8 (utf8_valid_len piece)
