-- A sample: a name, labels, a number, perhaps a time.
use Rattle.std.specs.Prelude.{ℕ, ℤ, pos, negsuc, ◌+◌, ◌^◌, ◌==◌, ◌&&◌, ◌||◌, not, Bool, true, false, List, []}
use Rattle.std.specs.Prelude.{length, take, drop, map, codes, nat_lt, Option, Some, None, Result, Ok, Err}
use Rattle.std.specs.Prelude.{slice_index, if◌then◌else◌}
use Rattle.std.specs.Char.{to_ascii_lowercase}
use Rattle.std.specs.Str.{bytes_eq}
use Rattle.text_parts.specs.Bytes.{space, hash}
use Rattle.text_parts.specs.Chain.{◌>>=◌}
use Rattle.text_parts.specs.Split.{first_part}
use Rattle.fixed_num.specs.declared.fixed.NumFault.{NumFault}
use Rattle.fixed_num.specs.declared.fixed.NumFault.TheVariants as numbers
use Rattle.fixed_num.specs.Fixed.{read_as}
use Rattle.metric.specs.Draft.{Tag}
use Rattle.openmetrics_text.specs.declared.fault.ExpositionKind.{ExpositionKind}
use Rattle.openmetrics_text.specs.declared.fault.ExpositionKind.TheVariants.{BadLine, BadNumber, BadTime}
use Rattle.openmetrics_text.specs.declared.fault.ExpositionKind.TheVariants.{NumberRange, TooMany}
use Rattle.openmetrics_text.specs.declared.number.Number.{Number}
use Rattle.openmetrics_text.specs.declared.number.Number.TheVariants.{Decimal, NoDecimal, OutOfRange}
use Rattle.openmetrics_text.specs.declared.number.Time.{Time}
use Rattle.openmetrics_text.specs.declared.number.Time.TheVariants as times
use Rattle.openmetrics_text.specs.Bytes.{left_brace}
use Rattle.openmetrics_text.specs.Names.{ends_name, name_len}
use Rattle.openmetrics_text.specs.Labels.{labels_at}

-- ---- the name and the labels

-- the name, the labels, and the offset behind them
pub record Head : Type 0 where
  pub name : List ℕ
  pub labels : List Tag
  pub behind : ℕ

abbrev pub braced : List ℕ → ℕ → Result Head ExpositionKind
braced line n = do
  labels ← labels_at line (n + 1)
  Ok (record { name = take n line; labels = labels.0; behind = labels.1 })

-- the longest name that the line begins with, and the labels where an opening brace follows it
unfoldable pub head_of : List ℕ → Result Head ExpositionKind
head_of line =
    if name_len ends_name line == 0 then Err BadLine
    else if slice_index line (name_len ends_name line) == left_brace then braced line (name_len ends_name line)
    else Ok (record {
      name = take (name_len ends_name line) line;
      labels = [];
      behind = name_len ends_name line;
    })

-- what stands behind a space at an offset
unfoldable pub behind_space : List ℕ → ℕ → Result (List ℕ) ExpositionKind
behind_space line i = if slice_index line i == space then Ok (drop (i + 1) line) else Err BadLine

-- ---- the number and the time

-- the texts of the number and of the time, where one is written
pub record Shape : Type 0 where
  pub number : List ℕ
  pub time : Option (List ℕ)

-- behind a space, a `#` and a space begin what is passed over
abbrev pub is_exemplar : List ℕ → Bool
is_exemplar text = slice_index text 0 == hash && slice_index text 1 == space

-- behind the time nothing stands, or what is passed over
abbrev pub timed : List ℕ → List ℕ → Option (List ℕ) → Result Shape ExpositionKind
timed number time None = Ok (record { number = number; time = Some time })
timed number time (Some rest) =
    if is_exemplar rest then Ok (record { number = number; time = Some time }) else Err BadLine

-- behind the number nothing stands, or what is passed over, or a time up to the next space or the end
abbrev pub numbered : List ℕ → Option (List ℕ) → Result Shape ExpositionKind
numbered number None = Ok (record { number = number; time = None })
numbered number (Some rest) =
    if is_exemplar rest then Ok (record { number = number; time = None })
    else timed number (first_part space rest).0 (first_part space rest).1

-- the number is what stands before the next space or the end
unfoldable pub shape_of : List ℕ → Result Shape ExpositionKind
shape_of text = numbered (first_part space text).0 (first_part space text).1

-- a text in lower case is one of the numbers that are no decimals
abbrev pub is_no_decimal : List ℕ → Bool
is_no_decimal text =
    bytes_eq text (codes "nan")
    || bytes_eq text (codes "inf") || bytes_eq text (codes "+inf") || bytes_eq text (codes "-inf")
    || bytes_eq text (codes "infinity") || bytes_eq text (codes "+infinity") || bytes_eq text (codes "-infinity")

abbrev pub lower : List ℕ → List ℕ
lower text = map to_ascii_lowercase text

-- a number: a decimal in range, one out of range, or none
abbrev pub number_from : List ℕ → Result ℤ NumFault → Result Number ExpositionKind
number_from text (Ok number) = Ok (Decimal number)
number_from text (Err numbers.NumberRange) = Ok OutOfRange
number_from text (Err numbers.NotANumber) = if is_no_decimal (lower text) then Ok NoDecimal else Err BadNumber

unfoldable pub number_of : List ℕ → Result Number ExpositionKind
number_of text = number_from text (read_as text)

-- nanoseconds that are a moment
abbrev pub is_moment : ℤ → Bool
is_moment (pos n) = nat_lt n (2 ^ 63)
is_moment (negsuc n) = nat_lt n (2 ^ 63)

-- the time of so many nanoseconds
abbrev pub time_at : ℤ → Time
time_at nanoseconds = if is_moment nanoseconds then times.At nanoseconds else times.OutOfRange

-- a time: a decimal of seconds whose nanoseconds are a moment, or one out of range
abbrev pub time_from : Result ℤ NumFault → Result Time ExpositionKind
time_from (Ok nanoseconds) = Ok (time_at nanoseconds)
time_from (Err numbers.NumberRange) = Ok times.OutOfRange
time_from (Err numbers.NotANumber) = Err BadTime

unfoldable pub time_of : Option (List ℕ) → Result Time ExpositionKind
time_of None = Ok times.Unwritten
time_of (Some text) = time_from (read_as text)

-- ---- the sample

-- a sample: its number, which is out of range where its time is, and its time where one in range is written
pub record Said : Type 0 where
  pub name : List ℕ
  pub labels : List Tag
  pub number : Number
  pub time : Option ℤ

abbrev pub number_said : Number → Time → Number
number_said number times.Unwritten = number
number_said number (times.At time) = number
number_said number times.OutOfRange = OutOfRange

abbrev pub time_said : Time → Option ℤ
time_said times.Unwritten = None
time_said (times.At time) = Some time
time_said times.OutOfRange = None

abbrev pub is_out_of_range : Number → Bool
is_out_of_range (Decimal number) = false
is_out_of_range NoDecimal = false
is_out_of_range OutOfRange = true

-- the number and the time are in range, unless what is out of range is passed over, and at most 64 labels are
-- written
unfoldable pub limited : Bool → Head → Number → Time → Result Said ExpositionKind
limited passing head number time =
    if is_out_of_range (number_said number time) && not passing then Err NumberRange
    else if nat_lt 64 (length head.labels) then Err TooMany
    else Ok (record {
      name = head.name;
      labels = head.labels;
      number = number_said number time;
      time = time_said time;
    })

-- the sample that a line is, where what is out of range is passed over or not: its shape comes before its numbers
unfoldable pub sample_of : Bool → List ℕ → Result Said ExpositionKind
sample_of passing line = do
  head ← head_of line
  text ← behind_space line head.behind
  shape ← shape_of text
  number ← number_of shape.number
  time ← time_of shape.time
  limited passing head number time
