-- What stands where a fault is.
use Rattle.std.specs.Prelude.{◌≡◌, ◌≢◌, ◌<◌, ◌⊎◌, ℕ, ℤ, Bool, true, false, List, [], ◌∷◌, ◌++◌, length, codes, Option}
use Rattle.std.specs.Prelude.{Some}
use Rattle.std.specs.Prelude.{None, Err}
use Rattle.std.specs.Str.{IsUtf8, IsValidUpTo}
use Rattle.text_parts.specs.Bytes.{newline, space}
use Rattle.text_parts.specs.Grammar.{HasNone}
use Rattle.text_parts.specs.Offsets.{word_at, Follows, is_decimal}
use Rattle.text_parts.specs.Split.{is_byte}
use Rattle.metric.specs.Draft.{Tag}
use Rattle.openmetrics_text.specs.declared.fault.ExpositionFault.{ExpositionFault}
use Rattle.openmetrics_text.specs.declared.fault.ExpositionKind.{ExpositionKind}
use Rattle.openmetrics_text.specs.declared.fault.ExpositionKind.TheVariants.{NoEof, BadLine, BadLabel, BadNumber}
use Rattle.openmetrics_text.specs.declared.fault.ExpositionKind.TheVariants.{BadTime, NumberRange, NotUtf8, TooMany}
use Rattle.openmetrics_text.specs.Bytes.{left_brace, right_brace}
use Rattle.openmetrics_text.specs.Labels.{has_twice, names_of}
use Rattle.openmetrics_text.specs.Lines.{LineSays}
use Rattle.openmetrics_text.specs.Names.{ends_name}
use Rattle.openmetrics_text.specs.Sample.{is_no_decimal, lower}
use Rattle.openmetrics_text.specs.Grammar.{WrittenSample, labels_text, sample_text, WrittenLine, line_text, end_text}
use Rattle.openmetrics_text.specs.Grammar.{IsName, AreLabels, AreBraced, HasNoSpace, IsLine}
use Rattle.openmetrics_text.specs.Reading.{reading}

-- ---- what a line is

-- the line is written as a sample is, whatever stands for its number and for its time
pub record IsShaped (line : List ℕ) (w : WrittenSample) (labels : List Tag) : Type 0 where
  pub is : line ≡ sample_text w
  pub name : IsName ends_name w.name
  pub are_labels : AreBraced w.labels labels
  pub distinct : has_twice [] (names_of labels) ≡ false
  pub number_whole : HasNone (is_byte space) w.number
  pub time_whole : HasNoSpace w.time

-- the text begins with labels of different names and a closing brace
pub record HasLabels (text : List ℕ) : Type 0 where
  pub written : List (List ℕ × List ℕ)
  pub labels : List Tag
  pub rest : List ℕ
  pub is : text ≡ labels_text written ++ right_brace ∷ rest
  pub are : AreLabels written labels
  pub distinct : has_twice [] (names_of labels) ≡ false

-- the line begins with a name and an opening brace, behind which no labels stand
pub record HasNoLabels (line : List ℕ) : Type 0 where
  pub name : List ℕ
  pub rest : List ℕ
  pub is : line ≡ name ++ left_brace ∷ rest
  pub named : IsName ends_name name
  pub none : HasLabels rest → ⊥

-- the line is none that is written, isn't written as a sample is, and has no fault between its braces
pub record HasNoShape (line : List ℕ) : Type 0 where
  pub no_line : (w : WrittenLine) (says : LineSays) → IsLine true w says → line_text w ≢ line
  pub no_sample : (w : WrittenSample) (labels : List Tag) → IsShaped line w labels → ⊥
  pub no_fault : HasNoLabels line → ⊥

-- a time is written; it is a decimal, or it is none
abbrev pub IsTimed : Bool → Option (List ℕ) → Type 0
IsTimed decimal None = ⊥
IsTimed decimal (Some text) = is_decimal text ≡ decimal

-- a sample whose number and time are so
abbrev pub HasSample : List ℕ → (WrittenSample → List Tag → Type 0) → Type 0
HasSample line Is = (w : WrittenSample) × (labels : List Tag) × IsShaped line w labels × Is w labels

-- what a line is that has a fault of a kind, where what is out of range is passed over or not
abbrev pub LineTells : Bool → List ℕ → ExpositionKind → Type 0
-- no line has this shape
LineTells passing line BadLine = HasNoShape line
-- no labels stand between its braces
LineTells passing line BadLabel = HasNoLabels line
-- a sample whose number is no decimal, no infinity and not NaN
LineTells passing line BadNumber =
    HasSample line (λ w labels. (is_decimal w.number ≡ false) × (is_no_decimal (lower w.number) ≡ false))
-- a sample whose time is no decimal
LineTells passing line BadTime = HasSample line (λ w labels. IsTimed false w.time)
-- a sample whose number is a decimal, or whose time is; nothing is passed over for that
LineTells passing line NumberRange =
    (passing ≡ false) × HasSample line (λ w labels. (is_decimal w.number ≡ true) ⊎ IsTimed true w.time)
-- a sample with more than 64 labels
LineTells passing line TooMany = HasSample line (λ w labels. 64 < length labels)
-- the other kinds are no faults of lines
LineTells passing line kind = ⊥

-- ---- what stands in the piece

-- a line begins at the offset
abbrev pub BeginsLine : List ℕ → ℕ → Type 0
BeginsLine piece offset = (offset ≡ 0) ⊎ Follows newline piece offset

-- the last line is `# EOF`, with a newline behind it or without
pub record EndsWithEof (piece : List ℕ) : Type 0 where
  pub front : List ℕ
  pub ended : Bool
  pub is : piece ≡ front ++ (codes "# EOF" ++ end_text ended)
  pub begins : (front ≡ []) ⊎ ((text : List ℕ) × (front ≡ text ++ newline ∷ []))

-- what stands in the piece, where a fault of a kind is at an offset
abbrev pub StandsAt : Bool → List ℕ → ℕ → ExpositionKind → Type 0
-- the last line isn't `# EOF`, and the piece ends there
StandsAt passing piece offset NoEof = (offset ≡ length piece) × (EndsWithEof piece → ⊥)
-- the bytes before the offset are UTF-8, and those of no longer front are
StandsAt passing piece offset NotUtf8 = IsValidUpTo piece offset
-- a line begins there that has the fault
StandsAt passing piece offset kind =
    BeginsLine piece offset × LineTells passing (word_at (is_byte newline) piece offset) kind

-- a piece with a fault is UTF-8, unless that is the fault
pub record Says (passing : Bool) (piece : List ℕ) (fault : ExpositionFault) : Type 0 where
  pub utf8 : (fault.kind ≡ NotUtf8) ⊎ IsUtf8 piece
  pub stands : StandsAt passing piece fault.offset fault.kind

-- each fault's kind says what stands in the piece
abbrev pub FaultSays : Type 0
FaultSays = (piece : List ℕ) (moment : ℤ) (typed passing : Bool) (fault : ExpositionFault)
    → reading piece moment typed passing ≡ Err fault → Says passing piece fault
