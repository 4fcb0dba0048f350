-- Expositions as they are written.
use Rattle.std.specs.Prelude.{◌≡◌, ◌<◌, ◌≤◌, ℕ, ℤ, Bool, true, false, List, [], ◌∷◌, ◌++◌, length, codes, Option}
use Rattle.std.specs.Prelude.{Some, None, Ok, slice_index, ◌/◌, IfOk}
use Rattle.std.specs.Char.{is_ascii_digit}
use Rattle.std.specs.List.{flat_map}
use Rattle.std.specs.Str.{IsUtf8}
use Rattle.text_parts.specs.Bytes.{newline, space, double_quote, hash, comma, equals_sign}
use Rattle.text_parts.specs.Grammar.{Mark, spelled, meant, IsPart, HasNone}
use Rattle.text_parts.specs.Split.{is_byte}
use Rattle.metric.specs.Draft.{Tag}
use Rattle.openmetrics_text.specs.declared.exposition.Exposition.{Exposition}
use Rattle.openmetrics_text.specs.declared.number.Number.{Number}
use Rattle.openmetrics_text.specs.declared.number.Time.{Time}
use Rattle.openmetrics_text.specs.Bytes.{left_brace, right_brace}
use Rattle.openmetrics_text.specs.Labels.{value_part, has_twice, names_of}
use Rattle.openmetrics_text.specs.Lines.{LineSays, Typed, Nothing, Sampled, is_type, begins_with, type_word}
use Rattle.openmetrics_text.specs.Lines.{help_word, unit_word}
use Rattle.openmetrics_text.specs.Names.{ends_label, ends_name}
use Rattle.openmetrics_text.specs.Reading.{exposition_of, reading}
use Rattle.openmetrics_text.specs.Sample.{Said, number_of, time_of, is_out_of_range, number_said, time_said}

-- ---- what is written

-- a sample: its name; its labels in braces, where braces are written, each a name and a value as it is written
-- between its double quotes; its number; a time; and what is passed over
pub record WrittenSample : Type 0 where
  pub name : List ℕ
  pub labels : Option (List (List ℕ × List ℕ))
  pub number : List ℕ
  pub time : Option (List ℕ)
  pub exemplar : Option (List ℕ)

abbrev pub label_text : List ℕ × List ℕ → List ℕ
label_text label = label.0 ++ equals_sign ∷ double_quote ∷ (label.1 ++ double_quote ∷ [])

-- labels, each behind a comma
abbrev pub more_labels_text : List (List ℕ × List ℕ) → List ℕ
more_labels_text [] = []
more_labels_text (label ∷ labels) = comma ∷ (label_text label ++ more_labels_text labels)

-- labels with commas between them
abbrev pub labels_text : List (List ℕ × List ℕ) → List ℕ
labels_text [] = []
labels_text (label ∷ labels) = label_text label ++ more_labels_text labels

abbrev pub braces_text : Option (List (List ℕ × List ℕ)) → List ℕ
braces_text None = []
braces_text (Some labels) = left_brace ∷ (labels_text labels ++ right_brace ∷ [])

abbrev pub time_text : Option (List ℕ) → List ℕ
time_text None = []
time_text (Some time) = space ∷ time

abbrev pub exemplar_text : Option (List ℕ) → List ℕ
exemplar_text None = []
exemplar_text (Some text) = space ∷ hash ∷ space ∷ text

abbrev pub sample_text : WrittenSample → List ℕ
sample_text w =
    w.name ++ (braces_text w.labels ++ space ∷ (w.number ++ (time_text w.time ++ exemplar_text w.exemplar)))

-- a line: the type of a name; help or a unit of a name, with or without a text behind it; another line that
-- begins with `#`; a sample
pub data WrittenLine : Type 0 where
  TypeLine : List ℕ → List ℕ → WrittenLine
  HelpLine : List ℕ → Option (List ℕ) → WrittenLine
  UnitLine : List ℕ → Option (List ℕ) → WrittenLine
  OtherLine : List ℕ → WrittenLine
  SampleLine : WrittenSample → WrittenLine

abbrev pub line_text : WrittenLine → List ℕ
line_text (TypeLine name kind) = type_word ++ (name ++ space ∷ kind)
line_text (HelpLine name text) = help_word ++ (name ++ time_text text)
line_text (UnitLine name text) = unit_word ++ (name ++ time_text text)
line_text (OtherLine text) = hash ∷ text
line_text (SampleLine sample) = sample_text sample

abbrev pub with_newline : WrittenLine → List ℕ
with_newline line = line_text line ++ newline ∷ []

-- the newline behind the last line, where one is written
abbrev pub end_text : Bool → List ℕ
end_text true = newline ∷ []
end_text false = []

-- a text is its lines, each with a newline behind it, and `# EOF`, with a newline behind it or without
abbrev pub exposition_text : List WrittenLine → Bool → List ℕ
exposition_text lines ended = flat_map with_newline lines ++ (codes "# EOF" ++ end_text ended)

-- ---- what it says

-- a name of an alphabet, of which these bytes aren't
pub record IsName (ends : ℕ → Bool) (text : List ℕ) : Type 0 where
  pub filled : 0 < length text
  pub no_digit : is_ascii_digit (slice_index text 0) ≡ false
  pub clean : HasNone ends text

-- what is written between double quotes, whatever follows, is the value
pub record IsLabel (written : List ℕ × List ℕ) (label : Tag) : Type 0 where
  pub name : IsName ends_label written.0
  pub same : label.0 ≡ written.0
  pub marks : List Mark
  pub is : written.1 ≡ spelled marks
  pub part : (rest : List ℕ) → IsPart value_part marks (double_quote ∷ rest)
  pub says : label.1 ≡ meant value_part marks

abbrev pub AreLabels : List (List ℕ × List ℕ) → List Tag → Type 0
AreLabels [] [] = Unit {0}
AreLabels [] (label ∷ labels) = ⊥
AreLabels (written ∷ others) [] = ⊥
AreLabels (written ∷ others) (label ∷ labels) = IsLabel written label × AreLabels others labels

abbrev pub AreBraced : Option (List (List ℕ × List ℕ)) → List Tag → Type 0
AreBraced None labels = labels ≡ []
AreBraced (Some written) labels = AreLabels written labels

abbrev pub HasNoSpace : Option (List ℕ) → Type 0
HasNoSpace None = Unit {0}
HasNoSpace (Some text) = HasNone (is_byte space) text

-- a sample that is written: its number and its time are in range, unless what is out of range is passed over
pub record IsSample (passing : Bool) (w : WrittenSample) (said : Said) : Type 0 where
  pub name : IsName ends_name w.name
  pub same : said.name ≡ w.name
  pub labels : AreBraced w.labels said.labels
  pub distinct : has_twice [] (names_of said.labels) ≡ false
  pub few : length said.labels ≤ 64
  pub number_whole : HasNone (is_byte space) w.number
  pub time_whole : HasNoSpace w.time
  pub number : Number
  pub is_number : number_of w.number ≡ Ok number
  pub time : Time
  pub is_time : time_of w.time ≡ Ok time
  pub in_range : passing ≡ false → is_out_of_range said.number ≡ false
  pub number_is : said.number ≡ number_said number time
  pub time_is : said.time ≡ time_said time

-- no word of metadata begins the line
pub record IsOther (text : List ℕ) : Type 0 where
  pub no_type : begins_with type_word (hash ∷ text) ≡ false
  pub no_help : begins_with help_word (hash ∷ text) ≡ false
  pub no_unit : begins_with unit_word (hash ∷ text) ≡ false

-- a line that is written
abbrev pub IsLine : Bool → WrittenLine → LineSays → Type 0
IsLine passing (TypeLine name kind) says =
    IsName ends_name name × (is_type kind ≡ true) × (says ≡ Typed name kind)
IsLine passing (HelpLine name text) says = IsName ends_name name × (says ≡ Nothing)
IsLine passing (UnitLine name text) says = IsName ends_name name × (says ≡ Nothing)
IsLine passing (OtherLine text) says = IsOther text × (says ≡ Nothing)
IsLine passing (SampleLine sample) says = (said : Said) × IsSample passing sample said × (says ≡ Sampled said)

-- lines that are written, none of them with a newline in it
abbrev pub AreLines : Bool → List WrittenLine → List LineSays → Type 0
AreLines passing [] [] = Unit {0}
AreLines passing [] (says ∷ others) = ⊥
AreLines passing (line ∷ lines) [] = ⊥
AreLines passing (line ∷ lines) (says ∷ others) =
    HasNone (is_byte newline) (line_text line) × IsLine passing line says × AreLines passing lines others

-- an exposition that is written is read as what its lines say
abbrev pub WrittenIsRead : Type 0
WrittenIsRead = (lines : List WrittenLine) (says : List LineSays) (ended : Bool)
    → (moment : ℤ) (typed passing : Bool)
    → AreLines passing lines says → IsUtf8 (exposition_text lines ended)
    → reading (exposition_text lines ended) moment typed passing ≡ Ok (exposition_of moment typed says)

-- what is read is an exposition that is written
abbrev pub ReadIsWritten : Type 0
ReadIsWritten = (piece : List ℕ) (moment : ℤ) (typed passing : Bool) (exposition : Exposition)
    → reading piece moment typed passing ≡ Ok exposition
    → (lines : List WrittenLine) × (says : List LineSays) × (ended : Bool)
    × (piece ≡ exposition_text lines ended) × IsUtf8 piece × AreLines passing lines says
    × (exposition ≡ exposition_of moment typed says)

-- ---- how many metrics are said

-- in so many bytes: one for each four, since a sample has a name, a space, a number and its newline
abbrev pub most_said : ℕ → ℕ
most_said size = size / 4

-- no piece says more
abbrev pub SaysAtMost : Type 0
SaysAtMost = (piece : List ℕ) (moment : ℤ) (typed passing : Bool)
    → IfOk (reading piece moment typed passing)
    (λ exposition. length exposition.metrics ≤ most_said (length piece))
