-- The lines of an exposition.
use Rattle.std.specs.Prelude.{ℕ, ◌==◌, Bool, List, [], ◌∷◌, length, take, drop, codes, Option, Some, None}
use Rattle.std.specs.Prelude.{Result, Ok, Err, slice_index, if◌then◌else◌}
use Rattle.std.specs.List.{list_any}
use Rattle.std.specs.Str.{bytes_eq}
use Rattle.text_parts.specs.Bytes.{space, hash}
use Rattle.text_parts.specs.Chain.{◌>>=◌}
use Rattle.text_parts.specs.Split.{first_part}
use Rattle.openmetrics_text.specs.declared.fault.ExpositionKind.{ExpositionKind}
use Rattle.openmetrics_text.specs.declared.fault.ExpositionKind.TheVariants.{BadLine}
use Rattle.openmetrics_text.specs.Names.{is_name}
use Rattle.openmetrics_text.specs.Sample.{Said, sample_of}

-- what a line says: the type of a name, nothing, or a sample
pub data LineSays : Type 0 where
  Typed : List ℕ → List ℕ → LineSays
  Nothing : LineSays
  Sampled : Said → LineSays

-- the types
abbrev pub type_names : List (List ℕ)
type_names =
    codes "counter" ∷ codes "gauge" ∷ codes "histogram" ∷ codes "gaugehistogram"
    ∷ codes "stateset" ∷ codes "info" ∷ codes "summary" ∷ codes "unknown" ∷ []

abbrev pub is_type : List ℕ → Bool
is_type text = list_any (bytes_eq text) type_names

-- a text begins with a word
abbrev pub begins_with : List ℕ → List ℕ → Bool
begins_with word text = bytes_eq (take (length word) text) word

-- what a name is followed by says its type
abbrev pub typed : List ℕ → Option (List ℕ) → Result LineSays ExpositionKind
typed name None = Err BadLine
typed name (Some text) = if is_type text then Ok (Typed name text) else Err BadLine

-- behind `# TYPE `: a name up to the next space, and its type
unfoldable pub type_line : List ℕ → Result LineSays ExpositionKind
type_line text =
    if is_name (first_part space text).0 then typed (first_part space text).0 (first_part space text).1
    else Err BadLine

-- behind `# HELP ` or `# UNIT `: a name up to the next space or the end
unfoldable pub about_line : List ℕ → Result LineSays ExpositionKind
about_line text = if is_name (first_part space text).0 then Ok Nothing else Err BadLine

-- the words that begin such lines
abbrev pub type_word : List ℕ
type_word = codes "# TYPE "

abbrev pub help_word : List ℕ
help_word = codes "# HELP "

abbrev pub unit_word : List ℕ
unit_word = codes "# UNIT "

-- a line that begins with `#`
unfoldable pub hash_line : List ℕ → Result LineSays ExpositionKind
hash_line line =
    if begins_with type_word line then type_line (drop 7 line)
    else if begins_with help_word line then about_line (drop 7 line)
    else if begins_with unit_word line then about_line (drop 7 line)
    else Ok Nothing

unfoldable pub sample_line : Bool → List ℕ → Result LineSays ExpositionKind
sample_line passing line = do
  said ← sample_of passing line
  Ok (Sampled said)

-- a line, where what is out of range is passed over or not
unfoldable pub line_of : Bool → List ℕ → Result LineSays ExpositionKind
line_of passing line = if slice_index line 0 == hash then hash_line line else sample_line passing line
