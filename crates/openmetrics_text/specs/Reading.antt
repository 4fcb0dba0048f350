-- Reading an exposition: `# EOF` at its end, then its lines in order; the first fault counts.
use Rattle.std.specs.Prelude.{ℕ, ℤ, ◌+◌, ◌-◌, ◌^◌, Bool, true, false, List, [], ◌∷◌, ◌++◌, length, take, drop}
use Rattle.std.specs.Prelude.{codes, min, Option, Some, None, Result, Ok, if◌then◌else◌}
use Rattle.std.specs.Str.{is_utf8, bytes_eq}
use Rattle.std.specs.Str.Lossy.{utf8_valid_len}
use Rattle.text_parts.specs.Bytes.{newline}
use Rattle.text_parts.specs.Chain.{◌>>=◌}
use Rattle.text_parts.specs.Split.{PartAt, parts_of, each}
use Rattle.metric.specs.declared.metric.Content.{Content}
use Rattle.metric.specs.declared.value.Value.TheVariants.{Fixed}
use Rattle.metric.specs.Draft.{Tag}
use Rattle.metric.specs.Pairs.{in_key_order, with_values}
use Rattle.openmetrics_text.specs.declared.exposition.Exposition.{Exposition}
use Rattle.openmetrics_text.specs.declared.fault.ExpositionFault.{ExpositionFault}
use Rattle.openmetrics_text.specs.declared.fault.ExpositionKind.TheVariants.{NoEof, NotUtf8}
use Rattle.openmetrics_text.specs.declared.number.Number.{Number}
use Rattle.openmetrics_text.specs.declared.number.Number.TheVariants.{Decimal, NoDecimal, OutOfRange}
use Rattle.openmetrics_text.specs.Faults.{fault, placed_at}
use Rattle.openmetrics_text.specs.Lines.{LineSays, Typed, Nothing, Sampled, line_of}
use Rattle.openmetrics_text.specs.Sample.{Said}
use Rattle.openmetrics_text.specs.Types.{type_of}

-- ---- what samples say

-- the tag of a sample's type, where it is asked for: over a label of that name
abbrev pub type_tags : Bool → List ℕ → List Tag
type_tags true kind = (codes "om_type", kind) ∷ []
type_tags false kind = []

abbrev pub or_moment : ℤ → Option ℤ → ℤ
or_moment moment None = moment
or_moment moment (Some time) = time

-- the metric of a sample whose number is this decimal: no tag's value is empty
abbrev pub content_of : ℤ → Bool → List ℕ → Said → ℤ → Content
content_of moment typed kind said number = record {
  name = said.name;
  tags = with_values (in_key_order (said.labels ++ type_tags typed kind));
  fields = (codes "value", Fixed number) ∷ [];
  time = or_moment moment said.time;
}

-- the metric of a sample, where its number is a decimal in range
abbrev pub contents_by : ℤ → Bool → List ℕ → Said → Number → List Content
contents_by moment typed kind said (Decimal number) = content_of moment typed kind said number ∷ []
contents_by moment typed kind said NoDecimal = []
contents_by moment typed kind said OutOfRange = []

abbrev pub contents_of : ℤ → Bool → List ℕ → Said → List Content
contents_of moment typed kind said = contents_by moment typed kind said said.number

-- the metrics of lines, of which some TYPE lines went before
unfoldable pub metrics_from : ℤ → Bool → List Tag → List LineSays → List Content
metrics_from moment typed types [] = []
metrics_from moment typed types (Typed name kind ∷ lines) =
    metrics_from moment typed (types ++ (name, kind) ∷ []) lines
metrics_from moment typed types (Nothing ∷ lines) = metrics_from moment typed types lines
metrics_from moment typed types (Sampled said ∷ lines) =
    contents_of moment typed (type_of said.name types) said ++ metrics_from moment typed types lines

-- what the samples of lines count together, each by its number
unfoldable pub counted_in : (Number → ℕ) → List LineSays → ℕ
counted_in count [] = 0
counted_in count (Typed name kind ∷ lines) = counted_in count lines
counted_in count (Nothing ∷ lines) = counted_in count lines
counted_in count (Sampled said ∷ lines) = count said.number + counted_in count lines

-- how many samples have a number that is no decimal in range
abbrev pub passed_by : Number → ℕ
passed_by (Decimal number) = 0
passed_by NoDecimal = 1
passed_by OutOfRange = 1

abbrev pub passed_in : List LineSays → ℕ
passed_in lines = counted_in passed_by lines

-- how many of these have one out of range
abbrev pub out_by : Number → ℕ
out_by (Decimal number) = 0
out_by NoDecimal = 0
out_by OutOfRange = 1

abbrev pub out_in : List LineSays → ℕ
out_in lines = counted_in out_by lines

-- the exposition that lines are: the samples that are passed over are counted up to 2^32 - 1, and so are those
-- of them that are out of range
abbrev pub exposition_of : ℤ → Bool → List LineSays → Exposition
exposition_of moment typed lines = record {
  metrics = metrics_from moment typed [] lines;
  passed = min (passed_in lines) (2 ^ 32 - 1);
  out_of_range = min (out_in lines) (2 ^ 32 - 1);
}

-- ---- the lines

-- a text without a word at its end
abbrev pub without_end : List ℕ → List ℕ → List ℕ
without_end word text = take (length text - length word) text

abbrev pub ends_with : List ℕ → List ℕ → Bool
ends_with word text = bytes_eq (drop (length text - length word) text) word

-- a text without one newline at its end
abbrev pub without_newline : List ℕ → List ℕ
without_newline text = if ends_with (newline ∷ []) text then without_end (newline ∷ []) text else text

-- what stands before the last line, where that is `# EOF`, without the newline between them; or that no line
-- stands before it
abbrev pub before_last : List ℕ → Option (Option (List ℕ))
before_last text =
    if bytes_eq text (codes "# EOF") then Some None
    else if ends_with (newline ∷ codes "# EOF") text then Some (Some (without_end (newline ∷ codes "# EOF") text))
    else None

-- the lines before the last one, each with its offset
abbrev pub lines_of : Option (List ℕ) → List PartAt
lines_of None = []
lines_of (Some text) = parts_of newline (0, text)

-- what a line says, where what is out of range is passed over or not
unfoldable pub line_at : Bool → PartAt → Result LineSays ExpositionFault
line_at passing line = placed_at line.0 (line_of passing line.1)

-- the exposition that the lines before the last one are
unfoldable pub lines_reading : ℤ → Bool → Bool → Option (List ℕ) → Result Exposition ExpositionFault
lines_reading moment typed passing text = do
  lines ← each (line_at passing) (lines_of text)
  Ok (exposition_of moment typed lines)

abbrev pub ended_reading :
    ℤ → Bool → Bool → ℕ → Option (Option (List ℕ)) → Result Exposition ExpositionFault
ended_reading moment typed passing size None = fault NoEof size
ended_reading moment typed passing size (Some text) = lines_reading moment typed passing text

unfoldable pub text_reading : List ℕ → ℤ → Bool → Bool → Result Exposition ExpositionFault
text_reading piece moment typed passing =
    ended_reading moment typed passing (length piece) (before_last (without_newline piece))

-- the exposition that a piece is, with a tag for each type or without, where samples out of range are passed over
-- or refuse it; the piece has to be UTF-8, else the fault is at the end of its longest front that is
unfoldable pub reading : List ℕ → ℤ → Bool → Bool → Result Exposition ExpositionFault
reading piece moment typed passing =
    if is_utf8 piece then text_reading piece moment typed passing else fault NotUtf8 (utf8_valid_len piece)
