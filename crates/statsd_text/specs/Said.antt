-- What a part of a line says.
use Rattle.std.specs.Prelude.{ℕ, ℤ, ◌+◌, ◌==◌, ◌||◌, Bool, true, false, zero, suc, pos, negsuc, List, length}
use Rattle.std.specs.Prelude.{drop, codes, Option, Some, None, Result, Ok, Err, slice_index, if◌then◌else◌}
use Rattle.std.specs.Str.{bytes_eq}
use Rattle.text_parts.specs.Bytes.{plus, minus, at_sign, bar}
use Rattle.text_parts.specs.Chain.{◌>>=◌}
use Rattle.text_parts.specs.Split.{PartAt, first_part}
use Rattle.fixed_num.specs.declared.fixed.NumFault.{NumFault}
use Rattle.fixed_num.specs.declared.fixed.NumFault.TheVariants as numbers
use Rattle.fixed_num.specs.Fixed.{read_as}
use Rattle.fixed_num.specs.Quotient.{divided}
use Rattle.metric.specs.declared.value.Value.{Value}
use Rattle.metric.specs.declared.value.Value.TheVariants as values
use Rattle.statsd_text.specs.declared.fault.StatsdFault.{StatsdFault}
use Rattle.statsd_text.specs.declared.fault.StatsdKind.{StatsdKind}
use Rattle.statsd_text.specs.declared.fault.StatsdKind.TheVariants.{BadType, BadValue, BadRate, NumberRange}
use Rattle.statsd_text.specs.declared.said.MetricType.{MetricType}
use Rattle.statsd_text.specs.declared.said.MetricType.TheVariants.{Counter, Gauge, Timing, Set}
use Rattle.statsd_text.specs.declared.said.FieldName.{FieldName}
use Rattle.statsd_text.specs.declared.said.FieldName.TheVariants as names
use Rattle.statsd_text.specs.declared.said.Said.{Said}
use Rattle.statsd_text.specs.Sections.{fault}

-- ---- the type

-- the type that a text names
unfoldable pub type_of : List ℕ → Option MetricType
type_of text =
    if bytes_eq text (codes "c") then Some Counter
    else if bytes_eq text (codes "g") then Some Gauge
    else if bytes_eq text (codes "ms") || bytes_eq text (codes "h") then Some Timing
    else if bytes_eq text (codes "s") then Some Set
    else None

-- its name as a tag's value
abbrev pub type_name : MetricType → List ℕ
type_name Counter = codes "counter"
type_name Gauge = codes "gauge"
type_name Timing = codes "timing"
type_name Set = codes "set"

-- the texts of a part: its value, its type, and what stands behind a second `|`, with the offset of that
pub record Texts : Type 0 where
  pub value : List ℕ
  pub metric_type : MetricType
  pub rate : Option PartAt

abbrev pub rate_text : ℕ → Option (List ℕ) → Option PartAt
rate_text offset None = None
rate_text offset (Some text) = Some (offset, text)

-- the texts, where the type is one
abbrev pub typed : ℕ → List ℕ → List ℕ → Option (List ℕ) → Option MetricType → Result Texts StatsdFault
typed offset value name rate None = fault BadType offset
typed offset value name rate (Some metric_type) =
    Ok (record { value = value; metric_type = metric_type; rate = rate_text (offset + length name) rate })

-- behind the first `|` stands the type, up to the next `|` or the end
abbrev pub texts_from : ℕ → ℕ → List ℕ → Option (List ℕ) → Result Texts StatsdFault
texts_from offset end value None = fault BadType end
texts_from offset end value (Some rest) =
    typed (offset + length value + 1) value (first_part bar rest).0 (first_part bar rest).1
    (type_of (first_part bar rest).0)

unfoldable pub texts_of : PartAt → Result Texts StatsdFault
texts_of part =
    texts_from part.0 (part.0 + length part.1) (first_part bar part.1).0 (first_part bar part.1).1

-- ---- the value

abbrev pub number_value : Result ℤ NumFault → Result Value StatsdKind
number_value (Ok number) = Ok (values.Fixed number)
number_value (Err numbers.NotANumber) = Err BadValue
number_value (Err numbers.NumberRange) = Err NumberRange

-- a member, which isn't empty
abbrev pub member_value : List ℕ → Result Value StatsdKind
member_value text = if length text == 0 then Err BadValue else Ok (values.Text text)

-- the value of a set is a member, that of each other type a number
abbrev pub value_of : MetricType → List ℕ → Result Value StatsdKind
value_of Counter text = number_value (read_as text)
value_of Gauge text = number_value (read_as text)
value_of Timing text = number_value (read_as text)
value_of Set text = member_value text

-- the name of the field: a gauge with a sign is a change
abbrev pub begins_signed : List ℕ → Bool
begins_signed text = slice_index text 0 == plus || slice_index text 0 == minus

abbrev pub field_of : MetricType → List ℕ → FieldName
field_of Counter text = names.Value
field_of Gauge text = if begins_signed text then names.Delta else names.Value
field_of Timing text = names.Value
field_of Set text = names.Member

abbrev pub field_name : FieldName → List ℕ
field_name names.Value = codes "value"
field_name names.Delta = codes "delta"
field_name names.Member = codes "member"

-- ---- the rate

abbrev pub is_positive : ℤ → Bool
is_positive (pos zero) = false
is_positive (pos (suc n)) = true
is_positive (negsuc n) = false

-- a rate is above 0; one that is out of range is a fault of the value, unless it is negative
abbrev pub rate_from : ℕ → ℕ → Bool → Result ℤ NumFault → Result (Option ℤ) StatsdFault
rate_from offset bar_offset negative (Ok rate) =
    if is_positive rate then Ok (Some rate) else fault BadRate bar_offset
rate_from offset bar_offset negative (Err numbers.NotANumber) = fault BadRate bar_offset
rate_from offset bar_offset negative (Err numbers.NumberRange) =
    if negative then fault BadRate bar_offset else fault NumberRange offset

-- the rate behind its `@`
abbrev pub rate_read : ℕ → PartAt → Result (Option ℤ) StatsdFault
rate_read offset rate =
    if slice_index rate.1 0 == at_sign
    then rate_from offset rate.0 (slice_index rate.1 1 == minus) (read_as (drop 1 rate.1))
    else fault BadRate rate.0

-- the rate of a value at an offset, where one is written
unfoldable pub rate_of : ℕ → Option PartAt → Result (Option ℤ) StatsdFault
rate_of offset None = Ok None
rate_of offset (Some rate) = rate_read offset rate

-- ---- the part

-- a fault of the value that begins at an offset
abbrev pub placed_at : {A : Type 0} → ℕ → Result A StatsdKind → Result A StatsdFault
placed_at offset (Ok x) = Ok x
placed_at offset (Err kind) = fault kind offset

abbrev pub quotient_value : Option ℤ → Result Value StatsdKind
quotient_value None = Err NumberRange
quotient_value (Some number) = Ok (values.Fixed number)

abbrev pub divided_value : Value → ℤ → Result Value StatsdKind
divided_value (values.Fixed number) rate = quotient_value (divided number rate)
divided_value value rate = Ok value

-- a counter with a rate is divided by it; the rate of another type isn't used
abbrev pub counted : MetricType → Value → Option ℤ → Result Value StatsdKind
counted Counter value (Some rate) = divided_value value rate
counted metric_type value rate = Ok value

-- a part: its type first, then its value, then its rate
unfoldable pub part_of : PartAt → Result Said StatsdFault
part_of part = do
  texts ← texts_of part
  value ← placed_at part.0 (value_of texts.metric_type texts.value)
  rate ← rate_of part.0 texts.rate
  result ← placed_at part.0 (counted texts.metric_type value rate)
  Ok (record {
    metric_type = texts.metric_type;
    field = field_of texts.metric_type texts.value;
    value = result;
  })
