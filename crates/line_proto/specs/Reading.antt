-- Reading a line from left to right, with the first fault that is met.
use Rattle.std.specs.Prelude.{ℕ, ℤ, ◌+◌, ◌==◌, ◌||◌, not, Bool, List, length, take, drop, Option, Some}
use Rattle.std.specs.Prelude.{None, Result, Ok, Err, slice_index, if◌then◌else◌}
use Rattle.std.specs.List.{position_or_len}
use Rattle.std.specs.Str.{is_utf8}
use Rattle.std.specs.Str.Lossy.{utf8_valid_len}
use Rattle.text_parts.specs.Bytes.{space, double_quote, hash, comma, equals_sign}
use Rattle.text_parts.specs.Chain.{◌>>=◌}
use Rattle.text_parts.specs.Part.{Kind, len_at, text_at}
use Rattle.text_parts.specs.Many.{items_at, some_items_at}
use Rattle.metric.specs.declared.value.Value.{Value}
use Rattle.metric.specs.declared.value.Value.TheVariants as values
use Rattle.metric.specs.declared.metric.Content.{Content}
use Rattle.metric.specs.Draft.{Tag, Field, has_too_many}
use Rattle.metric.specs.Pairs.{in_key_order, in_first_order, with_values}
use Rattle.line_proto.specs.declared.fault.LineFault.{LineFault}
use Rattle.line_proto.specs.declared.fault.LineKind.{LineKind}
use Rattle.line_proto.specs.declared.fault.LineKind.TheVariants.{NoFields, BadKey, BadValue, BadTime, NotUtf8}
use Rattle.line_proto.specs.declared.fault.LineKind.TheVariants.{TooMany}
use Rattle.line_proto.specs.Kinds.{name_part, key_part, tag_value_part, text_part, value_part}
use Rattle.line_proto.specs.Values.{value_of, time_of}

-- a fault at an offset
abbrev pub fault : {A : Type 0} → LineKind → ℕ → Result A LineFault
fault kind offset = Err (record { kind = kind; offset = offset })

-- what is read from a part that begins at an offset
abbrev pub placed : {A : Type 0} → ℕ → Result A LineKind → Result A LineFault
placed offset (Ok x) = Ok x
placed offset (Err kind) = fault kind offset

-- behind the spaces that stand at an offset
abbrev pub behind_spaces : List ℕ → ℕ → ℕ
behind_spaces piece i = i + position_or_len (λ b. not (b == space)) (drop i piece)

-- a part, which isn't empty; each of these gives what begins at an offset, and the offset behind it
abbrev pub filled_at : Kind → LineKind → List ℕ → ℕ → Result (List ℕ × ℕ) LineFault
filled_at part kind piece i =
    if len_at part piece i == 0 then fault kind i else Ok (text_at part piece i, i + len_at part piece i)

-- a measurement, which isn't empty
unfoldable pub name_at : List ℕ → ℕ → Result (List ℕ × ℕ) LineFault
name_at piece i = filled_at name_part BadKey piece i

-- a key, which isn't empty, and the equals sign behind it
unfoldable pub key_at : List ℕ → ℕ → Result (List ℕ × ℕ) LineFault
key_at piece i =
    if len_at key_part piece i == 0 || not (slice_index piece (i + len_at key_part piece i) == equals_sign)
    then fault BadKey i
    else Ok (text_at key_part piece i, i + len_at key_part piece i + 1)

-- a tag's value, which isn't empty
unfoldable pub tag_value_at : List ℕ → ℕ → Result (List ℕ × ℕ) LineFault
tag_value_at piece i = filled_at tag_value_part BadValue piece i

-- a key, and a value behind its equals sign
abbrev pub keyed_at : {V : Type 0} → (List ℕ → ℕ → Result (V × ℕ) LineFault) → List ℕ → ℕ
    → Result ((List ℕ × V) × ℕ) LineFault
keyed_at value_at piece i = do
  key ← key_at piece i
  value ← value_at piece key.1
  Ok ((key.0, value.0), value.1)

-- a tag
unfoldable pub tag_at : List ℕ → ℕ → Result (Tag × ℕ) LineFault
tag_at piece i = keyed_at tag_value_at piece i

-- at a comma, at a space or at the end
abbrev pub is_value_end : List ℕ → ℕ → Bool
is_value_end piece i = i == length piece || slice_index piece i == comma || slice_index piece i == space

-- a text between double quotes, of which the first stands at the offset
unfoldable pub text_value_at : List ℕ → ℕ → Result (Value × ℕ) LineFault
text_value_at piece i =
    let close = i + 1 + len_at text_part piece (i + 1) in
    if not (slice_index piece close == double_quote) || not (is_value_end piece (close + 1))
    then fault BadValue i
    else Ok (values.Text (text_at text_part piece (i + 1)), close + 1)

-- a value that is no text
unfoldable pub plain_value_at : List ℕ → ℕ → Result (Value × ℕ) LineFault
plain_value_at piece i = do
  value ← placed i (value_of (text_at value_part piece i))
  Ok (value, i + len_at value_part piece i)

-- a value
unfoldable pub value_at : List ℕ → ℕ → Result (Value × ℕ) LineFault
value_at piece i =
    if slice_index piece i == double_quote then text_value_at piece i else plain_value_at piece i

-- a field
unfoldable pub field_at : List ℕ → ℕ → Result (Field × ℕ) LineFault
field_at piece i = keyed_at value_at piece i

-- the tags, each behind a comma
unfoldable pub tags_at : List ℕ → ℕ → Result (List Tag × ℕ) LineFault
tags_at piece i = items_at tag_at comma piece i

-- the fields, with commas between them
unfoldable pub fields_at : List ℕ → ℕ → Result (List Field × ℕ) LineFault
fields_at piece i = some_items_at field_at comma piece i

-- the fields behind spaces; where nothing follows the spaces there are none
unfoldable pub spaced_fields_at : List ℕ → ℕ → Result (List Field × ℕ) LineFault
spaced_fields_at piece i =
    if behind_spaces piece i == length piece then fault NoFields (length piece)
    else fields_at piece (behind_spaces piece i)

-- a time, which ends before the next space; nothing but spaces follows it
abbrev pub time_len : List ℕ → ℕ → ℕ
time_len piece i = position_or_len (λ b. b == space) (drop i piece)

unfoldable pub written_time_at : List ℕ → ℕ → Result ℤ LineFault
written_time_at piece i = do
  time ← placed i (time_of (take (time_len piece i) (drop i piece)))
  (if behind_spaces piece (i + time_len piece i) == length piece then Ok time
      else fault BadTime (behind_spaces piece (i + time_len piece i)))

-- the time behind spaces; where none is written it is the given moment
unfoldable pub time_at : List ℕ → ℕ → ℤ → Result ℤ LineFault
time_at piece i moment =
    if behind_spaces piece i == length piece then Ok moment else written_time_at piece (behind_spaces piece i)

-- a line as it is written
pub record Line : Type 0 where
  pub name : List ℕ
  pub tags : List Tag
  pub fields : List Field
  pub time : ℤ

-- the line that begins at an offset
unfoldable pub line_at : List ℕ → ℕ → ℤ → Result Line LineFault
line_at piece i moment = do
  name ← name_at piece i
  tags ← tags_at piece name.1
  fields ← spaced_fields_at piece tags.1
  time ← time_at piece fields.1 moment
  Ok (record { name = name.0; tags = tags.0; fields = fields.0; time = time })

-- the metric of a line: a repeated key keeps its place and takes the last value; no tag's value is empty
abbrev pub content_of : Line → Content
content_of line = record {
  name = line.name;
  tags = with_values (in_key_order line.tags);
  fields = in_first_order line.fields;
  time = line.time;
}

-- a metric has at most 64 tags and 256 fields
abbrev pub limited : Line → Result (Option Content) LineFault
limited line = if has_too_many line.tags line.fields then fault TooMany 0 else Ok (Some (content_of line))

-- the metric of the line that begins at an offset
unfoldable pub metric_at : List ℕ → ℕ → ℤ → Result (Option Content) LineFault
metric_at piece i moment = do
  line ← line_at piece i moment
  limited line

-- nothing but spaces, or a comment: the first byte other than a space is `#`
abbrev pub is_blank_or_comment : List ℕ → Bool
is_blank_or_comment piece =
    behind_spaces piece 0 == length piece || slice_index piece (behind_spaces piece 0) == hash

-- the metric that a text is, or none where it is blank or a comment
unfoldable pub text_reading : List ℕ → ℤ → Result (Option Content) LineFault
text_reading piece moment =
    if is_blank_or_comment piece then Ok None else metric_at piece (behind_spaces piece 0) moment

-- the metric that a piece is; the piece has to be UTF-8, else the fault is at the end of its longest front
-- that is
unfoldable pub reading : List ℕ → ℤ → Result (Option Content) LineFault
reading piece moment =
    if is_utf8 piece then text_reading piece moment else fault NotUtf8 (utf8_valid_len piece)
