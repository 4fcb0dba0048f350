-- The lines of a metric.
use Rattle.std.specs.Prelude.{◌==◌, ◌||◌, ℕ, ℤ, pos, Bool, not, List, [], ◌∷◌, ◌++◌, map, filter}
use Rattle.std.specs.Prelude.{flat_map, codes}
use Rattle.std.specs.Prelude.{if◌then◌else◌}
use Rattle.std.specs.Char.{is_ascii_alphanumeric}
use Rattle.std.specs.Fmt.{signed_decimal}
use Rattle.std.specs.Int.{int_div_euclid}
use Rattle.std.specs.List.{join_with_byte}
use Rattle.std.specs.Str.{bytes_eq}
use Rattle.text_parts.specs.Bytes.{underscore}
use Rattle.metric.specs.declared.metric.Content.{Content}
use Rattle.metric.specs.Draft.{Tag, Field}
use Rattle.metric.specs.Numbers.{is_text, number_text}
use Rattle.format_words.specs.Bytes.{dot}
use Rattle.graphite_text.specs.Bytes.{minus}

-- ---- the path

-- a letter, a digit, `_` or `-`
abbrev pub is_kept : ℕ → Bool
is_kept b = is_ascii_alphanumeric b || b == underscore || b == minus

-- a byte as it stands in the value of a tag; in a name and in a key a dot stays too
unfoldable pub value_byte : ℕ → ℕ
value_byte b = if is_kept b then b else underscore

unfoldable pub name_byte : ℕ → ℕ
name_byte b = if is_kept b || b == dot then b else underscore

abbrev pub value_part : List ℕ → List ℕ
value_part value = map value_byte value

abbrev pub name_part : List ℕ → List ℕ
name_part name = map name_byte name

abbrev pub is_host : Tag → Bool
is_host tag = bytes_eq tag.0 (codes "host")

abbrev pub is_no_host : Tag → Bool
is_no_host tag = not (is_host tag)

-- the values of the tags that pass a test, in the order of their keys
abbrev pub values_of : (Tag → Bool) → List Tag → List (List ℕ)
values_of passes tags = map (λ (tag : Tag). value_part tag.1) (filter passes tags)

-- a key is no part of the path where it is `value`
abbrev pub key_parts : List ℕ → List (List ℕ)
key_parts key = if bytes_eq key (codes "value") then [] else name_part key ∷ []

-- the value of the tag `host`, where there is one, those of the other tags, the measurement, the field's key
abbrev pub path_parts : Content → List ℕ → List (List ℕ)
path_parts m key =
    values_of is_host m.tags ++ (values_of is_no_host m.tags ++ (name_part m.name ∷ key_parts key))

unfoldable pub path_text : Content → List ℕ → List ℕ
path_text m key = join_with_byte dot (path_parts m key)

-- ---- the lines

-- the seconds of nanoseconds, rounded down
abbrev pub seconds_of : ℤ → ℤ
seconds_of time = int_div_euclid time (pos 1000000000)

-- a line without its newline
unfoldable pub line_text : Content → Field → List ℕ
line_text m field =
    path_text m field.0 ++ codes " " ++ number_text field.1 ++ codes " " ++ signed_decimal (seconds_of m.time)

-- the line of a field; a text has none
abbrev pub field_text : Content → Field → List ℕ
field_text m field = if is_text field.1 then [] else line_text m field ++ codes "\n"

-- the lines of a metric, one for each field that is no text, in order
unfoldable pub metric_text : Content → List ℕ
metric_text m = flat_map (field_text m) m.fields
