-- The text of a metric in line protocol.
use Rattle.std.specs.Prelude.{◌==◌, ◌||◌, ◌-◌, ℕ, List, [], ◌∷◌, ◌++◌, length, take, map}
use Rattle.std.specs.Prelude.{flat_map, codes, if◌then◌else◌}
use Rattle.std.specs.List.{list_any, suffix_len, join_by}
use Rattle.std.specs.Fmt.{decimal, signed_decimal}
use Rattle.text_parts.specs.Bytes.{newline, carriage_return, space, hash, backslash, underscore}
use Rattle.text_parts.specs.Escaped.{Escapes, escaped}
use Rattle.fixed_num.specs.Canonical.{canonical_text}
use Rattle.metric.specs.declared.value.Value.{Value}
use Rattle.metric.specs.declared.value.Value.TheVariants.{Int, Uint, Fixed, «Bool» as Truth, Text}
use Rattle.metric.specs.declared.metric.Content.{Content}

-- a byte; a space in place of a newline or a carriage return
abbrev pub spaced : ℕ → ℕ
spaced b = if b == newline || b == carriage_return then space else b

-- a text in one line
abbrev pub on_one_line : List ℕ → List ℕ
on_one_line text = map spaced text

-- a text without the backslashes at its end
abbrev pub trimmed : List ℕ → List ℕ
trimmed text = take (length text - suffix_len (λ b. b == backslash) text) text

-- a text; `_` in place of none
abbrev pub or_underscore : List ℕ → List ℕ
or_underscore [] = underscore ∷ []
or_underscore (b ∷ bs) = b ∷ bs

-- a text that begins no comment: `_` in place of a `#` at its front
abbrev pub without_hash : List ℕ → List ℕ
without_hash [] = []
without_hash (b ∷ bs) = (if b == hash then underscore else b) ∷ bs

-- these marks are written behind a backslash, as they are
abbrev pub as_written : List ℕ → Escapes
as_written marks = record { is_mark = λ b. list_any (λ mark. mark == b) marks; written = λ b. b }

-- what is escaped in a measurement, in keys and the values of tags, and in texts
abbrev pub name_escapes : Escapes
name_escapes = as_written (codes ", ")

abbrev pub key_escapes : Escapes
key_escapes = as_written (codes ",= ")

abbrev pub text_escapes : Escapes
text_escapes = as_written (codes "\"\\")

-- a measurement
unfoldable pub name_text : List ℕ → List ℕ
name_text name = escaped name_escapes (without_hash (or_underscore (trimmed (on_one_line name))))

-- a key or the value of a tag
unfoldable pub key_text : List ℕ → List ℕ
key_text key = escaped key_escapes (or_underscore (trimmed (on_one_line key)))

-- the value of a field
unfoldable pub value_text : Value → List ℕ
value_text (Int n) = signed_decimal n ++ codes "i"
value_text (Uint n) = decimal n ++ codes "u"
value_text (Fixed n) = canonical_text n
value_text (Truth b) = if b then codes "true" else codes "false"
value_text (Text text) = codes "\"" ++ escaped text_escapes (on_one_line text) ++ codes "\""

unfoldable pub tag_text : List ℕ × List ℕ → List ℕ
tag_text tag = codes "," ++ key_text tag.0 ++ codes "=" ++ key_text tag.1

unfoldable pub field_text : List ℕ × Value → List ℕ
field_text field = key_text field.0 ++ codes "=" ++ value_text field.1

-- a metric without its time: the measurement, the tags in the order of their keys and the fields
unfoldable pub head_text : Content → List ℕ
head_text m =
    name_text m.name ++ flat_map tag_text m.tags ++ codes " " ++ join_by field_text (codes ",") m.fields

-- a metric's line
unfoldable pub line_text : Content → List ℕ
line_text m = head_text m ++ codes " " ++ signed_decimal m.time ++ codes "\n"

-- and its line without a time
unfoldable pub untimed_text : Content → List ℕ
untimed_text m = head_text m ++ codes "\n"
