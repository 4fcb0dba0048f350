-- The text of a metric in a journal.
use Rattle.std.specs.Prelude.{ℕ, ◌+◌, ◌/◌, ◌%◌, nat_lt, List, [], ◌∷◌, ◌++◌}
use Rattle.std.specs.Prelude.{codes, decimal, if◌then◌else◌}
use Rattle.std.specs.Fmt.{signed_decimal}
use Rattle.std.specs.List.{flat_map}
use Rattle.fixed_num.specs.Canonical.{canonical_text}
use Rattle.metric.specs.Plain.{is_plain}
use Rattle.metric.specs.declared.value.Value.{Value}
use Rattle.metric.specs.declared.value.Value.TheVariants as value
use Rattle.metric.specs.declared.metric.Content.{Content}

-- an upper-case hexadecimal digit
unfoldable pub hex_digit : ℕ → ℕ
hex_digit n = if nat_lt n 10 then 48 + n else 55 + n

-- a byte: itself where it is plain, else `%` and its two hexadecimal digits
unfoldable pub byte_text : ℕ → List ℕ
byte_text b = if is_plain b then b ∷ [] else 37 ∷ hex_digit (b / 16) ∷ hex_digit (b % 16) ∷ []

-- a name, a key or a text: that of each of its bytes
unfoldable pub escaped : List ℕ → List ℕ
escaped bytes = flat_map byte_text bytes

-- a value: a letter that tells its type, and what it is
unfoldable pub value_text : Value → List ℕ
value_text (value.Int n) = codes "i" ++ signed_decimal n
value_text (value.Uint n) = codes "u" ++ decimal n
value_text (value.Fixed z) = codes "f" ++ canonical_text z
value_text (value.Bool b) = if b then codes "bt" else codes "bf"
value_text (value.Text text) = codes "s" ++ escaped text

-- a tag, behind a semicolon
unfoldable pub tag_text : List ℕ × List ℕ → List ℕ
tag_text tag = codes ";" ++ escaped tag.0 ++ codes "=" ++ escaped tag.1

-- a field
unfoldable pub field_text : List ℕ × Value → List ℕ
field_text field = escaped field.0 ++ codes "=" ++ value_text field.1

-- fields with semicolons between them
unfoldable pub fields_text : List (List ℕ × Value) → List ℕ
fields_text [] = []
fields_text (field ∷ fields) =
    field_text field ++ flat_map (λ (other : List ℕ × Value). codes ";" ++ field_text other) fields

-- a metric: its name with its tags, its fields and its time
unfoldable pub metric_text : Content → List ℕ
metric_text m =
    escaped m.name ++ flat_map tag_text m.tags
    ++ codes "|" ++ fields_text m.fields
    ++ (codes "|" ++ signed_decimal m.time)
