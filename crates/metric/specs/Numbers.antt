-- What a value is as a number.
use Rattle.std.specs.Prelude.{ℕ, ℤ, pos, Bool, true, false, List, [], codes, if◌then◌else◌}
use Rattle.std.specs.Fmt.{decimal, signed_decimal}
use Rattle.fixed_num.specs.Canonical.{canonical_text}
use Rattle.fixed_num.specs.Scaled.{scaled}
use Rattle.metric.specs.declared.value.Value.{Value}
use Rattle.metric.specs.declared.value.Value.TheVariants.{Int, Uint, Fixed, «Bool» as Truth, Text}

-- a text is no number
abbrev pub is_text : Value → Bool
is_text (Int n) = false
is_text (Uint n) = false
is_text (Fixed n) = false
is_text (Truth b) = false
is_text (Text text) = true

-- how a number is written; a truth value is 1 or 0
unfoldable pub number_text : Value → List ℕ
number_text (Int n) = signed_decimal n
number_text (Uint n) = decimal n
number_text (Fixed n) = canonical_text n
number_text (Truth b) = if b then codes "1" else codes "0"
number_text (Text text) = []

-- the billionths of a number; a truth value is 1 or 0
abbrev pub billionths_of : Value → ℤ
billionths_of (Int n) = scaled n
billionths_of (Uint n) = scaled (pos n)
billionths_of (Fixed n) = n
billionths_of (Truth b) = scaled (pos (if b then 1 else 0))
billionths_of (Text text) = pos 0
