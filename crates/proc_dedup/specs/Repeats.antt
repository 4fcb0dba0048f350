-- When a metric repeats another.
use Rattle.std.specs.Prelude.{◌==◌, ◌&&◌, ◌-ℤ◌, ℕ, ℤ, Bool, true, false, not, List, int_lt, Option, Some, None}
use Rattle.std.specs.List.{list_all, list_any}
use Rattle.std.specs.Ordering.{int_eq}
use Rattle.std.specs.Str.{bytes_eq}
use Rattle.metric.specs.Series.{Series}
use Rattle.metric.specs.declared.metric.Content.{Content}
use Rattle.metric.specs.declared.value.Value.{Value}
use Rattle.metric.specs.declared.value.Value.TheVariants.{Int, Uint, Fixed, «Bool» as Truth, Text}

-- the series of a metric: its name and its tags
abbrev pub series_of : Content → Series
series_of m = (m.name, m.tags)

-- are two values the same, of the same type
abbrev pub value_eq : Value → Value → Bool
value_eq (Int a) (Int b) = int_eq a b
value_eq (Uint a) (Uint b) = a == b
value_eq (Fixed a) (Fixed b) = int_eq a b
value_eq (Truth true) (Truth b) = b
value_eq (Truth false) (Truth b) = not b
value_eq (Text a) (Text b) = bytes_eq a b
value_eq a b = false

-- is a field among others, with the same value and type
abbrev pub has_field : List (List ℕ × Value) → List ℕ × Value → Bool
has_field fields wanted = list_any (λ field. bytes_eq field.0 wanted.0 && value_eq field.1 wanted.1) fields

-- are all of them
abbrev pub has_fields : List (List ℕ × Value) → List (List ℕ × Value) → Bool
has_fields fields wanted = list_all (has_field fields) wanted

-- a metric repeats another that has all its fields, where it comes less than the interval behind it
abbrev pub repeats_one : ℤ → Content → Content → Bool
repeats_one interval last m = int_lt (m.time -ℤ last.time) interval && has_fields last.fields m.fields

-- it repeats the one that is there, if any
abbrev pub repeats : ℤ → Option Content → Content → Bool
repeats interval None m = false
repeats interval (Some last) m = repeats_one interval last m
