-- The bytes of a text, however it is kept.
use Rattle.std.specs.Prelude.{◌≡◌, ℕ, List, true}
use Rattle.std.specs.List.{list_all}
use Rattle.std.specs.Arc.{arc_value}
use Rattle.std.specs.String.{string_bytes}
use Rattle.metric.specs.Plain.{is_plain}
use Rattle.metric.specs.declared.text.Kept.{Kept}
use Rattle.metric.specs.declared.text.Kept.TheVariants.{PlainShort, Short, Long}

-- a short text stands in place, and a long one in a string that its copies share
abbrev pub kept_bytes : Kept → List ℕ
kept_bytes (PlainShort text) = text
kept_bytes (Short text) = text
kept_bytes (Long long) = string_bytes (arc_value long).text

-- what is kept as plain has plain bytes alone
abbrev pub IsKept : Kept → Type 0
IsKept (PlainShort text) = list_all is_plain text ≡ true
IsKept (Short text) = Unit {0}
IsKept (Long long) = (arc_value long).plain ≡ true → list_all is_plain (string_bytes (arc_value long).text) ≡ true
