-- A metric's tags and fields after a change.
use Rattle.std.specs.Prelude.{◌&&◌, ℕ, Bool, not, List, filter, length, nat_lt, if◌then◌else◌}
use Rattle.std.specs.Str.{bytes_eq}
use Rattle.metric.specs.Pairs.{has_key}
use Rattle.metric.specs.declared.value.Value.{Value}

-- the pairs that have another key
abbrev pub without_key : {X : Type 0} → List (List ℕ × X) → List ℕ → List (List ℕ × X)
without_key {X} pairs key = filter (λ (pair : List ℕ × X). not (bytes_eq pair.0 key)) pairs

-- a metric keeps its only field: a field of a key goes where another one stays
abbrev pub loses_field : List (List ℕ × Value) → List ℕ → Bool
loses_field fields key = has_key fields key && nat_lt 1 (length fields)

-- the fields that are left
abbrev pub without_field : List (List ℕ × Value) → List ℕ → List (List ℕ × Value)
without_field fields key = if loses_field fields key then without_key fields key else fields
