-- Values by their keys, each key at a place of its own.
use Rattle.std.specs.Prelude.{◌≡◌, ◌<◌, ℕ, true, List, length, Option, Some, option_and_then, slice_get}
use Rattle.std.specs.Map.{lookup}
use Rattle.std.specs.Ordering.{is_eq}
use Rattle.std.specs.declared.cmp.Ordering.{Ordering}

pub record Table (K V : Type 0) : Type 0 where
  -- where the value of each key stands
  pub places : List (K × ℕ)
  -- the values; a key may have a place and no value yet
  pub values : List (Option V)

-- the place of a key
abbrev pub place_by : {K V : Type 0} → (K → K → Ordering) → Table K V → K → Option ℕ
place_by cmp table k = lookup (λ other. is_eq (cmp k other)) table.places

-- the value at a place
abbrev pub value_at : {V : Type 0} → List (Option V) → ℕ → Option V
value_at values at = option_and_then (λ value. value) (slice_get values at)

-- the value of a key
abbrev pub held_by : {K V : Type 0} → (K → K → Ordering) → Table K V → K → Option V
held_by cmp table k = option_and_then (value_at table.values) (place_by cmp table k)

-- each place is that of one key, and there is a value or room for one
pub record IsTable {K V : Type 0} (cmp : K → K → Ordering) (table : Table K V) : Type 0 where
  pub within : (k : K) (at : ℕ) → place_by cmp table k ≡ Some at → at < length table.values
  pub apart : (a b : K) (at : ℕ) → place_by cmp table a ≡ Some at → place_by cmp table b ≡ Some at
      → is_eq (cmp a b) ≡ true
