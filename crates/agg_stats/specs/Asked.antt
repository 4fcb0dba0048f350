-- What is asked for of each field.
use Rattle.std.specs.Prelude.{ℕ, pos, Bool, true, false, List, [], ◌∷◌, ◌++◌, codes, Option, Some, None}
use Rattle.std.specs.Prelude.{if◌then◌else◌}
use Rattle.metric.specs.Draft.{Field}
use Rattle.metric.specs.declared.value.Value.{Value}
use Rattle.metric.specs.declared.value.Value.TheVariants.{Int}
use Rattle.agg_stats.specs.Summary.{value_in, Summary}
use Rattle.agg_stats.specs.declared.kind.StatsKind.{StatsKind}
use Rattle.agg_stats.specs.declared.kind.StatsKind.TheVariants.{MinMax, Basic}

-- which statistics are given
pub record Asked : Type 0 where
  pub sum : Bool
  pub count : Bool
  pub min : Bool
  pub max : Bool

abbrev pub asked_of : StatsKind → Asked
asked_of MinMax = record { sum = false; count = false; min = true; max = true }
asked_of (Basic sum count min max) = record { sum = sum; count = count; min = min; max = max }

-- a field with its statistic's name behind its key, where there is a value
unfoldable pub named : List ℕ → List ℕ → Option Value → List Field
named key name None = []
named key name (Some value) = (key ++ name, value) ∷ []

-- a value where it is asked for
abbrev pub where_asked : Bool → Option Value → Option Value
where_asked asked value = if asked then value else None

-- what is given of a field, in this order: the sum, the count, the least and the greatest
unfoldable pub given_of : Asked → List ℕ × Summary → List Field
given_of asked field =
    named field.0 (codes "_sum") (where_asked asked.sum (value_in field.1 field.1.sum))
    ++ (named field.0 (codes "_count") (where_asked asked.count (Some (Int (pos field.1.count))))
    ++ (named field.0 (codes "_min") (where_asked asked.min (value_in field.1 field.1.least))
    ++ named field.0 (codes "_max") (where_asked asked.max (value_in field.1 field.1.greatest))))
