-- What the parts of lines say of their series.
use Rattle.std.specs.Prelude.{ℕ, ℤ, ◌+ℤ◌, pos, List, [], ◌∷◌, length, map, Option, Some, None}
use Rattle.std.specs.Prelude.{codes, if◌then◌else◌}
use Rattle.std.specs.List.{fold, flat_map}
use Rattle.std.specs.Str.{bytes_eq}
use Rattle.metric.specs.Draft.{Field, Tag}
use Rattle.metric.specs.Pairs.{value_at}
use Rattle.metric.specs.Series.{series_eq, Series}
use Rattle.metric.specs.declared.metric.Content.{Content}
use Rattle.metric.specs.declared.value.Value.{Value}
use Rattle.metric.specs.declared.value.Value.TheVariants as values
use Rattle.agg_keep.specs.Keyed.{firsts, with_key}
use Rattle.agg_keep.specs.Spot.{series_of}
use Rattle.agg_stats.specs.Summary.{greatest_of, least_of, sum_of}
use Rattle.statsd_text.specs.Said.{field_name}
use Rattle.statsd_text.specs.declared.said.MetricType.{MetricType}
use Rattle.statsd_text.specs.declared.said.MetricType.TheVariants as types
use Rattle.statsd_text.specs.declared.said.Said.{Said}
use Rattle.statsd_server.specs.declared.kind.Kind.{Kind}
use Rattle.statsd_server.specs.declared.kind.Kind.TheVariants.{Counter, Gauge, Timing, Set}
use Rattle.statsd_server.specs.declared.change.Change.{Change}
use Rattle.statsd_server.specs.declared.summary.Summary.{Summary}
use Rattle.statsd_server.specs.declared.change.Change.TheVariants.{Adds, Sets, Moves, Took, Names}

-- ---- types

-- the type that a name says
abbrev pub kind_named : List ℕ → Kind
kind_named name =
    if bytes_eq name (codes "counter") then Counter
    else if bytes_eq name (codes "gauge") then Gauge
    else if bytes_eq name (codes "timing") then Timing
    else Set

abbrev pub kind_said : Option (List ℕ) → Kind
kind_said None = Set
kind_said (Some name) = kind_named name

-- the type of a series, as its tag says
unfoldable pub kind_of : List Tag → Kind
kind_of tags = kind_said (value_at tags (codes "metric_type"))

-- ---- changes

-- the number of a value, and its text; what is no number counts as 0, and what is no text as the empty one
abbrev pub number_of : Value → ℤ
number_of (values.Fixed n) = n
number_of value = pos 0

abbrev pub text_of : Value → List ℕ
text_of (values.Text text) = text
text_of value = []

-- a gauge is set, but for `delta`, which is added
abbrev pub gauge_change : List ℕ → ℤ → Change
gauge_change key n = if bytes_eq key (codes "delta") then Moves n else Sets n

-- what a field says of a series of a type
abbrev pub field_change : Kind → Field → Change
field_change Counter field = Adds (number_of field.1)
field_change Gauge field = gauge_change field.0 (number_of field.1)
field_change Timing field = Took (number_of field.1)
field_change Set field = Names (text_of field.1)

-- the type of a series that a line names, and what a part of the line says of it
abbrev pub kind_said_by : MetricType → Kind
kind_said_by types.Counter = Counter
kind_said_by types.Gauge = Gauge
kind_said_by types.Timing = Timing
kind_said_by types.Set = Set

abbrev pub said_change : Said → Change
said_change said = field_change (kind_said_by said.metric_type) (field_name said.field, said.value)

-- what the first field says
abbrev pub fields_change : Kind → List Field → Change
fields_change kind [] = Names []
fields_change kind (field ∷ fields) = field_change kind field

-- what a part says of its series
unfoldable pub change_of : Content → Change
change_of part = fields_change (kind_of part.tags) part.fields

-- ---- what one of them adds

-- what it adds to the sum of its series
abbrev pub amount_of : Change → ℤ
amount_of (Adds n) = n
amount_of (Took n) = n
amount_of change = pos 0

-- the members that it names
abbrev pub members_of : Change → List (List ℕ)
members_of (Names member) = member ∷ []
members_of change = []

-- the level of a gauge behind it
abbrev pub level_with : ℤ → Change → ℤ
level_with level (Sets n) = n
level_with level (Moves n) = level +ℤ n
level_with level change = level

-- ---- what a list of them makes

-- the parts of a series
abbrev pub parts_of : Series → List Content → List Content
parts_of series parts = with_key series_eq series_of series parts

abbrev pub changes_of : Series → List Content → List Change
changes_of series parts = map change_of (parts_of series parts)

-- the level behind changes, from 0
abbrev pub level_of : List Change → ℤ
level_of changes = fold level_with (pos 0) changes

-- the members that changes name, and the distinct ones, each where it stands first
abbrev pub members_in : List Change → List (List ℕ)
members_in changes = flat_map members_of changes

abbrev pub distinct_of : List Change → List (List ℕ)
distinct_of changes = firsts bytes_eq (λ (member : List ℕ). member) (members_in changes)

-- what is counted of changes: how many there are, how many distinct members they name, and the sum, the least and the
-- greatest of their amounts
abbrev pub summary_of : List Change → Summary
summary_of changes = record {
  count = length changes;
  distinct = length (distinct_of changes);
  sum = sum_of (map amount_of changes);
  least = least_of (map amount_of changes);
  greatest = greatest_of (map amount_of changes);
}
