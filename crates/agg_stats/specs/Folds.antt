-- What minmax and basicstats make of a list of metrics.
use Rattle.std.specs.Prelude.{ℕ, ℤ, not, List, [], ◌∷◌, map, filter, Option, Some, None}
use Rattle.std.specs.List.{flat_map}
use Rattle.std.specs.Map.{keys_of}
use Rattle.std.specs.Option.{option_to_list}
use Rattle.std.specs.Str.{bytes_eq}
use Rattle.metric.specs.Draft.{Field}
use Rattle.metric.specs.Pairs.{first_of_each}
use Rattle.metric.specs.Series.{series_eq, Series}
use Rattle.metric.specs.declared.metric.Content.{Content}
use Rattle.metric.specs.declared.value.Value.{Value}
use Rattle.agg_stats.specs.Asked.{asked_of, given_of, Asked}
use Rattle.agg_stats.specs.Summary.{is_number, summary_of, Summary}
use Rattle.agg_stats.specs.declared.kind.StatsKind.{StatsKind}

-- the series of a metric: its name and its tags
abbrev pub series_of : Content → Series
series_of m = (m.name, m.tags)

-- the series of the members, each where its first member stands
unfoldable pub series_in : List Content → List Series
series_in [] = []
series_in (m ∷ ms) = series_of m ∷ filter (λ other. not (series_eq (series_of m) other)) (series_in ms)

-- the members of a series, in order
abbrev pub members_of : Series → List Content → List Content
members_of series members = filter (λ m. series_eq series (series_of m)) members

-- the fields of members that are numbers, in order
abbrev pub numbers_in : List Content → List Field
numbers_in members = flat_map (λ m. filter (λ field. is_number field.1) m.fields) members

-- the values of a key
abbrev pub values_of : List ℕ → List Field → List Value
values_of key fields = map (λ field. field.1) (filter (λ field. bytes_eq key field.0) fields)

-- the summary of each key's numbers, the keys in the order of their first numbers
abbrev pub summed : List Field → List (List ℕ × Summary)
summed numbers = map (λ key. (key, summary_of (values_of key numbers))) (first_of_each (keys_of numbers))

-- a metric of a series at a time, where there is a field
unfoldable pub metric_at : ℤ → Series → List Field → Option Content
metric_at time series [] = None
metric_at time series (field ∷ fields) =
    Some (record { name = series.0; tags = series.1; fields = field ∷ fields; time = time })

-- what is made of a series
abbrev pub made_of : Asked → ℤ → Series × List (List ℕ × Summary) → Option Content
made_of asked time row = metric_at time row.0 (flat_map (given_of asked) row.1)

-- what is made of the members: for each series one metric, with what is given of each of its fields
abbrev pub stats_of : StatsKind → ℤ → List Content → List Content
stats_of kind time members =
    flat_map (λ series. option_to_list
    (made_of (asked_of kind) time (series, summed (numbers_in (members_of series members)))))
    (series_in members)
