-- What final makes of a list of metrics at a closing, and what is left of it.
use Rattle.std.specs.Prelude.{◌+ℤ◌, ◌||◌, ◌++◌, ℤ, Bool, false, not, int_le, codes, List, [], ◌∷◌, map, filter, reverse}
use Rattle.std.specs.Prelude.{slice_get, Option, Some, None, if◌then◌else◌}
use Rattle.std.specs.List.{flat_map}
use Rattle.metric.specs.Draft.{Field}
use Rattle.metric.specs.Series.{series_eq, Series}
use Rattle.metric.specs.declared.metric.Content.{Content}
use Rattle.agg_keep.specs.Keyed.{firsts, with_key}
use Rattle.agg_keep.specs.Spot.{series_of}
use Rattle.agg_keep.specs.declared.closing.Closing.{Closing}

-- the series of the members, each where its first member stands
abbrev pub series_in : List Content → List Series
series_in members = firsts series_eq series_of members

-- the members of a series, in order
abbrev pub members_of : Series → List Content → List Content
members_of series members = with_key series_eq series_of series members

-- the last of a list
abbrev pub last_of : List Content → Option Content
last_of members = slice_get (reverse members) 0

-- whether a series is given whose last member this is: its time and the timeout are over, or all series are given
abbrev pub is_due : ℤ → Closing → Content → Bool
is_due timeout closing m = closing.all || int_le (m.time +ℤ timeout) closing.moment

-- `_final` behind a key
abbrev pub final_field : Field → Field
final_field field = (field.0 ++ codes "_final", field.1)

abbrev pub final_metric : Content → Content
final_metric m = record m { fields = map final_field m.fields }

-- whether what is held of a series is given
abbrev pub gives : ℤ → Closing → Option Content → Bool
gives timeout closing None = false
gives timeout closing (Some m) = is_due timeout closing m

-- what is given of it
unfoldable pub given : ℤ → Closing → Option Content → List Content
given timeout closing None = []
given timeout closing (Some m) = if is_due timeout closing m then final_metric m ∷ [] else []

-- what is made of the members
abbrev pub finals_of : ℤ → Closing → List Content → List Content
finals_of timeout closing members =
    flat_map (λ series. given timeout closing (last_of (members_of series members))) (series_in members)

-- whether a series is given
abbrev pub is_given : ℤ → Closing → List Content → Series → Bool
is_given timeout closing members series = gives timeout closing (last_of (members_of series members))

-- the members that are left: those of the series that aren't given
abbrev pub left_of : ℤ → Closing → List Content → List Content
left_of timeout closing members = filter (λ m. not (is_given timeout closing members (series_of m))) members
