-- What merge makes of a list of metrics.
use Rattle.std.specs.Prelude.{List, map}
use Rattle.std.specs.List.{flat_map}
use Rattle.metric.specs.Draft.{Field}
use Rattle.metric.specs.Pairs.{in_first_order}
use Rattle.metric.specs.declared.metric.Content.{Content}
use Rattle.agg_keep.specs.Keyed.{firsts, with_key}
use Rattle.agg_keep.specs.Spot.{spot_eq, spot_of}
use Rattle.agg_keep.specs.declared.spot.Spot.{Spot}

-- the series and times of the members, each where its first member stands
abbrev pub spots_in : List Content → List Spot
spots_in members = firsts spot_eq spot_of members

-- the members of a series and time, in order
abbrev pub members_at : Spot → List Content → List Content
members_at spot members = with_key spot_eq spot_of spot members

-- the fields of members, in order
abbrev pub fields_in : List Content → List Field
fields_in members = flat_map (λ m. m.fields) members

-- one metric of them: the fields in the order in which they came first, each with its last value
abbrev pub merged_at : List Content → Spot → Content
merged_at members spot = record {
  name = spot.series.0;
  tags = spot.series.1;
  fields = in_first_order (fields_in (members_at spot members));
  time = spot.time;
}

-- what is made of the members
abbrev pub merge_of : List Content → List Content
merge_of members = map (merged_at members) (spots_in members)
