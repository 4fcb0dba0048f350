-- What is served of a group of packets.
use Rattle.std.specs.Prelude.{ℕ, ℤ, ◌++◌, pos, List, [], ◌∷◌, length, map, codes}
use Rattle.metric.specs.Draft.{Field}
use Rattle.metric.specs.Series.{series_eq, Series}
use Rattle.metric.specs.declared.metric.Content.{Content}
use Rattle.metric.specs.declared.value.Value.TheVariants.{Uint, Fixed}
use Rattle.agg_keep.specs.Keyed.{firsts}
use Rattle.agg_keep.specs.Spot.{series_of}
use Rattle.statsd_server.specs.declared.kind.Kind.{Kind}
use Rattle.statsd_server.specs.declared.kind.Kind.TheVariants.{Counter, Gauge, Timing, Set}
use Rattle.statsd_server.specs.Packets.{parts_in, Packet}
use Rattle.statsd_server.specs.Parts.{changes_of, kind_of, level_of, summary_of}
use Rattle.statsd_server.specs.declared.summary.Summary.{Summary}
use Rattle.statsd_server.specs.Counting.{counted, counted_in, refused_in}

-- the series of parts, in the order of their first parts
abbrev pub series_in : List Content → List Series
series_in parts = firsts series_eq series_of parts

-- the fields of a series of a type, by what is counted of its group, and the level of a gauge
abbrev pub fields_of : Kind → Summary → ℤ → List Field
fields_of Counter s level = (codes "value", Fixed s.sum) ∷ []
fields_of Gauge s level = (codes "value", Fixed level) ∷ []
fields_of Timing s level =
    (codes "count", Uint s.count) ∷ (codes "lower", Fixed s.least) ∷ (codes "upper", Fixed s.greatest)
    ∷ (codes "sum", Fixed s.sum) ∷ []
fields_of Set s level = (codes "count", Uint s.distinct) ∷ []

-- the metric of a series
unfoldable pub metric_with : Series → Summary → ℤ → Content
metric_with series s level = record {
  name = series.0;
  tags = series.1;
  fields = fields_of (kind_of series.1) s level;
  time = pos 0;
}

-- the metric of a series, by the parts that count: those of earlier groups, and those of its own
abbrev pub metric_of : List Content → List Content → Series → Content
metric_of past now series =
    metric_with series (summary_of (changes_of series now)) (level_of (changes_of series (past ++ now)))

-- the metric of the server itself
unfoldable pub own_metric : ℕ → ℕ → Content
own_metric packets refused = record {
  name = codes "statsd";
  tags = [];
  fields = (codes "packets", Uint packets) ∷ (codes "refused", Uint refused) ∷ [];
  time = pos 0;
}

-- the metrics of the series of parts that count
abbrev pub metrics_of : List Content → List Content → List Content
metrics_of past now = map (metric_of past now) (series_in now)

-- what is served of a group, behind the parts that count of earlier ones
abbrev pub served_behind : List Content → List Packet → List Content
served_behind past group =
    own_metric (length group) (refused_in past group) ∷ metrics_of past (counted past (parts_in group))

-- what is served of a group behind earlier groups
abbrev pub served : List (List Packet) → List Packet → List Content
served earlier group = served_behind (counted_in earlier) group
