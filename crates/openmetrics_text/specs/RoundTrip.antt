-- Expositions that are read back.
use Rattle.std.specs.Prelude.{◌≡◌, ◌≤◌, ℤ, false, List, [], ◌∷◌, codes, length}
use Rattle.std.specs.Prelude.{map, flat_map, Ok}
use Rattle.std.specs.List.{AllByRecursion}
use Rattle.metric.specs.declared.value.Value.TheVariants.{Fixed}
use Rattle.metric.specs.declared.metric.Content.{Content}
use Rattle.metric.specs.Metric.{IsMetric}
use Rattle.metric.specs.Numbers.{billionths_of}
use Rattle.metric.specs.Pairs.{in_key_order}
use Rattle.openmetrics_text.specs.Reading.{reading}
use Rattle.openmetrics_text.specs.Writing.{Point, points_of, families_of, in_family, series_of, batch_text}

-- the samples as they are written: family by family, series by series, by time
abbrev pub in_written_order : List Point → List Point
in_written_order points = flat_map (λ family. series_of (in_family family points)) (families_of points)

-- what a sample is read as: its family with its labels as tags, its number and its time
abbrev pub content_behind : Point → Content
content_behind point = record {
  name = point.family;
  tags = in_key_order point.labels;
  fields = (codes "value", Fixed (billionths_of point.value)) ∷ [];
  time = point.time;
}

abbrev pub HasFewTags : Content → Type 0
HasFewTags m = length m.tags ≤ 64

-- the exposition of a batch is read back as its samples, and none is passed over
abbrev pub WrittenIsReadBack : Type 0
WrittenIsReadBack = (batch : List Content) (moment : ℤ)
    → AllByRecursion IsMetric batch → AllByRecursion HasFewTags batch
    → reading (batch_text batch) moment false false ≡ Ok (record {
      metrics = map content_behind (in_written_order (points_of batch));
      passed = 0;
      out_of_range = 0;
    })
