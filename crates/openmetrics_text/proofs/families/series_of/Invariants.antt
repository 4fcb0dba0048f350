use Rattle.std.proofs.Common.{◌≡◌, map, take}
use Rattle.openmetrics_text.specs.Groups.{by_series}
use Rattle.openmetrics_text.specs.WriteViews.{line_view, groups_view, IsIndexed}
use Rattle.openmetrics_text.proofs.families.series_of.Given as goal

abbrev pub invariant-loop-sample : goal.invariant-loop-sample
invariant-loop-sample l = record {
  indexed : IsIndexed l.groups;
  so_far : groups_view l.groups ≡ by_series (map line_view (take l.sample-index l.samples));
}
