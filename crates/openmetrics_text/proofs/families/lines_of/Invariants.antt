use Rattle.std.proofs.Common.{◌≡◌, [], map, take}
use Rattle.openmetrics_text.specs.Groups.{by_time_on}
use Rattle.openmetrics_text.specs.WriteViews.{line_view, lines_view}
use Rattle.openmetrics_text.proofs.families.lines_of.Given as goal

abbrev pub invariant-loop-sample : goal.invariant-loop-sample
invariant-loop-sample l = lines_view l.lines ≡ by_time_on [] (map line_view (take l.sample-index l.samples))
