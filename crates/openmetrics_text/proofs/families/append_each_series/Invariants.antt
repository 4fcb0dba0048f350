use Rattle.std.proofs.Common.{◌≡◌, ◌++◌, take}
use Rattle.std.specs.List.{flat_map}
use Rattle.openmetrics_text.specs.Groups.{series_group}
use Rattle.openmetrics_text.specs.WriteViews.{group_view}
use Rattle.openmetrics_text.proofs.families.append_each_series.Given as goal

abbrev pub invariant-loop-group : goal.invariant-loop-group
invariant-loop-group l = l.out.items ≡ l.fn.out.items ++ flat_map (λ g. series_group (group_view g))
    (take l.group-index l.groups)
