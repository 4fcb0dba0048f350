use Rattle.std.proofs.Common.{◌≡◌, ◌++◌, take}
use Rattle.std.specs.List.{flat_map}
use Rattle.openmetrics_text.specs.Groups.{family_group}
use Rattle.openmetrics_text.specs.WriteViews.{group_view}
use Rattle.openmetrics_text.proofs.families.append_families.Given as goal

abbrev pub invariant-loop-group : goal.invariant-loop-group
invariant-loop-group l = l.out.items ≡ l.fn.out.items ++ flat_map (λ g. family_group (group_view g))
    (take l.group-index l.groups)
