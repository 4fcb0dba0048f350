use Rattle.std.proofs.Common.{◌++◌, List, ℕ, ap, sym, ◌∙◌}
use Rattle.std.proofs.lemmas.List.Folds.{flat_map-map}
use Rattle.openmetrics_text.specs.Groups.{series_group}
use Rattle.openmetrics_text.specs.WriteViews.{group_view}
use Rattle.openmetrics_text.proofs.Sweeping.{swept_all}
use Rattle.openmetrics_text.proofs.families.append_each_series.Goals as goal

pub returns : goal.returns
returns c =
    swept_all (λ g. series_group (group_view g)) c.args.groups.now c.args.out.now.items c.loop-group.out.items
    c.loop-group.group-index c.loop-group-test.false c.loop-group.invariant
    ∙ ap (λ (text : List ℕ). c.args.out.now.items ++ text) (sym
    (flat_map-map series_group group_view c.args.groups.now))
