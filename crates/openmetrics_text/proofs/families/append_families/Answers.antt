use Rattle.std.proofs.Common.{◌++◌, List, ℕ, ap, sym, ◌∙◌}
use Rattle.std.proofs.lemmas.List.Folds.{flat_map-map}
use Rattle.text_parts.proofs.Adding.{fails, extends_after}
use Rattle.openmetrics_text.specs.Groups.{family_group}
use Rattle.openmetrics_text.specs.WriteViews.{group_view}
use Rattle.openmetrics_text.proofs.Sweeping.{swept_all}
use Rattle.openmetrics_text.proofs.families.append_families.Goals as goal

pub returns-in_err-append_family : goal.returns-in_err-append_family
returns-in_err-append_family c = fails _ _ _ _ c.from_residual.ensures.0
    (extends_after c.args.out.now.items c.loop-group.out.items c.append_family.new.out.items _ c.loop-group.invariant
    c.in_err-append_family.ensures)

pub returns : goal.returns
returns c =
    swept_all (λ g. family_group (group_view g)) c.args.groups.now c.args.out.now.items c.loop-group.out.items
    c.loop-group.group-index c.loop-group-test.false c.loop-group.invariant
    ∙ ap (λ (text : List ℕ). c.args.out.now.items ++ text) (sym
    (flat_map-map family_group group_view c.args.groups.now))
