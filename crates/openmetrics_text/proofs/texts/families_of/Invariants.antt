use Rattle.std.proofs.Common.{◌≡◌, map, take}
use Rattle.openmetrics_text.specs.Groups.{by_family}
use Rattle.openmetrics_text.specs.Texts.{written_in}
use Rattle.openmetrics_text.specs.WriteViews.{groups_view, IsIndexed}
use Rattle.openmetrics_text.proofs.texts.families_of.Given as goal

abbrev pub invariant-loop-row : goal.invariant-loop-row
invariant-loop-row l = record {
  indexed : IsIndexed l.groups;
  so_far : groups_view l.groups ≡ by_family (map (written_in l.bytes) (take l.row-index l.rows));
}
