use Rattle.std.proofs.Common.{◌≡◌, drop}
use Rattle.agg_stats.specs.Kept.{all_changed, AreDistinct}
use Rattle.agg_stats.proofs.row.change_all.Given as goal

abbrev pub invariant-loop-field : goal.invariant-loop-field
invariant-loop-field l = record {
  distinct : AreDistinct l.sums.items;
  changed : all_changed l.sums.items (drop l.field-index l.fields) ≡ all_changed l.fn.sums.items l.fields;
}
