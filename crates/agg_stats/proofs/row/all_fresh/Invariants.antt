use Rattle.std.proofs.Common.{◌≡◌, ◌++◌, drop}
use Rattle.agg_stats.specs.Kept.{all_fresh}
use Rattle.agg_stats.proofs.row.all_fresh.Given as goal

abbrev pub invariant-loop-field : goal.invariant-loop-field
invariant-loop-field l =
    l.fresh.items ++ all_fresh l.sums (drop l.field-index l.fields) ≡ all_fresh l.sums l.fields
