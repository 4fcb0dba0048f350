use Rattle.std.proofs.Common.{◌≡◌, drop}
use Rattle.metric.specs.Series.{Series}
use Rattle.agg_keep.specs.FinalKept.{held, left_held}
use Rattle.agg_keep.proofs.final_map.drop_given.Given as goal

abbrev pub invariant-loop-series : goal.invariant-loop-series
invariant-loop-series l = (q : Series)
    → left_held l.timeout l.closing (drop l.series-index l.order) q (held l.kept.entries q)
    ≡ left_held l.timeout l.closing l.order q (held l.fn.kept.entries q)
