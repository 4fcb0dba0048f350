use Rattle.std.proofs.Common.{◌≡◌, ◌++◌, drop}
use Rattle.metric_filter.specs.Filter.{kept}
use Rattle.metric_filter.proofs.left.kept_pairs.Given as goal

abbrev pub invariant-loop-pair : goal.invariant-loop-pair
invariant-loop-pair g l =
    l.left.items ++ kept l.include l.exclude (drop l.pair-index l.pairs) ≡ kept l.include l.exclude l.pairs
