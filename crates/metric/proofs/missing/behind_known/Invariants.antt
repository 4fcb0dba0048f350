use Rattle.std.proofs.Common.{◌≡◌, ◌≤◌, ◌-◌, drop, length}
use Rattle.metric.specs.Pairs.{with_all_missing}
use Rattle.metric.proofs.missing.behind_known.Given as goal

abbrev pub invariant-loop-at : goal.invariant-loop-at
invariant-loop-at l = record {
  within : l.at ≤ length l.given;
  same : with_all_missing l.tags (drop l.at l.given) ≡ with_all_missing l.tags l.given;
}

abbrev pub decreases-loop-at : goal.decreases-loop-at
decreases-loop-at l = length l.given - l.at
