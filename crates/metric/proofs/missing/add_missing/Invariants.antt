use Rattle.std.proofs.Common.{◌≡◌, drop}
use Rattle.std.specs.List.{AllByRecursion}
use Rattle.metric.specs.Metric.{IsTag}
use Rattle.metric.specs.Pairs.{with_all_missing, IsInKeyOrder}
use Rattle.metric.proofs.missing.add_missing.Given as goal

abbrev pub invariant-loop-i : goal.invariant-loop-i
invariant-loop-i l = record {
  added : with_all_missing l.tags (drop l.i l.given)
      ≡ with_all_missing l.fn.tags (drop l.from l.given);
  sorted : IsInKeyOrder l.tags;
  each : AllByRecursion IsTag l.tags;
}
