use Rattle.std.proofs.Common.{◌≡◌, ◌++◌, drop}
use Rattle.std.specs.List.{flat_map, AllByRecursion}
use Rattle.metric.specs.Metric.{IsField}
use Rattle.agg_stats.specs.Asked.{given_of}
use Rattle.agg_stats.proofs.give.fields_of.Given as goal

abbrev pub invariant-loop-pair : goal.invariant-loop-pair
invariant-loop-pair l = record {
  given : l.fields.items ++ flat_map (given_of l.asked) (drop l.pair-index l.sums)
      ≡ flat_map (given_of l.asked) l.sums;
  valid : AllByRecursion IsField l.fields.items;
}
