use Rattle.std.proofs.Common.{◌≡◌, ◌++◌, drop}
use Rattle.std.specs.List.{flat_map}
use Rattle.agg_keep.specs.FinalKept.{given_at}
use Rattle.agg_keep.proofs.final_map.made.Given as goal

abbrev pub invariant-loop-series : goal.invariant-loop-series
invariant-loop-series l =
    l.made.items ++ flat_map (given_at l.timeout l.closing l.kept.entries) (drop l.series-index l.order)
    ≡ flat_map (given_at l.timeout l.closing l.kept.entries) l.order
