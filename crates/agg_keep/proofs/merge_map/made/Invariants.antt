use Rattle.std.proofs.Common.{◌≡◌, ◌++◌, drop}
use Rattle.std.specs.List.{flat_map}
use Rattle.agg_keep.specs.MergeKept.{made_at}
use Rattle.agg_keep.proofs.merge_map.made.Given as goal

abbrev pub invariant-loop-spot : goal.invariant-loop-spot
invariant-loop-spot l =
    l.made.items ++ flat_map (made_at l.kept.entries) (drop l.spot-index l.order)
    ≡ flat_map (made_at l.kept.entries) l.order
