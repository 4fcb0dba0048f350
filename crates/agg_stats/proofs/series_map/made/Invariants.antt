use Rattle.std.proofs.Common.{◌≡◌, ◌++◌, drop}
use Rattle.std.specs.List.{flat_map}
use Rattle.agg_stats.specs.Kept.{made_at}
use Rattle.agg_stats.proofs.series_map.made.Given as goal

abbrev pub invariant-loop-row : goal.invariant-loop-row
invariant-loop-row l =
    l.made.items ++ flat_map (made_at l.asked l.time) (drop l.row-index l.rows)
    ≡ flat_map (made_at l.asked l.time) l.rows
