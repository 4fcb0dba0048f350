-- How what the code keeps of members is seen.
use Rattle.std.specs.Prelude.{vec_capacity}
use Rattle.agg_stats.specs.Kept.{Memory}
use Rattle.agg_stats.specs.declared.stats.Stats.TheInside.{Inside}

abbrev pub memory_of : Inside → Memory
memory_of s = record {
  asked = s.asked;
  kept = s.kept.entries;
  rows = s.rows.items;
  room = vec_capacity s.rows;
  ready = s.ready;
}
