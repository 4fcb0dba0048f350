-- How what final keeps is seen.
use Rattle.std.specs.Prelude.{vec_capacity}
use Rattle.agg_keep.specs.FinalKept.{FinalMemory}
use Rattle.agg_keep.specs.declared.finals.Final.TheInside.{Inside}

abbrev pub final_memory : Inside → FinalMemory
final_memory f = record {
  timeout = f.timeout;
  kept = f.kept.entries;
  order = f.order.items;
  room = vec_capacity f.order;
  ready = f.ready;
}
