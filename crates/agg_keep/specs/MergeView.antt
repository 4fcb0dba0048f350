-- How what merge keeps is seen.
use Rattle.std.specs.Prelude.{vec_capacity}
use Rattle.agg_keep.specs.MergeKept.{MergeMemory}
use Rattle.agg_keep.specs.declared.merge.Merge.TheInside.{Inside}

abbrev pub merge_memory : Inside → MergeMemory
merge_memory m = record {
  kept = m.kept.entries;
  order = m.order.items;
  room = vec_capacity m.order;
  ready = m.ready;
}
