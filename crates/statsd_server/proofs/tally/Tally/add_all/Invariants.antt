use Rattle.std.proofs.Common.{◌≡◌, ◌≤◌, ◌+◌, List, length, map, vec_capacity}
use Rattle.std.specs.List.{fold, AllByRecursion}
use Rattle.std.specs.Vec.Iter.{into_iter_items}
use Rattle.metric.specs.declared.metric.Content.{Content}
use Rattle.statsd_server.specs.Counting.{with_part}
use Rattle.statsd_server.specs.Kept.{part_of, said_by, IsPlaced, Keeps}
use Rattle.statsd_server.specs.TallyView.{memory_of}
use Rattle.statsd_server.proofs.tally.Tally.add_all.Given as goal

-- of parts that count or are left out, some are to come
abbrev pub invariant-loop-placed : goal.invariant-loop-placed
invariant-loop-placed l = record {
  keeps : (past now parts : List Content) → map said_by parts ≡ map part_of l.fn.all.items
      → Keeps past now (memory_of l.fn.self)
      → (later : List Content) × (left : List Content) × Keeps past later (memory_of l.self)
      × (map said_by left ≡ map part_of (into_iter_items l.placed-iterator))
      × (fold (with_part past) later left ≡ fold (with_part past) now parts);
  placed : AllByRecursion (IsPlaced (memory_of l.self)) (into_iter_items l.placed-iterator);
  space : length l.self.order.items + length (into_iter_items l.placed-iterator) ≤ vec_capacity l.self.order;
  all : l.self.counted + l.self.refused + length (into_iter_items l.placed-iterator)
      ≡ l.fn.self.counted + l.fn.self.refused + length l.fn.all.items;
}
