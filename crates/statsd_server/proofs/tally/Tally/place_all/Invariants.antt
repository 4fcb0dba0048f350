use Rattle.std.proofs.Common.{◌≡◌, ◌≤◌, ◌+◌, ◌++◌, length, map, vec_capacity}
use Rattle.std.specs.List.{AllByRecursion}
use Rattle.std.specs.Vec.Iter.{into_iter_items}
use Rattle.statsd_server.specs.Kept.{part_of, HasStayed, IsPlaced}
use Rattle.statsd_server.specs.TallyView.{memory_of}
use Rattle.statsd_server.proofs.tally.Tally.place_all.Given as goal

abbrev pub invariant-loop-part : goal.invariant-loop-part
invariant-loop-part l = record {
  stays : HasStayed (memory_of l.fn.self) (memory_of l.self);
  parts : map part_of l.all.items ++ into_iter_items l.part-iterator ≡ l.fn.parts.items;
  placed : AllByRecursion (IsPlaced (memory_of l.self)) l.all.items;
  space : length l.self.order.items + length l.fn.parts.items ≤ vec_capacity l.self.order;
}
