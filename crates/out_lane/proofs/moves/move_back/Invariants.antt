use Rattle.std.proofs.Common.{◌≡◌, ◌++◌, vec_len, vec_capacity}
use Rattle.out_lane.proofs.moves.move_back.Given as goal

abbrev pub invariant-loop-flight : goal.invariant-loop-flight
invariant-loop-flight g l = record {
  all : l.flight.items ++ l.queue.items ≡ l.fn.flight.items ++ l.fn.queue.items;
  most : l.queue.capacity ≡ l.fn.queue.capacity;
  room : vec_capacity l.flight ≡ vec_capacity l.fn.flight;
}

abbrev pub decreases-loop-flight : goal.decreases-loop-flight
decreases-loop-flight g l = vec_len l.flight
