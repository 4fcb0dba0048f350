use Rattle.std.proofs.Common.{◌≡◌, ◌-◌, ◌≤◌, ◌++◌, vec_len, vec_capacity}
use Rattle.out_lane.proofs.moves.move_oldest.Given as goal

abbrev pub invariant-loop-queue : goal.invariant-loop-queue
invariant-loop-queue g l = record {
  all : l.flight.items ++ l.queue.items ≡ l.fn.queue.items;
  most : l.queue.capacity ≡ l.fn.queue.capacity;
  fits : vec_len l.flight ≤ l.most;
  room : vec_capacity l.fn.flight ≤ vec_capacity l.flight;
}

abbrev pub decreases-loop-queue : goal.decreases-loop-queue
decreases-loop-queue g l = l.most - vec_len l.flight
