use Rattle.std.proofs.Common.{length, ◌-◌, ◌≡◌, ◌≤◌, ◌++◌, take, drop}
use Rattle.agent_run.proofs.generated.Generated.fill.Given as goal

abbrev pub invariant-loop-done : goal.invariant-loop-done
invariant-loop-done l = record {
  within : l.done ≤ length l.fn.self;
  room : l.done ≤ length l.fn.buf;
  given : l.buf ≡ take l.done l.fn.self ++ drop l.done l.fn.buf;
  left : l.self ≡ drop l.done l.fn.self;
}

abbrev pub decreases-loop-done : goal.decreases-loop-done
decreases-loop-done l = length l.buf - l.done
