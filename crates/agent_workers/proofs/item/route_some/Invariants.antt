use Rattle.std.proofs.Common.{◌≡◌, ◌+◌, length}
use Rattle.agent_workers.specs.Item.{proc_of, IsSameProc}
use Rattle.agent_workers.specs.Progress.{GoesOn}
use Rattle.agent_workers.specs.Running.{IsAtRest, IsRoutable}
use Rattle.agent_workers.proofs.item.route_some.Given as goal

abbrev pub invariant-loop-taken : goal.invariant-loop-taken
invariant-loop-taken g l = record {
  rests : IsAtRest l.core;
  kept : IsRoutable l.fn.core l.core;
  fewer : length l.core.raw + l._taken ≡ length l.fn.core.raw;
  same : IsSameProc (proc_of l.fn.proc) (proc_of l.proc);
  goes : GoesOn l.fn.core l.core (proc_of l.fn.proc) (proc_of l.proc) l.fn.known.items l.known.items;
}
