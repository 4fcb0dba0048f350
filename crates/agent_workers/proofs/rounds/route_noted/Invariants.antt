use Rattle.agent_workers.specs.Item.{proc_of, IsSameProc}
use Rattle.agent_workers.specs.Noted.{part_of}
use Rattle.agent_workers.specs.Progress.{routing, RoutesOn}
use Rattle.agent_workers.specs.Running.{IsAtRest, IsRoutable}
use Rattle.agent_workers.proofs.rounds.route_noted.Given as goal

abbrev pub invariant-loop-part : goal.invariant-loop-part
invariant-loop-part g l = record {
  rests : IsAtRest l.core;
  kept : IsRoutable l.fn.core l.core;
  same : IsSameProc (proc_of l.fn.proc) (proc_of l.proc);
  routes : RoutesOn (routing l.fn.core (proc_of l.fn.proc) (part_of g.K.Sink.told l.fn.journal))
      (routing l.core (proc_of l.proc) (part_of g.K.Sink.told l.journal));
}
