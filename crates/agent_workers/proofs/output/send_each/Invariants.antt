use Rattle.std.proofs.Common.{◌≡◌, false, length}
use Rattle.agent_workers.specs.Output.{outs_of, AreOutputs}
use Rattle.agent_workers.specs.Progress.{still_flushed, SendsOn}
use Rattle.agent_workers.specs.Running.{IsAtRest, IsSentOn}
use Rattle.agent_workers.proofs.SweepLemmas.{Sweeping}
use Rattle.agent_workers.proofs.output.send_each.Given as goal

abbrev pub invariant-loop-job : goal.invariant-loop-job
invariant-loop-job g l = record {
  rests : IsAtRest l.core;
  kept : IsSentOn l.fn.core l.core;
  outputs : AreOutputs (length l.fn.core.setup.outputs) (outs_of g.K.Sink.told l.outputs);
  swept : Sweeping l.job-index l.sweep.emptied l.sweep.accepted l.fn.core l.core (outs_of g.K.Sink.told l.fn.outputs)
      (outs_of g.K.Sink.told l.outputs);
  quiet : l.sweep.accepted ≡ false → l.core.tracker ≡ l.fn.core.tracker;
  sends : SendsOn (still_flushed l.sweep) l.fn.core l.core (outs_of g.K.Sink.told l.fn.outputs)
      (outs_of g.K.Sink.told l.outputs);
}
