use Rattle.std.proofs.Common.{◌≡◌}
use Rattle.agent_workers.specs.Output.{out_of}
use Rattle.agent_workers.specs.Progress.{SendsAt}
use Rattle.agent_workers.specs.Running.{IsAtRest, IsSentAt, waiting_at}
use Rattle.agent_workers.proofs.SendSteps.{still_from}
use Rattle.agent_workers.proofs.output.send_all.Given as goal

abbrev pub invariant-loop-batch : goal.invariant-loop-batch
invariant-loop-batch g l = record {
  rests : IsAtRest l.core;
  kept : IsSentAt l.fn.job.output l.fn.core l.core;
  first : l.batch ≡ 0 → l.job.failed_since ≡ l.fn.job.failed_since;
  waits : l.batch ≡ 0 → waiting_at l.core l.fn.job.output ≡ waiting_at l.fn.core l.fn.job.output;
  number : l.job.output ≡ l.fn.job.output;
  quiet : l.batch ≡ 0 → l.core.tracker ≡ l.fn.core.tracker;
  sends : SendsAt (still_from l.batch) l.fn.core l.core (out_of g.K.Sink.told l.fn.job) (out_of g.K.Sink.told l.job);
}
