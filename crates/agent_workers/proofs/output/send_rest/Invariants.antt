use Rattle.std.proofs.Common.{◌≡◌, ◌<◌, length}
use Rattle.agent_workers.specs.Output.{outs_of, AreOutputs}
use Rattle.agent_workers.specs.Progress.{SendsOn}
use Rattle.agent_workers.specs.Running.{IsAtRest, IsSentOn, HaveFailed}
use Rattle.agent_workers.proofs.output.send_rest.Given as goal

abbrev pub invariant-loop-repeat : goal.invariant-loop-repeat
invariant-loop-repeat g l = record {
  rests : IsAtRest l.core;
  kept : IsSentOn l.fn.core l.core;
  outputs : AreOutputs (length l.fn.core.setup.outputs) (outs_of g.K.Sink.told l.outputs);
  count : length l.outputs ≡ length l.fn.outputs;
  few : l.tries < l.fn.final_tries;
  failed : HaveFailed l.tries l.core (outs_of g.K.Sink.told l.outputs);
  sends : SendsOn (λ still. 0) l.fn.core l.core (outs_of g.K.Sink.told l.fn.outputs) (outs_of g.K.Sink.told l.outputs);
}
