use Rattle.std.proofs.Common.{◌≡◌, ◌++◌, take, drop}
use Rattle.std.specs.Prelude.{map}
use Rattle.agent_workers.specs.Output.{outs_of, anew}
use Rattle.agent_workers.proofs.output.begin_anew.Given as goal

abbrev pub invariant-loop-job : goal.invariant-loop-job
invariant-loop-job g l =
    outs_of g.K.Sink.told l.outputs ≡ map anew (take l.job-index (outs_of g.K.Sink.told l.fn.outputs))
    ++ drop l.job-index (outs_of g.K.Sink.told l.fn.outputs)
