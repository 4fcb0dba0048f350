use Rattle.std.proofs.Common.{◌<◌}
use Rattle.agent_workers.specs.Progress.{RunsOn}
use Rattle.agent_workers.specs.Rounds.{AreSameParts}
use Rattle.agent_workers.specs.RunState.{state_of, AreFit, IsAboutSame}
use Rattle.agent_workers.specs.Running.{IsRunning, AreSettled}
use Rattle.agent_workers.specs.Output.{outs_of}
use Rattle.agent_workers.proofs.parts.Parts.rounds.Given as goal

abbrev pub invariant-loop-round : goal.invariant-loop-round
invariant-loop-round g l = record {
  running : IsRunning l.core;
  parts : AreSameParts l.fn.self l.self;
  fit : AreFit (state_of g.S.Source.told g.K.Sink.told g.C.Clock.told l.core l.self);
  about : IsAboutSame (state_of g.S.Source.told g.K.Sink.told g.C.Clock.told l.fn.core l.fn.self)
      (state_of g.S.Source.told g.K.Sink.told g.C.Clock.told l.core l.self);
  settled : AreSettled l.fn.core (outs_of g.K.Sink.told l.fn.self.outputs.items)
      → AreSettled l.core (outs_of g.K.Sink.told l.self.outputs.items);
  few : l.idle < l.fn.self.final_tries;
  runs : RunsOn (λ still. l.idle) (state_of g.S.Source.told g.K.Sink.told g.C.Clock.told l.fn.core l.fn.self)
      (state_of g.S.Source.told g.K.Sink.told g.C.Clock.told l.core l.self);
}
