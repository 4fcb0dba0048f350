use Rattle.std.proofs.Common.{◌≡◌, false, length}
use Rattle.agent_workers.specs.Inputs.{ins_of, AreInputs, AreSameInputs}
use Rattle.agent_workers.specs.Progress.{GathersTo}
use Rattle.agent_workers.specs.Running.{IsRunning, IsGathered}
use Rattle.agent_workers.proofs.InLemmas.{HasTurned}
use Rattle.agent_workers.proofs.input.gather_each.Given as goal

abbrev pub invariant-loop-job : goal.invariant-loop-job
invariant-loop-job g l = record {
  running : IsRunning l.core;
  kept : IsGathered l.fn.core l.core;
  inputs : AreInputs (length l.fn.core.setup.inputs) l.core.ended (ins_of g.S.Source.told g.C.Clock.told l.inputs);
  same : AreSameInputs (ins_of g.S.Source.told g.C.Clock.told l.fn.inputs)
      (ins_of g.S.Source.told g.C.Clock.told l.inputs);
  going : l.turns.full ≡ false;
  turned : l.turns.accepted ≡ false → HasTurned l.job-index l.fn.core l.core
      (ins_of g.S.Source.told g.C.Clock.told l.inputs);
  gathers : GathersTo l.job-index l.turns.accepted l.fn.core l.core (ins_of g.S.Source.told g.C.Clock.told l.fn.inputs)
      (ins_of g.S.Source.told g.C.Clock.told l.inputs);
}
