use Rattle.std.proofs.Common.{◌<◌, ℕ}
use Rattle.std.specs.Prelude.{◌≢◌}
use Rattle.agent_workers.specs.Inputs.{ins_of, in_at}
use Rattle.agent_workers.proofs.input.is_one_in.Given as goal

abbrev pub invariant-loop-job : goal.invariant-loop-job
invariant-loop-job g l = (k : ℕ) → k < l.job-index → (in_at (ins_of g.S.Source.told g.C.Clock.told l.inputs) k).state ≢
    l.state
