use Rattle.std.proofs.Common.{◌≡◌, ◌++◌, map, take, drop}
use Rattle.pipeline_core.specs.Steps.{consumed_more}
use Rattle.pipeline_core.proofs.routing.count_consumed.Given as goal

-- the outputs before this one are counted, and the others are as they were
abbrev pub invariant-loop-output : goal.invariant-loop-output
invariant-loop-output l = l.account ≡ record l.fn.account
    { outputs = map consumed_more (take l.output l.fn.account.outputs) ++ drop l.output l.fn.account.outputs }
