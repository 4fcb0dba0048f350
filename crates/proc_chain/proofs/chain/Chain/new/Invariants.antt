use Rattle.std.proofs.Common.{[], take}
use Rattle.proc_chain.specs.Chain.{IsBehind}
use Rattle.proc_chain.proofs.chain.Chain.new.Given as goal

abbrev pub invariant-loop-step : goal.invariant-loop-step
invariant-loop-step l = IsBehind (take l.step-index l.steps) [] l.stages.items
