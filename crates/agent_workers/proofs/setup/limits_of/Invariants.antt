use Rattle.std.proofs.Common.{◌≡◌, take}
use Rattle.std.specs.Prelude.{map}
use Rattle.agent_workers.specs.Job.{limit_by}
use Rattle.agent_workers.proofs.setup.limits_of.Given as goal

abbrev pub invariant-loop-input : goal.invariant-loop-input
invariant-loop-input l = l.limits.items ≡ map limit_by (take l.input-index l.inputs)
