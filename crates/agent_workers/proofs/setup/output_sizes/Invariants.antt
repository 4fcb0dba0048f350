use Rattle.std.proofs.Common.{◌≡◌, take}
use Rattle.std.specs.Prelude.{map}
use Rattle.agent_workers.specs.Job.{sizes_by}
use Rattle.agent_workers.proofs.setup.output_sizes.Given as goal

abbrev pub invariant-loop-output : goal.invariant-loop-output
invariant-loop-output l = l.pairs.items ≡ map sizes_by (take l.output-index l.outputs)
