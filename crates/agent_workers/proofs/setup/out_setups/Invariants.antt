use Rattle.std.proofs.Common.{◌≡◌, take}
use Rattle.std.specs.Prelude.{map}
use Rattle.agent_workers.specs.Opened.{out_setup}
use Rattle.agent_workers.proofs.setup.out_setups.Given as goal

abbrev pub invariant-loop-output : goal.invariant-loop-output
invariant-loop-output l = l.setups.items ≡ map out_setup (take l.output-index l.outputs)
