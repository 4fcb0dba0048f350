use Rattle.std.proofs.Common.{◌≡◌, take}
use Rattle.std.specs.Prelude.{map}
use Rattle.agent_workers.specs.Opened.{in_setup}
use Rattle.agent_workers.proofs.setup.in_setups.Given as goal

abbrev pub invariant-loop-input : goal.invariant-loop-input
invariant-loop-input l = l.setups.items ≡ map in_setup (take l.input-index l.inputs)
