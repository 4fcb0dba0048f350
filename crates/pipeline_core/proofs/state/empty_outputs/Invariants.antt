use Rattle.std.proofs.Common.{◌≡◌, take, map}
use Rattle.pipeline_core.specs.CoreState.{lane_of}
use Rattle.pipeline_core.proofs.state.empty_outputs.Given as goal

abbrev pub invariant-loop-size : goal.invariant-loop-size
invariant-loop-size l = l.outputs.items ≡ map lane_of (take l.size-index l.sizes)
