use Rattle.std.proofs.Common.{◌≡◌, take, map}
use Rattle.pipeline_core.specs.CoreState.{marked_of}
use Rattle.pipeline_core.proofs.state.empty_marked.Given as goal

abbrev pub invariant-loop-size : goal.invariant-loop-size
invariant-loop-size l = l.marked.items ≡ map marked_of (take l.size-index l.sizes)
