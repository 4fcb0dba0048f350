use Rattle.std.proofs.Common.{◌≡◌, map, replicate, []}
use Rattle.pipeline_core.specs.ToldView.{reports_in}
use Rattle.pipeline_core.proofs.state.empty_told.Given as goal

abbrev pub invariant-loop-input : goal.invariant-loop-input
invariant-loop-input l = map reports_in l.told.items ≡ replicate l._input []
