use Rattle.std.proofs.Common.{◌≡◌, take}
use Rattle.pipeline_core.proofs.room.copies_of.Given as goal

abbrev pub invariant-loop-metric : goal.invariant-loop-metric
invariant-loop-metric l = l.copies.items ≡ take l.metric-index l.metrics
