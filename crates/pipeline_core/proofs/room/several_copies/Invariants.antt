use Rattle.std.proofs.Common.{◌≡◌, take}
use Rattle.pipeline_core.proofs.room.several_copies.Given as goal

abbrev pub invariant-loop-view : goal.invariant-loop-view
invariant-loop-view l = l.copies.items ≡ take l.view-index l.views
