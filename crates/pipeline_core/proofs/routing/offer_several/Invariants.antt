use Rattle.smallvec.specs.SmallVec.{small_vec_len}
use Rattle.pipeline_core.proofs.Offering.{Offered}
use Rattle.pipeline_core.proofs.routing.offer_several.Given as goal

-- the outputs whose views are left are as they were, and the others have got theirs
abbrev pub invariant-loop-view : goal.invariant-loop-view
invariant-loop-view l =
    Offered l.fn.item l.fn.outputs.items l.fn.account l.fn.views.items l.views.items l.outputs.items l.account

abbrev pub decreases-loop-view : goal.decreases-loop-view
decreases-loop-view l = small_vec_len l.views
