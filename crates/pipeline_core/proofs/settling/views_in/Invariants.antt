use Rattle.std.proofs.Common.{◌≡◌, count_by, is_some, take}
use Rattle.pipeline_core.proofs.settling.views_in.Given as goal

abbrev pub invariant-loop-view : goal.invariant-loop-view
invariant-loop-view l = l.count ≡ count_by is_some (take l.view-index l.outs)
