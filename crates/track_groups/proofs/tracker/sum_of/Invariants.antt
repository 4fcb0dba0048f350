use Rattle.std.proofs.Common.{◌≡◌, sum, take}
use Rattle.track_groups.proofs.tracker.sum_of.Given as goal

abbrev pub invariant-loop-limit : goal.invariant-loop-limit
invariant-loop-limit l = l.total ≡ sum (take l.limit-index l.limits)
