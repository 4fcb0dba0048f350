use Rattle.std.proofs.Common.{◌-◌, length}
use Rattle.graphite_text.specs.Wanted.{share_of}
use Rattle.graphite_text.proofs.Taking.{Taking}
use Rattle.graphite_text.proofs.collected.taken_of.Given as goal

abbrev pub invariant-loop-i : goal.invariant-loop-i
invariant-loop-i l = Taking (share_of l.wanted) l.parts l.segments l.taken l.i

abbrev pub decreases-loop-i : goal.decreases-loop-i
decreases-loop-i l = length l.parts - l.i
