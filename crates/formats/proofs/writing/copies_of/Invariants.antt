use Rattle.std.proofs.Common.{◌≡◌, take}
use Rattle.formats.proofs.writing.copies_of.Given as goal

abbrev pub invariant-loop-i : goal.invariant-loop-i
invariant-loop-i g l = l.copies.items ≡ take l.i (g.M.Metrics.all l.metrics)
