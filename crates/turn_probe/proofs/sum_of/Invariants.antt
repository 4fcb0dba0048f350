use Rattle.std.proofs.Common.{◌≡◌, length}
use Rattle.turn_probe.proofs.sum_of.Given as goal

abbrev pub invariant-loop-made : goal.invariant-loop-made
invariant-loop-made g l = length l.works.items ≡ l._made
