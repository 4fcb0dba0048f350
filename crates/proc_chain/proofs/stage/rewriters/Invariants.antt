use Rattle.std.proofs.Common.{◌≡◌, take}
use Rattle.proc_chain.proofs.stage.rewriters.Given as goal

abbrev pub invariant-loop-rule : goal.invariant-loop-rule
invariant-loop-rule l = l.all.items ≡ take l.rule-index l.rules
