use Rattle.std.proofs.Common.{◌≡◌, ◌++◌, take}
use Rattle.account.specs.AccountText.{numbered, output_line}
use Rattle.account.proofs.text.append_outputs.Given as goal

abbrev pub invariant-loop-i : goal.invariant-loop-i
invariant-loop-i l = l.out.items ≡ l.initial.out.items ++ numbered output_line 0 (take l.i l.outputs)
