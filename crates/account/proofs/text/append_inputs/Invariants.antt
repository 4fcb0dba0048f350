use Rattle.std.proofs.Common.{◌≡◌, ◌++◌, take}
use Rattle.account.specs.AccountText.{numbered, input_line}
use Rattle.account.proofs.text.append_inputs.Given as goal

abbrev pub invariant-loop-i : goal.invariant-loop-i
invariant-loop-i l = l.out.items ≡ l.initial.out.items ++ numbered input_line 0 (take l.i l.inputs)
