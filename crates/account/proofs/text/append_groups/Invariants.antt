use Rattle.std.proofs.Common.{◌≡◌, ◌++◌, take}
use Rattle.account.specs.AccountText.{numbered, tracked_groups}
use Rattle.account.proofs.text.append_groups.Given as goal

abbrev pub invariant-loop-i : goal.invariant-loop-i
invariant-loop-i l = l.out.items ≡ l.initial.out.items ++ numbered tracked_groups 0 (take l.i l.inputs)
