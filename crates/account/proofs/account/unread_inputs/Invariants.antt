use Rattle.std.proofs.Common.{◌≡◌, take, map}
use Rattle.account.specs.Numbers.{unread_input}
use Rattle.account.proofs.account.unread_inputs.Given as goal

abbrev pub invariant-loop-flag : goal.invariant-loop-flag
invariant-loop-flag l = l.inputs.items ≡ map unread_input (take l.flag-index l.tracked)
