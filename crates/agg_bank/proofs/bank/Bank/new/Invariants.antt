use Rattle.std.proofs.Common.{false, [], take}
use Rattle.agg_bank.specs.Bank.{BankStands}
use Rattle.agg_bank.proofs.BankLemmas.{bank_of}
use Rattle.agg_bank.proofs.bank.Bank.new.Given as goal

abbrev pub invariant-loop-line : goal.invariant-loop-line
invariant-loop-line l = BankStands (take l.line-index l.lines) l.start [] (bank_of l.aggregators.items false)
