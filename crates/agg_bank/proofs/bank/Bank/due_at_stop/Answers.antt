use Rattle.std.proofs.Common.{true}
use Rattle.agg_bank.proofs.BankLemmas.{closing_read, Makes}
use Rattle.agg_bank.proofs.bank.Bank.due_at_stop.Goals as goal

pub returns : goal.returns
returns c = closing_read true c.args.moment c.ranges.moment (Makes _ _) c.in_ok-made_by.ensures
