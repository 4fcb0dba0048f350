use Rattle.std.proofs.Common.{false}
use Rattle.agg_bank.proofs.BankLemmas.{closing_read, Makes}
use Rattle.agg_bank.proofs.bank.Bank.due.Goals as goal

pub returns : goal.returns
returns c = closing_read false c.args.moment c.ranges.moment (Makes _ _) c.in_ok-made_by.ensures
