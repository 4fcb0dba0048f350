use Rattle.std.proofs.Common.{true}
use Rattle.agg_bank.proofs.BankLemmas.{closing_read, StandsBehind}
use Rattle.agg_bank.proofs.bank.Bank.close_all.Goals as goal

pub returns-clause-stands : goal.returns-clause-stands
returns-clause-stands c = closing_read true c.args.moment c.ranges.moment (StandsBehind _ _) c.close_by.ensures.stands
