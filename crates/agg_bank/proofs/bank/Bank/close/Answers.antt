use Rattle.std.proofs.Common.{false}
use Rattle.agg_bank.proofs.BankLemmas.{closing_read, StandsBehind}
use Rattle.agg_bank.proofs.bank.Bank.close.Goals as goal

pub returns-clause-stands : goal.returns-clause-stands
returns-clause-stands c = closing_read false c.args.moment c.ranges.moment (StandsBehind _ _) c.close_by.ensures.stands
