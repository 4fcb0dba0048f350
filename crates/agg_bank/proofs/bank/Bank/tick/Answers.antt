use Rattle.std.proofs.Common.{false}
use Rattle.agg_bank.proofs.BankLemmas.{closing_read, Makes, StandsBehind}
use Rattle.agg_bank.proofs.bank.Bank.tick.Goals as goal

pub returns-clause-made : goal.returns-clause-made
returns-clause-made c = closing_read false c.args.moment c.ranges.moment (Makes _ _) c.in_ok-made.ensures

pub returns-clause-ok : goal.returns-clause-ok
returns-clause-ok c = closing_read false c.args.moment c.ranges.moment (StandsBehind _ _) c.close.ensures.stands
