use Rattle.std.proofs.Common.{◌-◌, length, arith}
use Rattle.journal_reader.proofs.ListLemmas.{above_last, above_none}
use Rattle.journal_reader.proofs.state.is_above.Goals as goal

pub returns-in-empty : goal.returns-in-empty
returns-in-empty c = above_none c.args.reports.now c.args.group c.in-empty.len_below

pub returns-in-len1-up : goal.returns-in-len1-up
returns-in-len1-up c =
    above_last c.args.reports.now (length c.args.reports.now - 1) c.args.group _
    (omega (arith, c.in-len1-up.len_at_least))
