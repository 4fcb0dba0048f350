use Rattle.std.proofs.Common.{◌∙◌}
use Rattle.agg_stats.proofs.RowLemmas.{stands_here, stands_past}
use Rattle.agg_stats.proofs.row.stands_at.Goals as goal

pub returns-then-at-sums : goal.returns-then-at-sums
returns-then-at-sums c = stands_past c.args.sums.now c.args.at c.args.key.now c.if-at-sums.true

pub returns : goal.returns
returns c =
    c.eq.ensures
    ∙ stands_here c.args.sums.now c.args.at c.args.key.now c.index-sums-at.result c.if-at-sums.false
