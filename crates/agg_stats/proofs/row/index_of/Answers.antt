use Rattle.std.proofs.Common.{◌∙◌, sym}
use Rattle.agg_stats.proofs.RowLemmas.{guessed}
use Rattle.agg_stats.proofs.row.index_of.Goals as goal

pub returns-then-stands_at : goal.returns-then-stands_at
returns-then-stands_at c =
    sym (guessed c.args.sums.now c.args.guess c.args.key.now c.requires
    (sym c.stands_at.ensures ∙ c.if-stands_at.true))
