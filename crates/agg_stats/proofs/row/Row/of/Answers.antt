use Rattle.std.proofs.Common.{◌∙◌, [], ap, subst, sym}
use Rattle.agg_stats.specs.Folds.{series_of}
use Rattle.agg_stats.specs.Kept.{all_changed, AreDistinct}
use Rattle.agg_stats.proofs.RowLemmas.{distinct_fresh, first_sums, row_changed, row_sums}
use Rattle.agg_stats.proofs.row.Row.of.Goals as goal

pub change_all-requires : goal.change_all-requires
change_all-requires c =
    subst AreDistinct (sym c.requires) (distinct_fresh [] c.args.metric first_sums c.shows_metric.ensures)

pub invariant_of-result : goal.invariant_of-result
invariant_of-result c =
    row_sums [] _ c.args.metric first_sums c.shows_metric.ensures
    (row_changed [] c.args.fresh.items _ c.args.metric c.shows_metric.ensures c.requires
    (c.change_all.ensures ∙ ap (all_changed c.args.fresh.items) c.fields.ensures))

pub returns : goal.returns
returns c =
    let sums = row_changed [] c.args.fresh.items _ c.args.metric c.shows_metric.ensures c.requires
    (c.change_all.ensures ∙ ap (all_changed c.args.fresh.items) c.fields.ensures) in
    λ i. (series_of c.args.metric, sums i)
