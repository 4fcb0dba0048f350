use Rattle.std.proofs.Common.{◌∙◌, ◌+◌, ℤ, ap, drop, sym, to_z, of_z}
use Rattle.std.specs.Int.{w64}
use Rattle.std.proofs.lemmas.Int.{to_z-of_z}
use Rattle.agg_keep.specs.FinalKept.{held, left_held}
use Rattle.agg_keep.proofs.FinalLemmas.{left_end, left_step}
use Rattle.agg_keep.proofs.final_map.drop_given.Goals as goal

pub loop-series-preserved : goal.loop-series-preserved
loop-series-preserved c = λ q.
    let timeout = to_z w64 (of_z w64 c.args.timeout) in
    let i = c.loop-series.series-index in
    let order = c.args.order.now in
    ap (left_held timeout c.args.closing (drop (i + 1) order) q) (c.drop_one.ensures q)
    ∙ sym (left_step timeout c.args.closing order i c.series-item.result q (held c.loop-series.kept.entries q)
    c.loop-series-test.true c.series-item.is)
    ∙ c.loop-series.invariant q

pub returns : goal.returns
returns c = λ q.
    let order = c.args.order.now in
    sym (left_end (to_z w64 (of_z w64 c.args.timeout)) c.args.closing order c.loop-series.series-index q
    (held c.loop-series.kept.entries q) c.loop-series-test.false)
    ∙ c.loop-series.invariant q
    ∙ ap (λ (t : ℤ). left_held t c.args.closing order q (held c.args.kept.now.entries q))
    (to_z-of_z w64 c.args.timeout c.ranges.timeout)
