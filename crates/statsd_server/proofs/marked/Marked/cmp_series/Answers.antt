use Rattle.std.proofs.Common.{◌≡◌, ◌∙◌, subst, sym}
use Rattle.std.specs.Cmp.{tied_itself}
use Rattle.std.specs.declared.cmp.Ordering.TheVariants.{Equal}
use Rattle.metric.specs.Series.{series_cmp, series_total, Series}
use Rattle.agg_keep.specs.Spot.{series_same}
use Rattle.statsd_server.proofs.marked.Marked.cmp_series.Goals as goal

pub returns-then-is_same : goal.returns-then-is_same
returns-then-is_same c =
    let a = c.args.self.now in
    let b = c.args.other.now in
    sym (subst (λ (s : Series). series_cmp a s ≡ Equal)
    ((series_same a b).0 (sym c.is_same.ensures ∙ c.if-is_same.true)) (tied_itself series_total a))
