use Rattle.std.proofs.Common.{sym, ◌∙◌}
use Rattle.journal_reader.proofs.MetricFacts.{metric_fits}
use Rattle.journal_reader.proofs.metrics.metric_of.Goals as goal

pub of-requires : goal.of-requires
of-requires c =
    metric_fits c.args.word.now c.in-Some.content (sym c.in_ok-content.ensures ∙ c.in-Some.is)
    (sym c.in_ok-is_metric.ensures ∙ c.if-not-branch.false)
