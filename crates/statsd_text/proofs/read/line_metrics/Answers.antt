use Rattle.std.proofs.Common.{List, Result, subst, sym}
use Rattle.std.proofs.lemmas.Int.{to_z-of_z}
use mir.Syntax.{w64}
use Rattle.text_parts.specs.Chain.{Gives}
use Rattle.metric.specs.declared.metric.Content.{Content}
use Rattle.statsd_text.specs.declared.fault.StatsdFault.{StatsdFault}
use Rattle.statsd_text.proofs.read.line_metrics.Goals as goal

pub returns : goal.returns
returns c =
    subst (λ (r : Result (List Content) StatsdFault). Gives (λ metrics. metrics) c.metrics_of.result r)
    (sym (c.in_ok-name.ensures.says c.args.moment))
    (rw (c.as_slice.ensures.value, to_z-of_z w64 c.args.moment c.ranges.moment) at c.metrics_of.ensures)
