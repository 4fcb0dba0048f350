use Rattle.text_parts.proofs.Adding.{extends_after, fails}
use Rattle.journal_text.proofs.entry.append_metric_lines.Goals as goal

pub returns-in_err-append_metric_line : goal.returns-in_err-append_metric_line
returns-in_err-append_metric_line c =
    fails _ _ _ _ c.from_residual.ensures.0
    (extends_after _ _ _ _ c.loop-metric.invariant c.in_err-append_metric_line.ensures)
