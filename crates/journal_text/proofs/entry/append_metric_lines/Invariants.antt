use Rattle.std.proofs.Common.{◌≡◌, ◌++◌, take}
use Rattle.journal_text.specs.JournalText.{metric_lines}
use Rattle.journal_text.proofs.entry.append_metric_lines.Given as goal

abbrev pub invariant-loop-metric : goal.invariant-loop-metric
invariant-loop-metric l = l.out.items ≡ l.initial.out.items ++ metric_lines (take l.metric-index l.metrics)
