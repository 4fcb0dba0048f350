use Rattle.std.proofs.Common.{take}
use Rattle.journal_text.specs.JournalText.{metric_lines}
use Rattle.agent_workers.specs.Noted.{part_of, GoesOut}
use Rattle.agent_workers.proofs.journal.JournalJob.write_metrics.Given as goal

abbrev pub invariant-loop-metric : goal.invariant-loop-metric
invariant-loop-metric g l =
    GoesOut (part_of g.K.Sink.told l.fn.self) (part_of g.K.Sink.told l.self) l.fn.text.items
    (metric_lines (take l.metric-index l.metrics)) l.text.items
