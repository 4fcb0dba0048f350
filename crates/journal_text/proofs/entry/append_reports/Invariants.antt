use Rattle.std.proofs.Common.{◌≡◌, ◌++◌, take}
use Rattle.journal_text.specs.JournalText.{report_lines}
use Rattle.journal_text.proofs.entry.append_reports.Given as goal

abbrev pub invariant-loop-report : goal.invariant-loop-report
invariant-loop-report l = l.out.items ≡ l.initial.out.items ++ report_lines (take l.report-index l.reports)
