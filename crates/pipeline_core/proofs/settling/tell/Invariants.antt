use Rattle.std.proofs.Common.{drop, take}
use Rattle.pipeline_core.proofs.TellingLemmas.{Telling}
use Rattle.pipeline_core.proofs.settling.tell.Given as goal

abbrev pub invariant-loop-report : goal.invariant-loop-report
invariant-loop-report l =
    Telling l.fn.account l.fn.told.items (take l.report-index l.reports) (drop l.report-index l.reports) l.account
    l.told.items
