-- How the reports of an input are seen.
use Rattle.std.specs.Prelude.{ℕ, List, []}
use Rattle.std.specs.VecDeque.{deque_capacity}
use Rattle.account.specs.declared.entry.Report.{Report}
use Rattle.pipeline_core.specs.declared.told.Told.TheInside.{Inside}

-- reports that weren't handed out yet, oldest first, and for how many there is room
pub record ToldState : Type 0 where
  pub reports : List Report
  pub places : ℕ

abbrev pub told_state : Inside → ToldState
told_state t = record { reports = t.queue.items; places = deque_capacity t.queue }

-- the reports alone
abbrev pub reports_in : ToldState → List Report
reports_in told = told.reports

-- none, and no room
abbrev pub no_reports : ToldState
no_reports = record { reports = []; places = 0 }
