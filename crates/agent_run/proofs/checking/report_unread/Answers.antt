use Rattle.agent_run.proofs.checking.report_unread.Goals as goal

pub returns-in-Unopened-clause-answer : goal.returns-in-Unopened-clause-answer
returns-in-Unopened-clause-answer g c = rw c.in-Unopened.is c.report_open_fault.ensures.answer

pub returns-in-Failed-clause-answer : goal.returns-in-Failed-clause-answer
returns-in-Failed-clause-answer g c = rw c.in-Failed.is (c.report_made.ensures.answer _ c.read_fault_line.ensures)
