use Rattle.agent_run.proofs.checking.report_config_fault.Goals as goal

pub returns-clause-answer : goal.returns-clause-answer
returns-clause-answer g c = c.report_made.ensures.answer _ c.config_fault_line.ensures
