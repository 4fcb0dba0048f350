use Rattle.std.proofs.Common.{sym, subst}
use Rattle.std.specs.Prelude.{IfOk, Some}
use Rattle.metric_filter.specs.Kept.{metric_of}
use Rattle.proc_chain.specs.Chain.{WorkStands}
use Rattle.proc_chain.specs.Seen.{WorkSees}
use Rattle.proc_chain.specs.Stage.{memory_of, work_of}
use Rattle.proc_chain.specs.declared.stage.StageWork.{StageWork}
use Rattle.proc_chain.proofs.stage.look.Goals as goal

pub returns-in-Dedup-clause-stands : goal.returns-in-Dedup-clause-stands
returns-in-Dedup-clause-stands c = λ list stands. c.look_back.ensures.stands c.in-Dedup.field-0 list
    (subst (λ (work : StageWork). WorkStands (work_of work) list (memory_of work)) c.in-Dedup.is stands)

pub returns-in-Dedup-clause-sees : goal.returns-in-Dedup-clause-sees
returns-in-Dedup-clause-sees c = λ list stands.
    subst (λ (work : StageWork). IfOk c.look_back.result
    (λ seen. WorkSees (work_of work) list (metric_of c.args.m) seen (Some c.look_back.new.dedup))) (sym c.in-Dedup.is)
    (c.look_back.ensures.sees c.in-Dedup.field-0 list
    (subst (λ (work : StageWork). WorkStands (work_of work) list (memory_of work)) c.in-Dedup.is stands))
