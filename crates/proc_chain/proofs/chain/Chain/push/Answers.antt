use Rattle.std.proofs.Common.{◌≡◌, sym, subst, List}
use Rattle.std.specs.Prelude.{IfOk, IfSome}
use Rattle.metric_filter.specs.Kept.{is_same}
use Rattle.proc_chain.specs.Chain.{steps_of, IsBehind, StageState}
use Rattle.proc_chain.specs.Steps.{leave_as_is}
use Rattle.proc_chain.proofs.GoingLemmas.{said_itself, said_same}
use Rattle.proc_chain.proofs.PushLemmas.{answered}
use Rattle.proc_chain.proofs.chain.Chain.push.Goals as goal

pub returns-clause-answer : goal.returns-clause-answer
returns-clause-answer c = λ steps list behind.
    answered steps list c.args.m c.self.inside.stages.items c.push_all.new.stages.items c.push_all.result
    (subst (IsBehind steps list) (sym c.self.view_is) behind) c.push_all.ensures.pushes

pub returns-clause-same : goal.returns-clause-same
returns-clause-same c =
    subst (λ (stages : List StageState). IfOk c.push_all.result
    (λ answer. IfSome answer (λ kept. is_same kept ≡ leave_as_is (steps_of stages) c.args.m))) c.self.view_is
    (said_same (leave_as_is (steps_of c.self.inside.stages.items) c.args.m) c.args.m c.push_all.result
    c.push_all.ensures.goes_on)

pub returns-clause-itself : goal.returns-clause-itself
returns-clause-itself c =
    said_itself (leave_as_is (steps_of c.self.inside.stages.items) c.args.m) c.args.m c.push_all.result
    c.push_all.ensures.goes_on
