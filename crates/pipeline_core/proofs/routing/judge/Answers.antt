use Rattle.std.proofs.Common.{◌≡◌, sym, subst}
use Rattle.std.specs.Prelude.{IfOk}
use Rattle.account.specs.declared.entry.Verdict.{Verdict}
use Rattle.pipeline_core.proofs.ShapeLemmas.{judged_none, judged_some}
use Rattle.pipeline_core.proofs.routing.judge.Goals as goal

pub returns-in-Some-clause-verdict : goal.returns-in-Some-clause-verdict
returns-in-Some-clause-verdict c = λ setup before is.
    subst (λ (right : Verdict). IfOk c.offer.result (λ (verdict : Verdict). verdict ≡ right))
    (sym (judged_some setup before c.args.whole.now c.args.aggs.now c.in-Some.field-0 c.in-Some.is))
    (c.offer.ensures.verdict setup.aggs setup.start _ is)

pub returns-in-None-clause-verdict : goal.returns-in-None-clause-verdict
returns-in-None-clause-verdict c = λ setup before is.
    sym (judged_none setup before c.args.whole.now c.args.aggs.now c.in-None.is)
