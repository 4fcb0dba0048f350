use Rattle.std.proofs.Common.{◌∙◌, ◌+◌, [], sym, subst, take}
use Rattle.proc_chain.specs.Chain.{IsBehind}
use Rattle.proc_chain.proofs.BegunLemmas.{begun_with}
use Rattle.proc_chain.proofs.chain.Chain.new.Goals as goal

pub loop-step-preserved : goal.loop-step-preserved
loop-step-preserved c =
    subst (IsBehind (take (c.loop-step.step-index + 1) c.args.steps.now) []) (sym c.in_ok-push.ensures.items)
    (begun_with c.args.steps.now c.loop-step.stages.items c.in_ok-of.field-0 c.loop-step.step-index c.step-item.result
    c.loop-step-test.true (c.in_ok-of.ensures.step ∙ c.step-item.is) c.in_ok-of.ensures.stands c.loop-step.invariant)
