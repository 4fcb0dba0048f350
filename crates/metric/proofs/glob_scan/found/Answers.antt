use Rattle.std.proofs.Common.{◌∙◌}
use Rattle.metric.proofs.glob_scan.found.Goals as goal

pub returns-in-Done : goal.returns-in-Done
returns-in-Done c = c.in-Done.ensures _ c.loop-answer.invariant.scan ∙ c.loop-answer.invariant.same

pub loop-answer-preserved : goal.loop-answer-preserved
loop-answer-preserved c =
    let step = c.in-On.ensures _ c.loop-answer.invariant.scan in
    record { scan = step.scan; same = step.answer ∙ c.loop-answer.invariant.same }

pub loop-answer-smaller : goal.loop-answer-smaller
loop-answer-smaller c = (c.in-On.ensures _ c.loop-answer.invariant.scan).less
