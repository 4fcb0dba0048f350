use Rattle.std.proofs.Common.{arith}
use Rattle.pipeline_core.specs.Steps.{late_more}
use Rattle.pipeline_core.proofs.Offering.{counted_step}
use Rattle.pipeline_core.proofs.routing.count_late.Goals as goal

pub loop-output-preserved : goal.loop-output-preserved
loop-output-preserved c =
    counted_step late_more c.args.account.now c.loop-output.account c.late.new.self c.loop-output.output
    (omega (arith, c.loop-output-test.true, c.requires.numbers)) c.loop-output.invariant c.late.ensures
