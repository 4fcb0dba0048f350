use Rattle.std.proofs.Common.{arith}
use Rattle.pipeline_core.specs.Steps.{consumed_more}
use Rattle.pipeline_core.proofs.Offering.{counted_step}
use Rattle.pipeline_core.proofs.routing.count_consumed.Goals as goal

pub loop-output-preserved : goal.loop-output-preserved
loop-output-preserved c =
    counted_step consumed_more c.args.account.now c.loop-output.account c.consumed.new.self c.loop-output.output
    (omega (arith, c.loop-output-test.true, c.requires.numbers)) c.loop-output.invariant c.consumed.ensures
