use Rattle.std.proofs.Common.{arith}
use Rattle.pipeline_core.proofs.Offering.{buffered_dropped, full_at}
use Rattle.pipeline_core.specs.CoreState.{lane_at}
use Rattle.pipeline_core.proofs.routing.offer_view.Goals as goal

pub returns-then-dropped-clause-account : goal.returns-then-dropped-clause-account
returns-then-dropped-clause-account c =
    buffered_dropped c.args.account.now c.buffered.new.self c.dropped.new.self c.args.output c.args.view c.in-Some.view
    (lane_at c.args.outputs.now.items c.args.output) (omega (arith, c.requires.numbers)) c.in-Some.is
    (full_at c.args.outputs.now.items c.args.output c.index_mut-chosen.result.now c.push-dropped.result
    (omega arith) c.index_mut-chosen.ensures.value c.push-dropped.ensures.dropped c.if-dropped.true) c.buffered.ensures
    c.dropped.ensures
