use Rattle.std.proofs.Common.{arith}
use Rattle.std.proofs.lemmas.Grind.{common_steps}
use Rattle.pipeline_core.proofs.Offering.{offered_more, offered_lanes, offered_numbers}
use Rattle.pipeline_core.proofs.routing.offer_several.Goals as goal

pub loop-view-preserved : goal.loop-view-preserved
loop-view-preserved c =
    offered_more c.args.item c.args.outputs.now.items c.args.account.now c.args.views.items c.loop-view.views.items
    c.pop.new.self.items c.in-Some.view c.loop-view.outputs.items c.offer_view.new.outputs.items c.loop-view.account
    c.offer_view.new.account
    c.requires.views c.requires.numbers c.in-Some.ensures.items (cc) (cc) c.loop-view.invariant

pub returns-clause-lanes : goal.returns-clause-lanes
returns-clause-lanes c =
    offered_lanes c.args.item c.args.outputs.now.items c.args.account.now c.args.views.items c.loop-view.views.items
    c.loop-view.outputs.items c.loop-view.account (grind (arith, common_steps)) c.loop-view.invariant

pub returns-clause-account : goal.returns-clause-account
returns-clause-account c =
    offered_numbers c.args.item c.args.outputs.now.items c.args.account.now c.args.views.items c.loop-view.views.items
    c.loop-view.outputs.items c.loop-view.account (grind (arith, common_steps)) c.requires.numbers c.loop-view.invariant
