use Rattle.std.proofs.Common.{◌∙◌}
use Rattle.agent_run.proofs.LoopLemmas.{front_apart, front_out, front_refused}
use Rattle.agent_run.proofs.places.open_side.Goals as goal

pub give_each-requires-clause-apart : goal.give_each-requires-clause-apart
give_each-requires-clause-apart g c κs within = front_apart g.S.Side.place_of c.args.confs.now c.len.result
    c.requires.apart

pub give_each-requires-clause-out : goal.give_each-requires-clause-out
give_each-requires-clause-out g c κs within =
    front_out g.S.Side.place_of g.S.Side.told c.args.confs.now c.requires.apart c.open_each.new.parts.items c.len.result
    (c.len.ensures ∙ c.open_each.new.parts.ok.0) c.in-Err.unopened
    (g.S.Side.places (g.W.World.view c.args.world.now)) (g.S.Side.places (g.W.World.view c.open_each.new.world))
    c.in-Err.ensures.stopped

pub returns-in-Err-clause-refused : goal.returns-in-Err-clause-refused
returns-in-Err-clause-refused g c =
    front_refused g.S.Side.place_of g.S.Side.told c.args.confs.now c.requires.apart c.open_each.new.parts.items
    c.len.result (c.len.ensures ∙ c.open_each.new.parts.ok.0) c.in-Err.unopened
    (g.S.Side.places (g.W.World.view c.args.world.now)) (g.S.Side.places (g.W.World.view c.open_each.new.world))
    c.in-Err.ensures.stopped
    (g.S.Side.places (g.W.World.view c.give_each.new.world)) c.requires.home c.give_each.ensures.given

pub returns-in-Err-clause-only : goal.returns-in-Err-clause-only
returns-in-Err-clause-only g c = g.met.S.Side.more (g.W.World.view c.args.world.now)
    (g.W.World.view c.open_each.new.world) (g.W.World.view c.give_each.new.world) c.open_each.ensures.only
    c.give_each.ensures.only
