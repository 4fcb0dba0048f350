use Rattle.agent_run.proofs.LoopLemmas.{gives_all, gives_from, gives_next}
use Rattle.agent_run.proofs.places.give_each.Goals as goal

pub give_part-requires : goal.give_part-requires
give_part-requires g c =
    gives_from g.S.Side.place_of g.S.Side.told c.args.confs.now c.args.parts.items c.into_iter-conf-iterator.result (cc)
    (cc) (cc) c.requires.count c.loop-conf.yielded c.loop-conf.conf-iterator c.loop-conf.yielded_by c.next.result
    c.next.new.self c.next.ensures.steps
    (g.S.Side.places (g.W.World.view c.args.world.now)) (g.S.Side.places (g.W.World.view c.loop-conf.world))
    c.loop-conf.invariant.0 c.requires.apart c.in-Some.conf c.in-Some.part c.in-Some.is c.place.result.now
    c.place.ensures c.requires.out

pub loop-conf-preserved : goal.loop-conf-preserved
loop-conf-preserved g c = (
  gives_next g.S.Side.place_of g.S.Side.told c.args.confs.now c.args.parts.items c.into_iter-conf-iterator.result (cc)
      (cc) (cc) c.requires.count c.loop-conf.yielded c.loop-conf.conf-iterator c.loop-conf.yielded_by c.next.result
      c.next.new.self c.next.ensures.steps
      (g.S.Side.places (g.W.World.view c.args.world.now)) (g.S.Side.places (g.W.World.view c.loop-conf.world))
      c.loop-conf.invariant.0 c.requires.apart c.in-Some.conf c.in-Some.part c.in-Some.is c.place.result.now
      c.place.ensures
      (g.S.Side.places (g.W.World.view c.give_part.new.world)) c.give_part.ensures.given c.give_part.ensures.others,
  g.met.S.Side.more (g.W.World.view c.args.world.now) (g.W.World.view c.loop-conf.world)
      (g.W.World.view c.give_part.new.world) c.loop-conf.invariant.1 c.give_part.ensures.only,
)

pub returns-clause-given : goal.returns-clause-given
returns-clause-given g c =
    gives_all g.S.Side.place_of g.S.Side.told c.args.confs.now c.args.parts.items c.into_iter-conf-iterator.result (cc)
    (cc) (cc) c.requires.count c.loop-conf.yielded c.loop-conf.conf-iterator c.loop-conf.yielded_by c.next.result
    c.next.new.self c.next.ensures.steps
    (g.S.Side.places (g.W.World.view c.args.world.now)) (g.S.Side.places (g.W.World.view c.loop-conf.world))
    c.loop-conf.invariant.0 c.in-None.is
