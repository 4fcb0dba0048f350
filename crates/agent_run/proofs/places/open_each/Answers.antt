use Rattle.std.proofs.Common.{◌<◌, ◌∙◌, length, arith}
use Rattle.agent_run.proofs.LoopLemmas.{opens_from, opens_next, opens_no_more}
use Rattle.agent_run.proofs.places.open_each.Goals as goal

pub open_part-requires : goal.open_part-requires
open_part-requires g c =
    let l : c.loop-conf.conf-index < length c.args.confs.now =
    omega (arith, c.loop-conf-test.true, c.loop-conf.auto.conf-index-end) in
    opens_from g.S.Side.place_of g.S.Side.told c.args.confs.now c.requires.apart c.loop-conf.conf-index
    c.conf-item.result l c.conf-item.is c.place-place.result.now c.place-place.ensures c.loop-conf.parts.items
    (g.S.Side.places (g.W.World.view c.args.world.now)) (g.S.Side.places (g.W.World.view c.loop-conf.world))
    c.loop-conf.invariant.0 c.requires.home

pub returns-in-Err-clause-stopped : goal.returns-in-Err-clause-stopped
returns-in-Err-clause-stopped g c =
    let l : c.loop-conf.conf-index < length c.args.confs.now =
    omega (arith, c.loop-conf-test.true, c.loop-conf.auto.conf-index-end) in
    opens_no_more g.S.Side.place_of g.S.Side.told c.args.confs.now c.requires.apart c.loop-conf.conf-index
    c.conf-item.result l c.conf-item.is c.place-place.result.now c.place-place.ensures c.loop-conf.parts.items
    (g.S.Side.places (g.W.World.view c.args.world.now)) (g.S.Side.places (g.W.World.view c.loop-conf.world))
    c.loop-conf.invariant.0 c.in-Err.fault c.unopened_at.result
    (g.S.Side.places (g.W.World.view c.open_part.new.world)) c.unopened_at.ensures c.in-Err.ensures.refused
    c.open_part.ensures.others

pub returns-in-Err-clause-only : goal.returns-in-Err-clause-only
returns-in-Err-clause-only g c = g.met.S.Side.more (g.W.World.view c.args.world.now) (g.W.World.view c.loop-conf.world)
    (g.W.World.view c.open_part.new.world) c.loop-conf.invariant.1 c.open_part.ensures.only

pub loop-conf-preserved : goal.loop-conf-preserved
loop-conf-preserved g c =
    let l : c.loop-conf.conf-index < length c.args.confs.now =
    omega (arith, c.loop-conf-test.true, c.loop-conf.auto.conf-index-end) in (
      rw c.push_reserved.ensures.items (opens_next g.S.Side.place_of g.S.Side.told c.args.confs.now c.requires.apart
          c.loop-conf.conf-index c.conf-item.result l c.conf-item.is c.place-place.result.now c.place-place.ensures
          c.loop-conf.parts.items
          (g.S.Side.places (g.W.World.view c.args.world.now)) (g.S.Side.places (g.W.World.view c.loop-conf.world))
          c.loop-conf.invariant.0 c.in-Ok.part
          (g.S.Side.places (g.W.World.view c.open_part.new.world)) c.in-Ok.ensures.opened c.open_part.ensures.others),
      g.met.S.Side.more (g.W.World.view c.args.world.now) (g.W.World.view c.loop-conf.world)
          (g.W.World.view c.open_part.new.world) c.loop-conf.invariant.1 c.open_part.ensures.only,
      omega (arith, c.push_reserved.ensures.len, c.loop-conf.invariant.2),
      c.push_reserved.ensures.capacity ∙ c.loop-conf.invariant.3,
    )
