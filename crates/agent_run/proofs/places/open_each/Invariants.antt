use Rattle.std.proofs.Common.{◌≡◌, map, take}
use Rattle.std.specs.Prelude.{vec_len, vec_capacity}
use Rattle.agent_run.specs.PlaceLists.{AreOpened}
use Rattle.agent_run.proofs.places.open_each.Given as goal

abbrev pub invariant-loop-conf : goal.invariant-loop-conf
invariant-loop-conf g l =
    AreOpened (take l.conf-index (map g.S.Side.place_of l.confs)) (map g.S.Side.told l.parts.items)
    (g.S.Side.places (g.W.World.view l.fn.world)) (g.S.Side.places (g.W.World.view l.world))
    × g.S.Side.only (g.W.World.view l.fn.world) (g.W.World.view l.world)
    × (vec_len l.parts ≡ l.conf-index)
    × (vec_capacity l.parts ≡ vec_capacity l.fn.parts)
