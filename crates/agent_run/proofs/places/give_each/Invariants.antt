use Rattle.std.proofs.Common.{length, map, take}
use Rattle.agent_run.specs.PlaceLists.{AreGiven}
use Rattle.agent_run.proofs.places.give_each.Given as goal

abbrev pub invariant-loop-conf : goal.invariant-loop-conf
invariant-loop-conf g l =
    AreGiven (take (length l.yielded) (map g.S.Side.place_of l.confs))
    (take (length l.yielded) (map g.S.Side.told l.fn.parts.items)) (g.S.Side.places (g.W.World.view l.fn.world))
    (g.S.Side.places (g.W.World.view l.world))
    × g.S.Side.only (g.W.World.view l.fn.world) (g.W.World.view l.world)
