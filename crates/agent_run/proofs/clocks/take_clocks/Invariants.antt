use Rattle.std.proofs.Common.{◌≡◌, map}
use Rattle.std.specs.Prelude.{vec_len, vec_capacity}
use Rattle.agent_run.specs.ClockLists.{AreTaken, OnlyClocks}
use Rattle.agent_run.proofs.clocks.take_clocks.Given as goal

abbrev pub invariant-loop-k : goal.invariant-loop-k
invariant-loop-k g l =
    AreTaken l.first l.k (map g.W.Clk.Clock.told l.clocks.items) (g.W.World.view l.fn.world).clocks
    (g.W.World.view l.world).clocks
    × OnlyClocks (g.W.World.view l.fn.world) (g.W.World.view l.world)
    × (vec_len l.clocks ≡ l.k)
    × (vec_capacity l.clocks ≡ vec_capacity l.fn.clocks)
