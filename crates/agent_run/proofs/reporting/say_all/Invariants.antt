use Rattle.std.proofs.Common.{◌≡◌}
use Rattle.agent_run.proofs.reporting.say_all.Given as goal

abbrev pub invariant-loop-line : goal.invariant-loop-line
invariant-loop-line g l = record { same : g.W.World.view l.world ≡ g.W.World.view l.fn.world }
