use Rattle.std.proofs.Common.{◌≡◌, ◌++◌, drop}
use Rattle.agent_config.specs.Found.{at, founds_view, wrongs_view}
use Rattle.agent_config.proofs.adding.add_at.Given as goal

abbrev pub invariant-loop-wrong : goal.invariant-loop-wrong
invariant-loop-wrong l =
    founds_view l.founds.items ++ at l.class l.number (wrongs_view (drop l.wrong-index l.wrongs))
    ≡ founds_view l.fn.founds.items ++ at l.class l.number (wrongs_view l.wrongs)
