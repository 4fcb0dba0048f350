use Rattle.std.proofs.Common.{◌≡◌, ◌++◌, drop}
use Rattle.agent_config.specs.Faults.{spelling_faults}
use Rattle.agent_config.specs.Found.{wrongs_view}
use Rattle.agent_config.specs.Seen.{now_of}
use Rattle.agent_config.proofs.adding.Findings.check_spelling.Given as goal

abbrev pub invariant-loop-text : goal.invariant-loop-text
invariant-loop-text l =
    wrongs_view l.self.wrongs.items ++ spelling_faults l.key l.spelled (now_of (drop l.text-index l.texts))
    ≡ wrongs_view l.fn.self.wrongs.items ++ spelling_faults l.key l.spelled (now_of l.texts)
