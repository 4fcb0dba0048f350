use Rattle.std.proofs.Common.{◌≡◌, ◌++◌, drop}
use Rattle.agent_config.specs.Seen.{now_of}
use Rattle.agent_config.specs.Filters.{globs_of}
use Rattle.agent_config.proofs.filters.add_globs.Given as goal

abbrev pub invariant-loop-text : goal.invariant-loop-text
invariant-loop-text l =
    l.globs.items ++ globs_of (now_of (drop l.text-index l.texts))
    ≡ l.fn.globs.items ++ globs_of (now_of l.texts)
