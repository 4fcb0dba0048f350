use Rattle.std.proofs.Common.{◌≡◌, ◌++◌, drop}
use Rattle.agent_config.specs.Seen.{now_of}
use Rattle.agent_config.specs.Values.{templates_of}
use Rattle.agent_config.proofs.templates.templates_of.Given as goal

abbrev pub invariant-loop-text : goal.invariant-loop-text
invariant-loop-text l =
    l.templates.items ++ templates_of (now_of (drop l.text-index l.texts)) ≡ templates_of (now_of l.texts)
