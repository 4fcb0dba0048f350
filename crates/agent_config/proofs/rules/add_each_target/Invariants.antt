use Rattle.std.proofs.Common.{◌≡◌, ◌++◌, List}
use Rattle.std.specs.Prelude.{map}
use Rattle.metric.specs.declared.glob.Element.{Element}
use Rattle.agent_config.proofs.rules.add_each_target.Given as goal

abbrev pub invariant-loop-glob : goal.invariant-loop-glob
invariant-loop-glob l =
    l.rules.items ≡ l.fn.rules.items ++ map (λ (glob : List Element). (l.target, glob)) l.yielded
