use Rattle.std.proofs.Common.{◌≡◌, ◌≤◌, ◌+◌, drop, length, option_map}
use Rattle.agent_config.specs.Naming.{first_at}
use Rattle.agent_config.specs.Plugins.{plugins_view}
use Rattle.agent_config.proofs.naming.first_at.Given as goal

abbrev pub invariant-loop-number : goal.invariant-loop-number
invariant-loop-number l = record {
  within : l.number ≤ length l.plugins;
  counted : first_at l.class l.place (plugins_view l.plugins)
      ≡ option_map (λ k. k + l.number) (first_at l.class l.place (plugins_view (drop l.number l.plugins)));
}
