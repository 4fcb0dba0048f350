use Rattle.std.proofs.Common.{◌≡◌}
use Rattle.turnstile_scenarios.proofs.adders.CounterWorkSum.run.Given as goal

abbrev pub invariant-loop : goal.invariant-loop
invariant-loop g l = record {
  same_table : l.pass.table ≡ l.fn.pass.table;
  number : l.pass.view.number ≡ l.fn.pass.view.number;
}
