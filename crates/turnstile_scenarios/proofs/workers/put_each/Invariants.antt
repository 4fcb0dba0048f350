use Rattle.std.proofs.Common.{◌≡◌}
use Rattle.turnstile_scenarios.specs.Gained.{GainedPuts}
use Rattle.turnstile_scenarios.proofs.workers.put_each.Given as goal

abbrev pub invariant-loop : goal.invariant-loop
invariant-loop g l = record {
  can : (goal.iterator-loop g).can_next l.iterator' × (goal.iterator-loop g).is_finite l.iterator';
  same_table : l.pass.table ≡ l.fn.pass.table;
  number : l.pass.view.number ≡ l.fn.pass.view.number;
  gained : GainedPuts l.fn.pass.view l.pass.view;
}
