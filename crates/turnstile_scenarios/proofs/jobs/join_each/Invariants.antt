use Rattle.std.proofs.Common.{◌≡◌, map, All}
use Rattle.turnstile_scenarios.proofs.jobs.join_each.Given as goal

abbrev pub invariant-loop-job : goal.invariant-loop-job
invariant-loop-job g l = record {
  same_table : l.first.table ≡ l.fn.first.table;
  number : l.first.view.number ≡ 0;
  split : map (λ job. job.pass.view.number) l.job-iterator.rest.items ≡ l.first.view.split;
  same_tables : All (λ job. job.pass.table ≡ l.fn.stile.table) l.job-iterator.rest.items;
}
