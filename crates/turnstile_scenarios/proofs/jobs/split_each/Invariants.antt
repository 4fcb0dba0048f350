use Rattle.std.proofs.Common.{◌≡◌, ◌+◌, [], map, length, All}
use Rattle.turnstile_scenarios.proofs.jobs.split_each.Given as goal

abbrev pub invariant-loop-work : goal.invariant-loop-work
invariant-loop-work g l = record {
  same_table : l.first.table ≡ l.fn.first.table;
  number : l.first.view.number ≡ 0;
  none_joined : l.first.view.joined ≡ [];
  split : map (λ job. job.pass.view.number) l.jobs.items ≡ l.first.view.split;
  same_tables : All (λ job. job.pass.table ≡ l.fn.stile.table) l.jobs.items;
  left : length l.jobs.items + length l.work-iterator.rest.items ≡ length l.fn.works.items;
}
