use Rattle.std.proofs.Common.{◌≡◌, ◌<◌, ℕ, length, None}
use Rattle.statsd_server.specs.Table.{value_at}
use Rattle.statsd_server.proofs.table.empty.Given as goal

abbrev pub invariant-loop-at : goal.invariant-loop-at
invariant-loop-at g l = record {
  count : length l.values.items ≡ length l.fn.values.items;
  end : l.at-end ≡ length l.fn.values.items;
  none : (at : ℕ) → at < l.at → value_at l.values.items at ≡ None;
}
