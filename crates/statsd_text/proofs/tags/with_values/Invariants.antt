use Rattle.std.proofs.Common.{◌≡◌, ◌++◌}
use Rattle.metric.specs.Pairs.{with_values}
use Rattle.statsd_text.proofs.tags.with_values.Given as goal

abbrev pub invariant-loop-key : goal.invariant-loop-key
invariant-loop-key l = l.kept.items ++ with_values l.key-iterator ≡ with_values l.fn.tags.entries
