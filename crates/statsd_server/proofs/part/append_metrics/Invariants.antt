use Rattle.std.proofs.Common.{◌≡◌, ◌++◌, drop, map}
use Rattle.statsd_server.specs.Kept.{said_by}
use Rattle.statsd_server.proofs.part.append_metrics.Given as goal

abbrev pub invariant-loop-metric : goal.invariant-loop-metric
invariant-loop-metric l =
    l.parts.items ++ map said_by (drop l.metric-index l.metrics) ≡ l.fn.parts.items ++ map said_by l.metrics
