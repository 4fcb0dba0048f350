use Rattle.std.proofs.Common.{◌≡◌, ◌++◌, take}
use Rattle.statsd_server.specs.Groups.{lines_text}
use Rattle.statsd_server.proofs.outgoing.append_lines.Given as goal

abbrev pub invariant-loop-metric : goal.invariant-loop-metric
invariant-loop-metric l = l.out.items ≡ l.fn.out.items ++ lines_text (take l.metric-index l.metrics)
