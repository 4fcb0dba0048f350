use Rattle.std.proofs.Common.{◌≤◌, All}
use Rattle.statsd_server.specs.declared.datagrams.Dgram.{Dgram}
use Rattle.statsd_server.specs.Datagrams.{bytes_in}
use Rattle.agent_scenarios.proofs.serving.datagrams_in.Given as goal

abbrev pub invariant-loop-line : goal.invariant-loop-line
invariant-loop-line l = All (λ (d : Dgram). bytes_in d ≤ 65535) l.list.items
