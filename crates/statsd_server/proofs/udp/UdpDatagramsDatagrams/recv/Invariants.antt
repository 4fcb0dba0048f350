use Rattle.std.proofs.Common.{◌≡◌}
use Rattle.statsd_server.proofs.udp.UdpDatagramsDatagrams.recv.Given as goal

abbrev pub invariant-loop : goal.invariant-loop
invariant-loop l = l.self.faults ≡ l.fn.self.faults
