use Rattle.statsd_server.proofs.StandingLemmas.{failed_count, failed_same, packet_count, packet_serving}
use Rattle.statsd_server.proofs.StandingLemmas.{packet_taken}
use Rattle.statsd_server.proofs.standing.Standing.packet.Goals as goal

pub invariant_of-self : goal.invariant_of-self
invariant_of-self c = record {
  serving = packet_serving c.packet.result _ _ c.args.bytes.now c.args.self.now.serving c.packet.ensures.ok
      c.packet.ensures.err;
}

pub returns-clause-taken : goal.returns-clause-taken
returns-clause-taken c =
    packet_taken c.packet.result _ _ c.args.self.now.serving c.self-1.given.0 c.args.bytes.now c.packet.ensures.ok

pub returns-clause-count : goal.returns-clause-count
returns-clause-count c =
    packet_count c.packet.result _ _ c.args.self.now.serving c.args.bytes.now c.packet.ensures.ok

pub returns-clause-err : goal.returns-clause-err
returns-clause-err c =
    failed_same c.packet.result _ _ c.args.self.now.serving c.self-1.given.0 c.packet.ensures.err

pub returns-clause-stays : goal.returns-clause-stays
returns-clause-stays c = failed_count c.packet.result _ _ c.args.self.now.serving c.packet.ensures.err
