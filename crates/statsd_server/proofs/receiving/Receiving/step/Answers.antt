use Rattle.statsd_server.specs.Receiving.{rule_of, text_of}
use Rattle.statsd_server.proofs.StepLemmas.{end_keeps, packet_keeps, quiet_keeps}
use Rattle.statsd_server.proofs.receiving.Receiving.step.Goals as goal

pub returns-in-Ok-Packet-clause-same : goal.returns-in-Ok-Packet-clause-same
returns-in-Ok-Packet-clause-same g c =
    let s = c.args.self.now in
    packet_keeps s.standing.server s.standing.serving (rule_of s) c.args.quiets s.stage c.in-Ok-Packet.field-0
    c.in-Ok-Packet.size s.buffer.items c.receive_into.new.buffer.items
    (g.D.Datagrams.told c.args.datagrams.now).left (g.D.Datagrams.told c.receive_into.new.datagrams).left
    (text_of c.take_pending.new.self) c.requires c.in-Ok-Packet.field-0-is c.in-Ok-Packet.ensures.takes
    c.take_pending.ensures.same

pub returns-in-Ok-Quiet-clause-same : goal.returns-in-Ok-Quiet-clause-same
returns-in-Ok-Quiet-clause-same g c =
    let s = c.args.self.now in
    quiet_keeps s.standing.server s.standing.serving (rule_of s) c.args.quiets s.stage c.behind_quiet-self.result
    c.in-Ok-Quiet.field-0 s.buffer.items c.receive_into.new.buffer.items
    (g.D.Datagrams.told c.args.datagrams.now).left (g.D.Datagrams.told c.receive_into.new.datagrams).left
    c.requires c.in-Ok-Quiet.field-0-is (rw c.packets.ensures at c.behind_quiet-self.ensures)
    c.in-Ok-Quiet.ensures.takes

pub returns-in-Ok-End-clause-same : goal.returns-in-Ok-End-clause-same
returns-in-Ok-End-clause-same g c =
    let s = c.args.self.now in
    end_keeps s.standing.server s.standing.serving (rule_of s) c.args.quiets s.stage c.behind_end-self.result
    c.in-Ok-End.field-0 s.buffer.items c.receive_into.new.buffer.items
    (g.D.Datagrams.told c.args.datagrams.now).left (g.D.Datagrams.told c.receive_into.new.datagrams).left
    c.requires c.in-Ok-End.field-0-is (rw c.packets-in-Ok-End.ensures at c.behind_end-self.ensures)
    c.in-Ok-End.ensures.takes
