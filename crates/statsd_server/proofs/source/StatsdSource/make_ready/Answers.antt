use Rattle.std.proofs.Common.{◌≡◌, [], rules}
use Rattle.statsd_server.specs.Outgoing.{text_in}
use Rattle.statsd_server.specs.Receiving.{text_of}
use Rattle.statsd_server.proofs.OutgoingLemmas.{at_end, ended_text, gathered_text}
use Rattle.statsd_server.proofs.source.StatsdSource.make_ready.Goals as goal

pub returns-in-Some-clause-same : goal.returns-in-Some-clause-same
returns-in-Some-clause-same g c =
    let none : text_in c.args.self.now.outgoing ≡ [] = search rules in
    gathered_text (text_of c.args.self.now.receiving) (text_of c.receive.new.self) (text_of c.gathered.new.self)
    (g.D.Datagrams.told c.args.self.now.datagrams).left (g.D.Datagrams.told c.receive.new.datagrams).left
    (text_in c.args.self.now.outgoing) _ c.in_ok-metrics.field-0 c.in-Some.metrics
    (text_in c.accept.new.self) c.in-Some.is none c.accept.ensures c.receive.ensures.same c.in_ok-metrics.ensures.given

pub returns-in-None-clause-same : goal.returns-in-None-clause-same
returns-in-None-clause-same g c =
    ended_text (text_of c.args.self.now.receiving) (text_of c.receive.new.self) (text_of c.gathered.new.self)
    (g.D.Datagrams.told c.args.self.now.datagrams).left (g.D.Datagrams.told c.receive.new.datagrams).left
    (text_in c.args.self.now.outgoing) _ c.in_ok-metrics.field-0 c.in-None.is c.receive.ensures.same
    c.in_ok-metrics.ensures.given

pub returns-in-None-clause-ready : goal.returns-in-None-clause-ready
returns-in-None-clause-ready g c = λ none.
    at_end (text_of c.args.self.now.receiving) (text_of c.receive.new.self) (text_of c.gathered.new.self)
    (g.D.Datagrams.told c.args.self.now.datagrams).left (g.D.Datagrams.told c.receive.new.datagrams).left
    (text_in c.args.self.now.outgoing) _ c.in_ok-metrics.field-0 c.in-None.is none c.in_ok-metrics.ensures.given
