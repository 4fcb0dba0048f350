use Rattle.statsd_server.specs.Groups.{lines_text}
use Rattle.statsd_server.proofs.OutgoingLemmas.{handed_out}
use Rattle.statsd_server.proofs.outgoing.Outgoing.hand_out.Goals as goal

pub returns-clause-given : goal.returns-clause-given
returns-clause-given c =
    let s = c.args.self.now in
    handed_out s.text.items c.as_slice.result.now _ (lines_text s.metrics.items) s.at c.copy_front-count.result
    c.as_slice.ensures.value c.copy_front-count.ensures.given
