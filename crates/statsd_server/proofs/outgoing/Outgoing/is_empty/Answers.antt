use Rattle.std.proofs.Common.{◌≡◌, ◌≤◌, length, vec_len, rules}
use Rattle.statsd_server.proofs.OutgoingLemmas.{nothing_told, some_told}
use Rattle.statsd_server.proofs.outgoing.Outgoing.is_empty.Goals as goal

pub returns-then-self-len : goal.returns-then-self-len
returns-then-self-len c =
    let s = c.args.self.now in
    let len : c.len.result ≡ length s.text.items = search rules in
    let count : vec_len s.metrics ≡ length s.metrics.items = search rules in
    nothing_told s.text.items s.at s.metrics.items (vec_len s.metrics) c.len.result c.is_empty.result
    c.if-self-len.true len count c.is_empty.ensures

pub returns-else-self-len : goal.returns-else-self-len
returns-else-self-len c =
    let s = c.args.self.now in
    let len : c.len.result ≡ length s.text.items = search rules in
    let within : s.at ≤ length s.text.items = search rules in
    some_told s.text.items s.at s.metrics.items c.len.result within c.if-self-len.false len
