use Rattle.std.proofs.Common.{◌≡◌, take}
use Rattle.metric.specs.Pairs.{in_key_order}
use Rattle.statsd_server.proofs.served.put_tags.Given as goal

abbrev pub invariant-loop-key : goal.invariant-loop-key
invariant-loop-key l = l.builder ≡ record l.fn.builder { tags = in_key_order (take l.key-index l.tags) }
