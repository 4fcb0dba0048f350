use Rattle.std.proofs.Common.{◌≡◌, [], take}
use Rattle.metric.specs.Pairs.{in_key_order}
use Rattle.statsd_text.proofs.metrics.put_said.Given as goal

abbrev pub invariant-loop-key : goal.invariant-loop-key
invariant-loop-key l = record {
  name : l.builder.name ≡ l.fn.builder.name;
  tags : l.builder.tags ≡ in_key_order (take l.key-index l.tags);
  fields : l.builder.fields ≡ [];
}
