use Rattle.std.proofs.Common.{◌≡◌, map, take}
use Rattle.metric.specs.Pairs.{in_key_order}
use Rattle.openmetrics_text.specs.Views.{label_view}
use Rattle.openmetrics_text.proofs.collected.put_labels.Given as goal

abbrev pub invariant-loop-label : goal.invariant-loop-label
invariant-loop-label l = record {
  name : l.builder.name ≡ l.fn.builder.name;
  tags : l.builder.tags ≡ in_key_order (map label_view (take l.label-index l.labels));
  fields : l.builder.fields ≡ l.fn.builder.fields;
}
