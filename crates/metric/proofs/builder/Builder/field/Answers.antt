use Rattle.metric.proofs.MetricLemmas.{built_fields}
use Rattle.metric.proofs.builder.Builder.field.Goals as goal

pub invariant_of-self : goal.invariant_of-self
invariant_of-self c = built_fields _ _ _ _ _ c.utf8.key c.shows_value.ensures c.self.invariant c.put_field.ensures.ok
    c.put_field.ensures.err
