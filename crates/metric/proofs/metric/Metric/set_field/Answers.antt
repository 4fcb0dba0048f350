use Rattle.metric.proofs.ChangeLemmas.{after, field_set}
use Rattle.metric.proofs.metric.Metric.set_field.Goals as goal

pub invariant_of-self : goal.invariant_of-self
invariant_of-self c =
    after _ _ _ _ c.set_field.ensures.ok c.set_field.ensures.err
    (field_set _ _ _ c.requires c.utf8.key c.shows_value.ensures c.self.invariant) c.self.invariant
