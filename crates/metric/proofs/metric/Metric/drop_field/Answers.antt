use Rattle.metric.proofs.ChangeLemmas.{after, field_gone}
use Rattle.metric.proofs.metric.Metric.drop_field.Goals as goal

pub invariant_of-self : goal.invariant_of-self
invariant_of-self c =
    after _ _ _ _ c.drop_field.ensures.ok c.drop_field.ensures.err (field_gone _ _ c.self.invariant) c.self.invariant
