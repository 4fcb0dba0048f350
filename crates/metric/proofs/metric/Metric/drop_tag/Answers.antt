use Rattle.metric.proofs.ChangeLemmas.{after, tag_gone}
use Rattle.metric.proofs.metric.Metric.drop_tag.Goals as goal

pub invariant_of-self : goal.invariant_of-self
invariant_of-self c =
    after _ _ _ _ c.drop_tag.ensures.ok c.drop_tag.ensures.err (tag_gone _ _ c.self.invariant) c.self.invariant
