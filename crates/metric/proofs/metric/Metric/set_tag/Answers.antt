use Rattle.metric.proofs.ChangeLemmas.{after, tag_set}
use Rattle.metric.proofs.metric.Metric.set_tag.Goals as goal

pub invariant_of-self : goal.invariant_of-self
invariant_of-self c =
    after _ _ _ _ c.set_tag.ensures.ok c.set_tag.ensures.err
    (tag_set _ _ _ c.requires.key c.utf8.key c.requires.value c.utf8.value c.self.invariant) c.self.invariant
