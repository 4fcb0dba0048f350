use Rattle.metric.proofs.MetricLemmas.{built_tags}
use Rattle.metric.proofs.builder.Builder.tag.Goals as goal

pub invariant_of-self : goal.invariant_of-self
invariant_of-self c = built_tags _ _ _ _ _ c.utf8.key c.utf8.value c.self.invariant c.put_tag.ensures.ok
    c.put_tag.ensures.err
