use Rattle.std.proofs.Common.{subst}
use Rattle.std.specs.Str.{IsUtf8}
use Rattle.metric.proofs.MetricLemmas.{built_tags}
use Rattle.metric.proofs.builder.Builder.tag_of.Goals as goal

pub invariant_of-self : goal.invariant_of-self
invariant_of-self c =
    let key = subst IsUtf8 c.as_str-key.ensures c.as_str-key.utf8 in
    let value = subst IsUtf8 c.as_str-value.ensures c.as_str-value.utf8 in
    built_tags _ _ _ _ _ key value c.self.invariant c.insert_tag.ensures.ok c.insert_tag.ensures.err
