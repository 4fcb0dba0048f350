use Rattle.std.proofs.Common.{sym, ◌∙◌}
use Rattle.metric.proofs.PairLemmas.{set_pair, push_pair}
use Rattle.metric.proofs.builder.put_field.Goals as goal

pub returns-in-Some-clause-ok : goal.returns-in-Some-clause-ok
returns-in-Some-clause-ok c =
    set_pair _ _ _ _ _ _ _ c.as_slice.ensures c.in_ok-of.ensures c.set.ensures (sym c.field_at.ensures ∙ c.in-Some.is)

pub returns-in_ok-push-in-None-clause-ok : goal.returns-in_ok-push-in-None-clause-ok
returns-in_ok-push-in-None-clause-ok c =
    push_pair _ _ _ _ _ _ c.as_slice.ensures c.in_ok-of.ensures c.in_ok-push-in-None.ensures.ok
    (sym c.field_at.ensures ∙ c.in-None.is)
