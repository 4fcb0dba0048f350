use Rattle.std.proofs.Common.{sym, ◌∙◌}
use Rattle.metric.proofs.GlobTextLemmas.{opened, unopened}
use Rattle.metric.proofs.glob_text.first_element.Goals as goal

pub returns-then-is_bare-clause-value : goal.returns-then-is_bare-clause-value
returns-then-is_bare-clause-value c =
    rw (opened _ _ (sym c.is_bare.ensures ∙ c.if-is_bare.true)) c.in_ok-first_set.ensures.value

pub returns-clause-value : goal.returns-clause-value
returns-clause-value c = rw c.single.ensures (unopened _ _ (sym c.is_bare.ensures ∙ c.if-is_bare.false))
