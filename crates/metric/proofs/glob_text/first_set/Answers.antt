use Rattle.std.proofs.Common.{sym, ◌∙◌}
use Rattle.metric.proofs.GlobTextLemmas.{unended, ended}
use Rattle.metric.proofs.glob_text.first_set.Goals as goal

pub returns-in_default-clause-value : goal.returns-in_default-clause-value
returns-in_default-clause-value c = unended _ (sym c.end_of_set.ensures.index ∙ c.in_default.is)

pub returns-in_default-2-clause-value : goal.returns-in_default-2-clause-value
returns-in_default-2-clause-value c =
    ended _ _ _ (sym c.end_of_set.ensures.index ∙ c.in-Some.is) (sym c.in_default-2.is ∙ c.in_ok-set.ensures)

pub returns-clause-value : goal.returns-clause-value
returns-clause-value c =
    ended _ _ _ (sym c.end_of_set.ensures.index ∙ c.in-Some.is) (sym c.in-Some-2.is ∙ c.in_ok-set.ensures)
