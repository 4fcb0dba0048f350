use Rattle.std.proofs.Common.{◌≡◌, true, sym, subst, ◌∙◌}
use Rattle.metric_filter.specs.Filter.{keeps_all}
use Rattle.metric_filter.specs.declared.rules.FilterRules.{FilterRules}
use Rattle.metric_filter.proofs.LeftLemmas.{left_itself}
use Rattle.metric_filter.proofs.filter.Filter.left_of.Goals as goal

pub returns-then-keeps_all-clause-answer : goal.returns-then-keeps_all-clause-answer
returns-then-keeps_all-clause-answer c =
    sym (left_itself c.args.self.now c.args.m
    (subst (λ (rules : FilterRules). keeps_all rules c.args.m ≡ true) c.self.view_is
    (sym c.keeps_all.ensures ∙ c.if-keeps_all.true)) c.shows_metric.ensures.some)
