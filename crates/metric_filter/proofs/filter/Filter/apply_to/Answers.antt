use Rattle.std.proofs.Common.{sym, ◌∙◌}
use Rattle.metric_filter.proofs.LeftLemmas.{no_rule_applied, no_rule_keeps_all}
use Rattle.metric_filter.proofs.filter.Filter.apply_to.Goals as goal

pub returns-then-has_no_rule-clause-answer : goal.returns-then-has_no_rule-clause-answer
returns-then-has_no_rule-clause-answer c =
    sym (no_rule_applied c.args.self.now c.args.m (sym c.has_no_rule.ensures ∙ c.if-has_no_rule.true)
    c.shows_metric.ensures.some)

pub returns-then-has_no_rule-clause-same : goal.returns-then-has_no_rule-clause-same
returns-then-has_no_rule-clause-same c =
    sym (no_rule_keeps_all c.args.self.now c.args.m (sym c.has_no_rule.ensures ∙ c.if-has_no_rule.true))
