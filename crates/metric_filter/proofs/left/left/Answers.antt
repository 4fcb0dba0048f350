use Rattle.std.proofs.Common.{rules, ◌∙◌}
use Rattle.std.specs.Int.{w64}
use Rattle.std.proofs.lemmas.Int.{to_z-of_z}
use Rattle.std.proofs.lemmas.Grind.{common_steps}
use Rattle.std.proofs.Common.{arith}
use Rattle.metric_filter.proofs.LeftLemmas.{left_metric, kept_carried}
use Rattle.metric_filter.proofs.left.left.Goals as goal

pub of-requires-3 : goal.of-requires-3
of-requires-3 c =
    let rules_now = c.args.rules.now in
    let m = c.args.m.now in
    left_metric rules_now m _ _ _ _ c.shows_metric.ensures
    (rw c.of-2.ensures (grind (arith, common_steps)))
    (c.in_ok-copy.ensures ∙ c.name.ensures.name)
    (c.of.ensures
    ∙ kept_carried _ _ rules_now.taginclude _ rules_now.tagexclude _ m.tags c.in_ok-kept_pairs.ensures
    c.as_slice-include-2.ensures c.as_slice-exclude-2.ensures c.tags.ensures)
    (c.of-2.ensures
    ∙ kept_carried _ _ rules_now.fieldinclude _ rules_now.fieldexclude _ m.fields c.in_ok-fields.ensures
    c.as_slice-include.ensures c.as_slice-exclude.ensures c.fields.ensures)
    (to_z-of_z w64 c.time.result (search rules) ∙ c.time.ensures)
