use Rattle.std.proofs.Common.{◌≡◌, ◌<◌, ◌∙◌, List, ap, arith, length, subst, sym}
use Rattle.std.specs.Int.{w64}
use Rattle.std.specs.List.{flat_map, AllByRecursion}
use Rattle.std.specs.Prelude.{FitsSigned}
use Rattle.std.proofs.lemmas.Bool.{eqb-false, eqb-true}
use Rattle.std.proofs.lemmas.Int.{to_z-of_z}
use Rattle.metric.specs.Draft.{Field}
use Rattle.metric.specs.Metric.{IsField}
use Rattle.metric.specs.Series.{Series}
use Rattle.metric.specs.declared.metric.Content.{Content}
use Rattle.agg_stats.specs.Asked.{given_of}
use Rattle.agg_stats.specs.Folds.{metric_at}
use Rattle.agg_stats.proofs.GivenLemmas.{is_metric, made_none, made_some}
use Rattle.agg_stats.proofs.give.metric_of.Goals as goal

pub returns-then-is_empty : goal.returns-then-is_empty
returns-then-is_empty c =
    let row = c.args.row.now.row in
    let fields = c.in_ok-fields.fields in
    let empty = eqb-true fields.len 0 (sym c.is_empty.ensures ∙ c.if-is_empty.true) in
    let none : length fields.items ≡ 0 = omega (arith, empty, fields.ok.0) in
    made_none c.args.time row.0 fields.items none
    ∙ ap (metric_at c.args.time row.0) (c.in_ok-fields.ensures.given
    ∙ ap (flat_map (given_of c.args.asked)) c.sums.ensures.sums)

pub of-requires-2 : goal.of-requires-2
of-requires-2 c =
    let row = c.args.row.now.row in
    let fields = c.in_ok-fields.fields in
    let some = eqb-false fields.len 0 (sym c.is_empty.ensures ∙ c.if-is_empty.false) in
    let filled : 0 < length fields.items = omega (arith, some, fields.ok.0) in
    is_metric c.metric-metric.result.now _ c.args.asked row.1 c.shows_metric.ensures c.sums.ensures.valid.distinct
    (c.in_ok-copy.ensures ∙ c.name.ensures.name) (c.in_ok-tag_copies.ensures ∙ c.tags.ensures)
    (c.of.ensures ∙ c.in_ok-fields.ensures.given ∙ ap (flat_map (given_of c.args.asked)) c.sums.ensures.sums)
    (subst (λ (list : List Field). AllByRecursion IsField list) (sym c.of.ensures) c.in_ok-fields.ensures.valid)
    (subst (λ (list : List Field). 0 < length list) (sym c.of.ensures) filled)
    (subst (FitsSigned w64) (sym (to_z-of_z w64 c.args.time c.ranges.time)) c.ranges.time)

pub returns : goal.returns
returns c =
    let row = c.args.row.now.row in
    let fields = c.in_ok-fields.fields in
    let some = eqb-false fields.len 0 (sym c.is_empty.ensures ∙ c.if-is_empty.false) in
    let filled : 0 < length fields.items = omega (arith, some, fields.ok.0) in
    let given = c.of.ensures ∙ c.in_ok-fields.ensures.given
    ∙ ap (flat_map (given_of c.args.asked)) c.sums.ensures.sums in
    let new : Content = c.in_ok-of.field-0 in
    let same = c.in_ok-of.ensures in
    sym (made_some c.args.time row.0 new
    (subst (λ (list : List Field). 0 < length list) (sym (ap (λ (m : Content). m.fields) same ∙ c.of.ensures)) filled)
    (ap (λ (m : Content). m.name) same ∙ c.in_ok-copy.ensures ∙ c.name.ensures.name
    ∙ ap (λ (s : Series). s.0) c.metric-metric.ensures)
    (ap (λ (m : Content). m.tags) same ∙ c.in_ok-tag_copies.ensures ∙ c.tags.ensures
    ∙ ap (λ (s : Series). s.1) c.metric-metric.ensures)
    (ap (λ (m : Content). m.time) same ∙ to_z-of_z w64 c.args.time c.ranges.time))
    ∙ ap (metric_at c.args.time row.0) (ap (λ (m : Content). m.fields) same ∙ given)
