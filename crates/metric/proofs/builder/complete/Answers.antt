use Rattle.std.proofs.lemmas.Int.{to_z-of_z}
use Rattle.std.proofs.Common.{ℤ, arith, sym, ap, subst, ◌∙◌, length, false}
use Rattle.std.specs.Int.{w64}
use Rattle.std.specs.Prelude.{◌==◌, ◌≡◌, ◌<◌, List, ℕ, Bool, FitsSigned, Ok}
use Rattle.std.proofs.lemmas.Bool.{eqb-false}
use Rattle.metric.specs.Building.{Parts, IsBuilt, parts_of, finished}
use Rattle.metric.specs.Metric.{IsMetric}
use Rattle.metric.specs.Pairs.{has_empty_key, has_empty_value, with_values}
use Rattle.metric.specs.declared.metric.Content.{Content}
use Rattle.metric.specs.declared.value.Value.{Value}
use Rattle.metric.proofs.MetricLemmas.{is_metric, all_valued}
use Rattle.metric.proofs.builder.complete.Goals.{After-tag_without_value}
use Rattle.metric.proofs.builder.complete.Goals as goal

-- the parts, with other tags and a time
abbrev content_with : Parts → ℤ → List (List ℕ × List ℕ) → Content
content_with p time tags = record { name = p.name; tags = tags; fields = p.fields; time = time }

-- nothing is wrong with the parts
record AreWhole (p : Parts) : Type 0 where
  name : (length p.name == 0) ≡ false
  tags : has_empty_key p.tags ≡ false
  fields : has_empty_key p.fields ≡ false
  some : (length p.fields == 0) ≡ false

some_field : (fields : List (List ℕ × Value)) → (length fields == 0) ≡ false → 0 < length fields
some_field fields e = let ne : length fields ≡ 0 → ⊥ = eqb-false (length fields) 0 e in omega arith

whole_metric : (p : Parts) (time : ℤ) → IsBuilt p → FitsSigned w64 time → AreWhole p
    → IsMetric (content_with p time (with_values p.tags))
whole_metric p time built fits h = is_metric p time built fits h.name h.tags h.fields (some_field p.fields h.some)

whole_finished : (p : Parts) (time : ℤ) → AreWhole p → has_empty_value p.tags ≡ false
    → finished p time ≡ Ok (content_with p time p.tags)
whole_finished p time h valued =
    rw (h.name, h.tags, h.fields, h.some) (ap (λ (tags : List (List ℕ × List ℕ)). Ok (content_with p time tags))
    (sym (all_valued p.tags valued)))

-- what the calls that look for a fault answered, of the texts and lists that they were given
are_whole : (p : Parts) (name : List ℕ) (tags : List (List ℕ × List ℕ))
    (fields some : List (List ℕ × Value)) {no_name no_tag no_field none : Bool}
    → name ≡ p.name → no_name ≡ (length name == 0) → no_name ≡ false
    → tags ≡ p.tags → no_tag ≡ has_empty_key tags → no_tag ≡ false
    → fields ≡ p.fields → no_field ≡ has_empty_key fields → no_field ≡ false
    → some ≡ p.fields → none ≡ (length some == 0) → none ≡ false → AreWhole p
are_whole p name tags fields some n n-is n-not t t-is t-not f f-is f-not s s-is s-not = record {
  name = ap (λ (text : List ℕ). length text == 0) (sym n) ∙ sym n-is ∙ n-not;
  tags = ap has_empty_key (sym t) ∙ sym t-is ∙ t-not;
  fields = ap has_empty_key (sym f) ∙ sym f-is ∙ f-not;
  some = ap (λ (fs : List (List ℕ × Value)). length fs == 0) (sym s) ∙ sym s-is ∙ s-not;
}

-- what holds once no fault was found
whole : (c : After-tag_without_value) → AreWhole (parts_of c.args.content.now)
whole c =
    are_whole (parts_of c.args.content.now) _ _ _ _ c.as_str.ensures c.is_empty.ensures c.if-is_empty.false
    c.as_slice-tags.ensures c.tag_without_key.ensures c.if-tag_without_key.false c.as_slice.ensures
    c.field_without_key.ensures c.if-field_without_key.false
    c.as_slice-2.ensures c.is_empty-2.ensures c.if-is_empty-2.false

pub returns-in_ok-leave_out_empty-clause-metric : goal.returns-in_ok-leave_out_empty-clause-metric
returns-in_ok-leave_out_empty-clause-metric c =
    let h = whole (goal.at.returns-in_ok-leave_out_empty-clause-metric c).After-tag_without_value in
    rw (c.in_ok-leave_out_empty.ensures, to_z-of_z w64 c.args.time c.ranges.time)
    (whole_metric (parts_of c.args.content.now) c.args.time c.requires c.ranges.time h)

pub returns-else-tag_without_value-clause-completes : goal.returns-else-tag_without_value-clause-completes
returns-else-tag_without_value-clause-completes c =
    let h = whole (goal.at.returns-else-tag_without_value-clause-completes c).After-tag_without_value in
    let valued = ap has_empty_value (sym c.as_slice-tags.ensures) ∙ sym c.tag_without_value.ensures
    ∙ c.if-tag_without_value.false in
    rw (to_z-of_z w64 c.args.time c.ranges.time) (whole_finished (parts_of c.args.content.now) c.args.time h valued)

pub returns-else-tag_without_value-clause-metric : goal.returns-else-tag_without_value-clause-metric
returns-else-tag_without_value-clause-metric c =
    let h = whole (goal.at.returns-else-tag_without_value-clause-metric c).After-tag_without_value in
    let valued = ap has_empty_value (sym c.as_slice-tags.ensures) ∙ sym c.tag_without_value.ensures
    ∙ c.if-tag_without_value.false in
    rw (to_z-of_z w64 c.args.time c.ranges.time)
    (subst (λ (tags : List (List ℕ × List ℕ)). IsMetric (content_with (parts_of c.args.content.now) c.args.time tags))
    (sym (all_valued c.args.content.now.tags valued))
    (whole_metric (parts_of c.args.content.now) c.args.time c.requires c.ranges.time h))
