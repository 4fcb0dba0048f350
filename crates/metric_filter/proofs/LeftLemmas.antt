-- What is left where each part is kept, and where a part more was looked at.
use Rattle.std.proofs.Common.{◌≡◌, ◌<◌, ◌≤◌, ◌+◌, ◌++◌, ℕ, true, false, List, [], ◌∷◌, length}
use Rattle.std.proofs.Common.{drop, get_or, refl, sym, ap, ◌∙◌, append_assoc}
use Rattle.std.proofs.lemmas.Bool.{and_parts}
use Rattle.std.proofs.lemmas.List.{drop_more, drop_all, append-nil}
use Rattle.metric.specs.declared.glob.Element.{Element}
use Rattle.metric.specs.declared.metric.Content.{Content}
use Rattle.metric_filter.specs.declared.rules.FilterRules.{FilterRules}
use Rattle.metric_filter.specs.Filter.{applied, has_no_rule, keeps, keeps_all, keeps_each, kept, left, selects}
use Rattle.metric_filter.specs.Filter.{with_fields}
use Rattle.metric.specs.Metric.{IsMetric}
use Rattle.metric.proofs.KeptLemmas.{kept as is_kept}
use Rattle.std.specs.Prelude.{◌==◌}
use Rattle.std.proofs.lemmas.Bool.{eqb-false, eqb-true, ne_eqb}
use Rattle.std.proofs.Common.{arith, subst, ℤ, suc, Some}
use Rattle.metric.specs.declared.value.Value.{Value}

module _ {X : Type 0} (include exclude : List (List Element)) where
  kept_all : (pairs : List (List ℕ × X)) → keeps_each include exclude pairs ≡ true
      → kept include exclude pairs ≡ pairs
  kept_all [] h = refl
  kept_all (pair ∷ pairs) h =
      let both = and_parts (keeps include exclude pair.0) (keeps_each include exclude pairs) h in
      rw both.0 (ap (λ ps. pair ∷ ps) (kept_all pairs both.1))

  pub keeps_one : (pairs : List (List ℕ × X)) (i : ℕ) (d : List ℕ × X) (items : List (List ℕ × X))
      → i < length pairs
      → keeps include exclude (get_or pairs i d).0 ≡ true
      → items ++ kept include exclude (drop i pairs) ≡ kept include exclude pairs
      → (items ++ get_or pairs i d ∷ []) ++ kept include exclude (drop (i + 1) pairs)
      ≡ kept include exclude pairs
  keeps_one pairs i d items lt k h =
      append_assoc items (get_or pairs i d ∷ []) _
      ∙ ap (λ ps. items ++ ps) (sym (ap (kept include exclude) (drop_more pairs i d lt) ∙ rw k refl)) ∙ h

  pub leaves_one : (pairs : List (List ℕ × X)) (i : ℕ) (d : List ℕ × X) (items : List (List ℕ × X))
      → i < length pairs
      → keeps include exclude (get_or pairs i d).0 ≡ false
      → items ++ kept include exclude (drop i pairs) ≡ kept include exclude pairs
      → items ++ kept include exclude (drop (i + 1) pairs) ≡ kept include exclude pairs
  leaves_one pairs i d items lt k h =
      ap (λ ps. items ++ ps) (sym (ap (kept include exclude) (drop_more pairs i d lt) ∙ rw k refl)) ∙ h

  pub all_seen : (pairs : List (List ℕ × X)) (i : ℕ) (items : List (List ℕ × X)) → length pairs ≤ i
      → items ++ kept include exclude (drop i pairs) ≡ kept include exclude pairs
      → items ≡ kept include exclude pairs
  all_seen pairs i items past h =
      sym (append-nil items)
      ∙ ap (λ ps. items ++ ps) (ap (kept include exclude) (sym (drop_all i pairs past))) ∙ h

left_whole : (rules : FilterRules) (m : Content)
    → keeps_each rules.fieldinclude rules.fieldexclude m.fields ≡ true
    → keeps_each rules.taginclude rules.tagexclude m.tags ≡ true → left rules m ≡ m
left_whole rules m fields tags =
    rw (
      kept_all rules.fieldinclude rules.fieldexclude m.fields fields,
      kept_all rules.taginclude rules.tagexclude m.tags tags,
    ) refl

-- where each part is kept that is the metric
pub all_left : (rules : FilterRules) (m : Content) → keeps_all rules m ≡ true → left rules m ≡ m
all_left rules m all =
    let both = and_parts (keeps_each rules.fieldinclude rules.fieldexclude m.fields)
    (keeps_each rules.taginclude rules.tagexclude m.tags) all in
    left_whole rules m both.0 both.1

-- so it is a metric that is left
pub left_itself : (rules : FilterRules) (m : Content) → keeps_all rules m ≡ true → 0 < length m.fields
    → with_fields (left rules m) ≡ Some m
left_itself rules m all some =
    let filled : (length m.fields == 0) ≡ false = ne_eqb (length m.fields) 0 (λ z. absurd (omega (arith, z, some))) in
    ap with_fields (all_left rules m all) ∙ rw filled refl

-- what is left is a metric's, where a field is left
pub left_metric : (rules : FilterRules) (m : Content) (name : List ℕ) (tags : List (List ℕ × List ℕ))
    (fields : List (List ℕ × Value)) (time : ℤ) → IsMetric m → (length fields == 0) ≡ false
    → name ≡ m.name → tags ≡ kept rules.taginclude rules.tagexclude m.tags
    → fields ≡ kept rules.fieldinclude rules.fieldexclude m.fields → time ≡ m.time
    → IsMetric (record { name = name; tags = tags; fields = fields; time = time })
left_metric rules m name tags fields time h some n t f z =
    let filled : length fields ≡ 0 → ⊥ = eqb-false (length fields) 0 some in
    let more : 0 < length fields = omega arith in
    rw (n, t, f, z)
    (is_kept m (λ tag. keeps rules.taginclude rules.tagexclude tag.0)
    (λ field. keeps rules.fieldinclude rules.fieldexclude field.0) h (subst (λ fs. 0 < length fs) f more))

pub kept_carried : {X : Type 0} (made : List (List ℕ × X))
    (include include' exclude exclude' : List (List Element)) (pairs pairs' : List (List ℕ × X))
    → made ≡ kept include exclude pairs
    → include ≡ include' → exclude ≡ exclude' → pairs ≡ pairs' → made ≡ kept include' exclude' pairs'
kept_carried made include include' exclude exclude' pairs pairs' e i x p =
    e ∙ (ap (λ i. kept i exclude pairs) i ∙ ap (λ x. kept include' x pairs) x
    ∙ ap (λ p. kept include' exclude' p) p)

-- ---- a filter without rules

none_of : {X : Type 0} (xs : List X) → (length xs == 0) ≡ true → xs ≡ []
none_of [] e = refl
none_of (x ∷ xs) e = let z : suc (length xs) ≡ 0 = eqb-true (suc (length xs)) 0 e in absurd (omega (arith, z))

all_kept : {X : Type 0} (pairs : List (List ℕ × X)) → keeps_each [] [] pairs ≡ true
all_kept [] = refl
all_kept (pair ∷ pairs) = all_kept pairs

-- keeps each part of a metric, and selects it
no_rule_all : (rules : FilterRules) (m : Content) → has_no_rule rules ≡ true
    → (selects rules m ≡ true) × (keeps_all rules m ≡ true)
no_rule_all rules m h =
    let a = and_parts _ (length rules.tagexclude == 0) h in
    let b = and_parts _ (length rules.taginclude == 0) a.0 in
    let c = and_parts _ (length rules.fieldexclude == 0) b.0 in
    let d = and_parts _ (length rules.fieldinclude == 0) c.0 in
    let e = and_parts _ (length rules.tagdrop == 0) d.0 in
    let f = and_parts _ (length rules.tagpass == 0) e.0 in
    let g = and_parts (length rules.namepass == 0) (length rules.namedrop == 0) f.0 in
    let fields : keeps_each rules.fieldinclude rules.fieldexclude m.fields ≡ true =
    rw (none_of rules.fieldinclude d.1, none_of rules.fieldexclude c.1) (all_kept m.fields) in
    let tags : keeps_each rules.taginclude rules.tagexclude m.tags ≡ true =
    rw (none_of rules.taginclude b.1, none_of rules.tagexclude a.1) (all_kept m.tags) in (
      rw (none_of rules.namepass g.0, none_of rules.namedrop g.1, none_of rules.tagpass f.1, none_of rules.tagdrop e.1)
          refl,
      rw (fields, tags) refl,
    )

pub no_rule_keeps_all : (rules : FilterRules) (m : Content) → has_no_rule rules ≡ true → keeps_all rules m ≡ true
no_rule_keeps_all rules m h = (no_rule_all rules m h).1

-- so it gives it as it is
pub no_rule_applied : (rules : FilterRules) (m : Content) → has_no_rule rules ≡ true → 0 < length m.fields
    → applied rules m ≡ Some m
no_rule_applied rules m h some =
    let all = no_rule_all rules m h in rw all.0 (left_itself rules m all.1 some)
