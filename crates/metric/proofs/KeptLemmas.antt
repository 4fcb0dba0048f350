-- What is left of a metric's parts is a metric's, where a field is left.
use Rattle.std.proofs.Common.{◌≡◌, ◌<◌, ℕ, Bool, true, false, cond, List, [], ◌∷◌, length, nat_eq}
use Rattle.std.specs.Prelude.{filter}
use Rattle.std.specs.List.{AllByRecursion, IsDistinct}
use Rattle.std.specs.List.Sorted.{IsStrictlySortedBy}
use Rattle.std.specs.Map.{keys_of}
use Rattle.std.specs.declared.cmp.Ordering.TheVariants.{Less}
use Rattle.std.specs.Ordering.{nat_cmp}
use Rattle.std.specs.Cmp.Lexicographic.{pointwise, slice_cmp}
use Rattle.metric.specs.Metric.{IsMetric, IsTag, IsField}
use Rattle.metric.specs.Pairs.{IsInKeyOrder}
use Rattle.metric.specs.declared.value.Value.{Value}
use Rattle.metric.specs.declared.metric.Content.{Content}
use Rattle.metric.proofs.PairLemmas.{AllKeys}

module _ {X : Type 0} (test : List ℕ × X → Bool) where
  pub kept_each : (P : List ℕ × X → Type 0) (pairs : List (List ℕ × X)) → AllByRecursion P pairs
      → AllByRecursion P (filter test pairs)
  kept_each P [] h = tt
  kept_each P (pair ∷ pairs) h =
      elim (test pair) as (λ t. AllByRecursion P (cond t (pair ∷ filter test pairs) (filter test pairs)))
      [ true ↦ (h.0, kept_each P pairs h.1) | false ↦ kept_each P pairs h.1 ]

  kept_keys : (P : List ℕ → Type 0) (pairs : List (List ℕ × X)) → AllKeys P pairs
      → AllKeys P (filter test pairs)
  kept_keys P [] h = tt
  kept_keys P (pair ∷ pairs) h =
      elim (test pair) as (λ t. AllKeys P (cond t (pair ∷ filter test pairs) (filter test pairs)))
      [ true ↦ (h.0, kept_keys P pairs h.1) | false ↦ kept_keys P pairs h.1 ]

pub kept_sorted : {X : Type 0} (test : List ℕ × X → Bool) (pairs : List (List ℕ × X)) → IsInKeyOrder pairs
    → IsInKeyOrder (filter test pairs)
unfolding IsStrictlySortedBy
kept_sorted test [] h = tt
kept_sorted test (pair ∷ pairs) h =
    elim (test pair) as (λ t. IsInKeyOrder (cond t (pair ∷ filter test pairs) (filter test pairs))) [
      | true ↦ (kept_keys test (λ k. slice_cmp nat_cmp pair.0 k ≡ Less) pairs h.0, kept_sorted test pairs h.1)
      | false ↦ kept_sorted test pairs h.1
    ]

pub kept_distinct : {X : Type 0} (test : List ℕ × X → Bool) (pairs : List (List ℕ × X))
    → IsDistinct (pointwise nat_eq) (keys_of pairs)
    → IsDistinct (pointwise nat_eq) (keys_of (filter test pairs))
unfolding IsDistinct
kept_distinct test [] h = tt
kept_distinct test (pair ∷ pairs) h =
    elim (test pair) as (λ t.
    IsDistinct (pointwise nat_eq) (keys_of (cond t (pair ∷ filter test pairs) (filter test pairs)))) [
      | true ↦ (
        kept_keys test (λ k. pointwise nat_eq pair.0 k ≡ false) pairs h.0,
        kept_distinct test pairs h.1,
      )
      | false ↦ kept_distinct test pairs h.1
    ]

-- a metric with some tags and fields left out
pub kept : (m : Content) (tag : List ℕ × List ℕ → Bool) (field : List ℕ × Value → Bool) → IsMetric m
    → 0 < length (filter field m.fields)
    → IsMetric (record m { tags = filter tag m.tags; fields = filter field m.fields })
kept m tag field h some = record {
  name = h.name;
  tags = kept_each tag IsTag m.tags h.tags;
  sorted = kept_sorted tag m.tags h.sorted;
  some = some;
  fields = kept_each field IsField m.fields h.fields;
  distinct = kept_distinct field m.fields h.distinct;
  time = h.time;
}
