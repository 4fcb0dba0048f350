-- What is true of a metric in the making, and of one that is made.
use Rattle.std.proofs.Common.{◌≡◌, ◌<◌, ℕ, ℤ, true, false, cond, not, List, [], ◌∷◌, length, refl, ap, arith}
use Rattle.std.specs.List.{AllByRecursion, IsDistinct}
use Rattle.std.specs.List.Sorted.{IsStrictlySortedBy}
use Rattle.std.specs.declared.cmp.Ordering.TheVariants.{Less, Equal, Greater}
use Rattle.std.specs.Int.{w64}
use Rattle.std.specs.Str.{IsUtf8, bytes_eq}
use Rattle.std.specs.Prelude.{◌==◌, FitsSigned, Result, Ok, Err, OnOk, OnErr}
use Rattle.fixed_num.specs.declared.memory.OutOfMemory.{OutOfMemory}
use Rattle.std.proofs.lemmas.Bool.{eqb-false, or_parts}
use Rattle.metric.specs.Pairs.{with_pair, with_sorted, beside, with_values, has_empty_key, has_empty_value}
use Rattle.metric.specs.Pairs.{IsInKeyOrder}
use Rattle.metric.specs.Building.{Parts, IsBuilt}
use Rattle.metric.specs.Metric.{IsMetric, IsFilled, IsWord, IsValue, IsTag, IsField}
use Rattle.metric.specs.declared.value.Value.{Value}
use Rattle.metric.proofs.PairLemmas.{AllKeys, key_cmp, with_pair-distinct, with_sorted-ordered}

-- ---- one pair more

pub each_pair : {X : Type 0} (P : List ℕ × X → Type 0) (pairs : List (List ℕ × X)) (key : List ℕ) (value : X)
    → P (key, value) → AllByRecursion P pairs → AllByRecursion P (with_pair pairs key value)
unfolding with_pair
each_pair P [] key value p h = (p, tt)
each_pair P (pair ∷ pairs) key value p h =
    elim (bytes_eq pair.0 key) as (λ t. AllByRecursion P (cond t ((key, value) ∷ pairs)
    (pair ∷ with_pair pairs key value)))
    [ true ↦ (p, h.1) | false ↦ (h.0, each_pair P pairs key value p h.1) ]

pub each_sorted : {X : Type 0} (P : List ℕ × X → Type 0) (pairs : List (List ℕ × X)) (key : List ℕ) (value : X)
    → P (key, value) → AllByRecursion P pairs → AllByRecursion P (with_sorted pairs key value)
unfolding with_sorted
each_sorted P [] key value p h = (p, tt)
each_sorted P (pair ∷ pairs) key value p h =
    elim (key_cmp pair.0 key) as (λ o. AllByRecursion P (beside o pair (key, value) pairs
    (with_sorted pairs key value)))
    [ Less ↦ (h.0, each_sorted P pairs key value p h.1) | Equal ↦ (p, h.1) | Greater ↦ (p, h) ]

pub built_none : (name : List ℕ) → IsUtf8 name → IsBuilt (record { name = name; tags = []; fields = [] })
unfolding IsStrictlySortedBy IsDistinct
built_none name u = record { name = u; tags = tt; fields = tt; sorted = tt; distinct = tt }

pub built_tag : (p : Parts) (key value : List ℕ)
    → IsUtf8 key → IsUtf8 value → IsBuilt p → IsBuilt (record p { tags = with_sorted p.tags key value })
built_tag p key value ku vu h = record {
  name = h.name;
  tags = each_sorted (λ (tag : List ℕ × List ℕ). IsUtf8 tag.0 × IsUtf8 tag.1) p.tags key value (ku, vu) h.tags;
  fields = h.fields;
  sorted = with_sorted-ordered p.tags key value h.sorted;
  distinct = h.distinct;
}

pub built_field : (p : Parts) (key : List ℕ) (value : Value)
    → IsUtf8 key → IsValue value → IsBuilt p → IsBuilt (record p { fields = with_pair p.fields key value })
built_field p key value ku v h = record {
  name = h.name;
  tags = h.tags;
  fields = each_pair (λ (field : List ℕ × Value). IsUtf8 field.0 × IsValue field.1) p.fields key value (ku, v) h.fields;
  sorted = h.sorted;
  distinct = with_pair-distinct p.fields key value h.distinct;
}

-- ---- what is filled

filled : (text : List ℕ) → (length text == 0) ≡ false → IsFilled text
filled text e = let ne : length text ≡ 0 → ⊥ = eqb-false (length text) 0 e in omega arith

word : (text : List ℕ) → (length text == 0) ≡ false → IsUtf8 text → IsWord text
word text e u = record { filled = filled text e; utf8 = u }

all_fields : (fields : List (List ℕ × Value)) → has_empty_key fields ≡ false
    → AllByRecursion (λ (field : List ℕ × Value). IsUtf8 field.0 × IsValue field.1) fields
    → AllByRecursion IsField fields
all_fields [] e h = tt
all_fields (field ∷ fields) e h =
    let parts = or_parts _ _ e in ((word field.0 parts.0 h.0.0, h.0.1), all_fields fields parts.1 h.1)

-- values that are filled, at filled keys
all_tags : (tags : List (List ℕ × List ℕ)) → has_empty_key tags ≡ false
    → AllByRecursion (λ (tag : List ℕ × List ℕ). IsUtf8 tag.0 × IsUtf8 tag.1) tags
    → AllByRecursion IsTag (with_values tags)
all_tags [] e h = tt
all_tags (tag ∷ tags) e h =
    let parts = or_parts _ _ e in
    elim (length tag.1 == 0) as (λ t. (length tag.1 == 0) ≡ t
    → AllByRecursion IsTag (cond (not t) (tag ∷ with_values tags) (with_values tags))) [
      | true ↦ λ t. all_tags tags parts.1 h.1
      | false ↦ λ t. ((word tag.0 parts.0 h.0.0, word tag.1 t h.0.1), all_tags tags parts.1 h.1)
    ] refl

some_tags : (P : List ℕ → Type 0) (tags : List (List ℕ × List ℕ)) → AllKeys P tags → AllKeys P (with_values tags)
some_tags P [] h = tt
some_tags P (tag ∷ tags) h =
    elim (length tag.1 == 0) as (λ t. AllKeys P (cond (not t) (tag ∷ with_values tags) (with_values tags)))
    [ true ↦ some_tags P tags h.1 | false ↦ (h.0, some_tags P tags h.1) ]

pub sorted_tags : (tags : List (List ℕ × List ℕ)) → IsInKeyOrder tags → IsInKeyOrder (with_values tags)
unfolding IsStrictlySortedBy
sorted_tags [] h = tt
sorted_tags (tag ∷ tags) h =
    elim (length tag.1 == 0) as (λ t. IsInKeyOrder (cond (not t) (tag ∷ with_values tags) (with_values tags)))
    [ true ↦ sorted_tags tags h.1 | false ↦ (some_tags (λ k. key_cmp tag.0 k ≡ Less) tags h.0, sorted_tags tags h.1) ]

-- where no value is empty, no tag is left out
pub all_valued : (tags : List (List ℕ × List ℕ)) → has_empty_value tags ≡ false → tags ≡ with_values tags
all_valued [] e = refl
all_valued (tag ∷ tags) e =
    let parts = or_parts _ _ e in
    let first : (length tag.1 == 0) ≡ false = parts.0 in
    rw first (ap (λ others. tag ∷ others) (all_valued tags parts.1))

-- the parts make a metric, where nothing is wrong with them
pub is_metric : (p : Parts) (time : ℤ) → IsBuilt p → FitsSigned w64 time
    → (length p.name == 0) ≡ false → has_empty_key p.tags ≡ false → has_empty_key p.fields ≡ false → 0 < length p.fields
    → IsMetric (record { name = p.name; tags = with_values p.tags; fields = p.fields; time = time })
is_metric p time h fits name tags fields some = record {
  name = word p.name name h.name;
  tags = all_tags p.tags tags h.tags;
  sorted = sorted_tags p.tags h.sorted;
  some = some;
  fields = all_fields p.fields fields h.fields;
  distinct = h.distinct;
  time = fits;
}

-- after a call that may fail
pub built_tags : (p : Parts) (tags : List (List ℕ × List ℕ)) (key value : List ℕ)
    (result : Result (Unit {0}) OutOfMemory)
    → IsUtf8 key → IsUtf8 value → IsBuilt p
    → OnOk result (tags ≡ with_sorted p.tags key value) → OnErr result (tags ≡ p.tags)
    → IsBuilt (record p { tags = tags })
built_tags p tags key value (Ok x) ku vu h ok err = rw ok (built_tag p key value ku vu h)
built_tags p tags key value (Err x) ku vu h ok err = rw err h

pub built_fields : (p : Parts) (fields : List (List ℕ × Value)) (key : List ℕ) (value : Value)
    (result : Result (Unit {0}) OutOfMemory) → IsUtf8 key → IsValue value → IsBuilt p
    → OnOk result (fields ≡ with_pair p.fields key value) → OnErr result (fields ≡ p.fields)
    → IsBuilt (record p { fields = fields })
built_fields p fields key value (Ok x) ku v h ok err = rw ok (built_field p key value ku v h)
built_fields p fields key value (Err x) ku v h ok err = rw err h
