-- Tags that are put in the order of their keys, and those of them that have a value.
use Rattle.std.proofs.Common.{◌≡◌, ℕ, ◌<◌, Bool, true, false, cond, not, List, [], ◌∷◌, ◌++◌, length, refl, sym, ap}
use Rattle.std.proofs.Common.{◌+◌}
use Rattle.std.proofs.Common.{subst, ◌∙◌, arith, get_or, take}
use Rattle.std.specs.Prelude.{◌==◌, ◌||◌}
use Rattle.std.specs.List.{AllByRecursion}
use Rattle.std.specs.List.Sorted.{IsStrictlySortedBy}
use Rattle.std.specs.BTreeMap.{insert_entry}
use Rattle.std.specs.declared.cmp.Ordering.{Ordering}
use Rattle.std.specs.declared.cmp.Ordering.TheVariants.{Less, Equal, Greater}
use Rattle.std.specs.Ordering.{is_eq, ordering_reverse}
use Rattle.std.proofs.lemmas.Bool.{eqb-false, ne_eqb}
use Rattle.std.proofs.lemmas.List.{take_more}
use Rattle.std.proofs.lemmas.Cmp.{nat_list_cmp_total}
use Rattle.std.proofs.lemmas.Map.Text.{is_eq-slice_cmp}
use Rattle.std.proofs.lemmas.Slice.Eq.{bytes_eq-Decides}
use Rattle.metric.specs.Draft.{Tag}
use Rattle.metric.specs.Pairs.{with_sorted, beside, with_values, has_empty_key, in_key_order, in_key_order_on}
use Rattle.metric.specs.Pairs.{IsInKeyOrder}
use Rattle.metric.proofs.PairLemmas.{AllKeys, key_cmp, with_sorted-ordered}
use Rattle.metric.proofs.MetricLemmas.{each_sorted, sorted_tags}
use Rattle.metric.proofs.DraftLemmas.{in_key_order_push, keyed_sorted}
use Rattle.metric.proofs.KeptPairs.{sorted_stay}
use Rattle.statsd_text.specs.TagMap.{HasValue, IsKeyed}

same_key : (a b : List ℕ) → key_cmp a b ≡ Equal → a ≡ b
same_key a b e = (bytes_eq-Decides a b).0 (sym (is_eq-slice_cmp a b) ∙ ap is_eq e)

-- an order that was found one way round, the other way round
turned : (a b : List ℕ) (o : Ordering) → key_cmp a b ≡ o → key_cmp b a ≡ ordering_reverse o
turned a b o e = nat_list_cmp_total.antisymm b a ∙ ap ordering_reverse e

-- the map of the kit puts a tag where the order of the keys has it
pub inserted : (tags : List Tag) (key value : List ℕ) → insert_entry key_cmp tags key value ≡ with_sorted tags key value
unfolding with_sorted
inserted [] key value = refl
inserted (tag ∷ tags) key value =
    elim (key_cmp tag.0 key) as (λ o. key_cmp tag.0 key ≡ o
    → insert_entry key_cmp (tag ∷ tags) key value ≡ beside o tag (key, value) tags (with_sorted tags key value)) [
      | Less ↦ λ e. rw (turned tag.0 key Less e) (ap (λ (ts : List Tag). tag ∷ ts) (inserted tags key value))
      | Equal ↦ λ e. rw (turned tag.0 key Equal e) (ap (λ (k : List ℕ). (k, value) ∷ tags) (same_key tag.0 key e))
      | Greater ↦ λ e. rw (turned tag.0 key Greater e) refl
    ] refl

-- ---- keys that rise and are filled

pub keyed_none : IsKeyed []
unfolding IsStrictlySortedBy
keyed_none = record { sorted = tt; filled = refl }

pub keyed_more : (tags : List Tag) (key value : List ℕ) → 0 < length key → IsKeyed tags
    → IsKeyed (with_sorted tags key value)
keyed_more tags key value some h =
    let filled : (length key == 0) ≡ false = ne_eqb _ _ (λ e. absurd (omega arith)) in
    record {
      sorted = with_sorted-ordered tags key value h.sorted;
      filled = keyed_sorted tags key value filled h.filled;
    }

filled_values : (tags : List Tag) → has_empty_key tags ≡ false → has_empty_key (with_values tags) ≡ false
filled_values [] h = h
filled_values (tag ∷ tags) h =
    let parts = both_false (length tag.0 == 0) (has_empty_key tags) h in
    elim (length tag.1 == 0) as (λ t. has_empty_key (cond (not t) (tag ∷ with_values tags) (with_values tags)) ≡ false)
    [ true ↦ filled_values tags parts.1 | false ↦ rw (parts.0) (filled_values tags parts.1) ]
  where
    both_false : (a b : Bool) → (a || b) ≡ false → (a ≡ false) × (b ≡ false)
    both_false true b e = absurd cc
    both_false false b e = (refl, e)

pub keyed_values : (tags : List Tag) → IsKeyed tags → IsKeyed (with_values tags)
keyed_values tags h = record { sorted = sorted_tags tags h.sorted; filled = filled_values tags h.filled }

-- ---- tags that have a value

pub values_have : (tags : List Tag) → AllByRecursion HasValue (with_values tags)
values_have [] = tt
values_have (tag ∷ tags) =
    elim (length tag.1 == 0) as (λ t. (length tag.1 == 0) ≡ t
    → AllByRecursion HasValue (cond (not t) (tag ∷ with_values tags) (with_values tags))) [
      | true ↦ λ e. values_have tags
      | false ↦ λ e. (let some = eqb-false (length tag.1) 0 e in omega arith, values_have tags)
    ] refl

pub valued_stay : (tags : List Tag) → AllByRecursion HasValue tags → with_values tags ≡ tags
valued_stay [] h = refl
valued_stay (tag ∷ tags) h =
    let some : (length tag.1 == 0) ≡ false = ne_eqb _ _ (λ e. absurd (let here = h.0 in omega arith)) in
    rw some (ap (λ (ts : List Tag). tag ∷ ts) (valued_stay tags h.1))

pub more_stay : (tags : List Tag) (key value : List ℕ) → AllByRecursion HasValue tags → 0 < length value
    → with_sorted tags key value ≡ with_values (with_sorted tags key value)
more_stay tags key value h some =
    sym (valued_stay (with_sorted tags key value) (each_sorted HasValue tags key value some h))

-- ---- one more tag among those that have a value

all_less : (a b : List ℕ) (tags : List Tag) → key_cmp a b ≡ Less → AllKeys (λ k. key_cmp b k ≡ Less) tags
    → AllKeys (λ k. key_cmp a k ≡ Less) tags
all_less a b [] less h = tt
all_less a b (tag ∷ tags) less h = (nat_list_cmp_total.trans a b tag.0 less h.0, all_less a b tags less h.1)

all_values : (P : List ℕ → Type 0) (tags : List Tag) → AllKeys P tags → AllKeys P (with_values tags)
all_values P [] h = tt
all_values P (tag ∷ tags) h =
    elim (length tag.1 == 0) as (λ t. AllKeys P (cond (not t) (tag ∷ with_values tags) (with_values tags)))
    [ true ↦ all_values P tags h.1 | false ↦ (h.0, all_values P tags h.1) ]

-- before greater keys a tag is put first
put_first : (tags : List Tag) (key value : List ℕ) → AllKeys (λ k. key_cmp key k ≡ Less) tags
    → with_sorted tags key value ≡ (key, value) ∷ tags
unfolding with_sorted
put_first [] key value h = refl
put_first (tag ∷ tags) key value h = rw (turned key tag.0 Less h.0) refl

values_twice : (tags : List Tag) → with_values (with_values tags) ≡ with_values tags
values_twice [] = refl
values_twice (tag ∷ tags) =
    elim (length tag.1 == 0) as (λ t. (length tag.1 == 0) ≡ t
    → with_values (cond (not t) (tag ∷ with_values tags) (with_values tags)) ≡ cond (not t) (tag ∷ with_values tags)
    (with_values tags)) [
      | true ↦ λ e. values_twice tags
      | false ↦ λ e. rw e (ap (λ (ts : List Tag). tag ∷ ts) (values_twice tags))
    ] refl

-- the tag, and those behind it that have a value
with_first : (key value : List ℕ) (tags : List Tag) → with_values ((key, value) ∷ with_values tags) ≡ with_values
    ((key, value) ∷ tags)
with_first key value tags = rw (values_twice tags) refl

kept_one : (tags : List Tag) (key value : List ℕ) → IsInKeyOrder tags
    → with_values (with_sorted (with_values tags) key value) ≡ with_values (with_sorted tags key value)
unfolding with_sorted IsStrictlySortedBy
kept_one [] key value h = refl
kept_one (tag ∷ tags) key value h =
    elim (length tag.1 == 0) as (λ t. (length tag.1 == 0) ≡ t
    → with_values (with_sorted (cond (not t) (tag ∷ with_values tags) (with_values tags)) key value) ≡ with_values
    (with_sorted (tag ∷ tags) key value)) [
      | true ↦ λ none. elim (key_cmp tag.0 key) as (λ o. key_cmp tag.0 key ≡ o
          → with_values (with_sorted (with_values tags) key value) ≡ with_values
          (beside o tag (key, value) tags (with_sorted tags key value))) [
            | Less ↦ λ e. rw none (kept_one tags key value h.1)
            | Equal ↦ λ e.
                let above : AllKeys (λ k. key_cmp key k ≡ Less) tags =
                subst (λ (a : List ℕ). AllKeys (λ k. key_cmp a k ≡ Less) tags) (same_key tag.0 key e) h.0 in
                rw (put_first (with_values tags) key value (all_values (λ k. key_cmp key k ≡ Less) tags above))
                (with_first key value tags)
            | Greater ↦ λ e.
                let above : AllKeys (λ k. key_cmp key k ≡ Less) tags =
                all_less key tag.0 tags (turned tag.0 key Greater e) h.0 in
                rw (put_first (with_values tags) key value (all_values (λ k. key_cmp key k ≡ Less) tags above), none)
                (with_first key value tags)
          ] refl
      | false ↦ λ some. elim (key_cmp tag.0 key) as (λ o. key_cmp tag.0 key ≡ o
          → with_values (beside o tag (key, value) (with_values tags) (with_sorted (with_values tags) key value))
          ≡ with_values (beside o tag (key, value) tags (with_sorted tags key value))) [
            | Less ↦ λ e. rw some (ap (λ (ts : List Tag). tag ∷ ts) (kept_one tags key value h.1))
            | Equal ↦ λ e. with_first key value tags
            | Greater ↦ λ e. rw (some, values_twice tags) refl
          ] refl
    ] refl

-- a tag among the given tags that have a value is that tag among all given ones
pub kept_tag : (given : List Tag) (key value : List ℕ) → IsInKeyOrder (in_key_order given)
    → with_values (with_sorted (with_values (in_key_order given)) key value) ≡ with_values
    (in_key_order (given ++ (key, value) ∷ []))
kept_tag given key value h = kept_one (in_key_order given) key value h
    ∙ ap with_values (sym (in_key_order_push [] given (key, value)))

-- tags put one after the other into no tags are in their order
pub put_in_order : (tags : List Tag) → IsInKeyOrder tags → in_key_order tags ≡ tags
put_in_order tags h = sorted_stay tags h

-- one more tag of a list
pub put_one : (tags old : List Tag) (i : ℕ) (item : Tag) → i < length tags → item ≡ get_or tags i item
    → old ≡ in_key_order (take i tags)
    → with_sorted old item.0 item.1 ≡ in_key_order (take (i + 1) tags)
put_one tags old i item lt is so_far =
    let more : take (i + 1) tags ≡ take i tags ++ item ∷ [] =
    take_more tags i item lt ∙ ap (λ (t : Tag). take i tags ++ t ∷ []) (sym is) in
    rw (so_far, more) (sym (in_key_order_push [] (take i tags) item))

-- ---- lists of tags one behind the other

pub in_key_order_on_more : (kept front back : List Tag) → in_key_order_on kept (front ++ back) ≡ in_key_order_on
    (in_key_order_on kept front) back
unfolding in_key_order_on
in_key_order_on_more kept [] back = refl
in_key_order_on_more kept (tag ∷ front) back = in_key_order_on_more (with_sorted kept tag.0 tag.1) front back
