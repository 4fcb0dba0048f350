-- A metric is one after a change.
use Rattle.std.proofs.Common.{◌≡◌, ◌<◌, ℕ, zero, suc, true, false, not, cond, ◌||◌, ◌&&◌, List, [], ◌∷◌, length, get_or}
use Rattle.std.proofs.Common.{refl, sym, ap, subst, ◌∙◌, arith, Some, None}
use Rattle.std.specs.Prelude.{nat_eq, nat_lt, Option, Result, Ok, Err, OnOk, OnErr}
use Rattle.std.specs.List.{IsDistinct, position, remove}
use Rattle.std.specs.List.Sorted.{IsStrictlySortedBy}
use Rattle.std.specs.Map.{keys_of}
use Rattle.std.specs.Str.{bytes_eq, IsUtf8}
use Rattle.std.specs.Ordering.{is_eq}
use Rattle.std.specs.Cmp.Lexicographic.{pointwise}
use Rattle.std.specs.declared.cmp.Ordering.TheVariants.{Less}
use Rattle.std.proofs.lemmas.Bool.{ltb-true, lt-ltb}
use Rattle.std.proofs.lemmas.Cmp.{nat_list_eq_equiv}
use Rattle.std.proofs.lemmas.List.Quantifiers.{position-Some}
use Rattle.std.proofs.lemmas.Map.Text.{is_eq-slice_cmp}
use Rattle.std.proofs.lemmas.Slice.Eq.{bytes_eq-Decides}
use Rattle.fixed_num.specs.declared.memory.OutOfMemory.{OutOfMemory}
use Rattle.metric.specs.Changing.{without_key, without_field, loses_field}
use Rattle.metric.specs.Metric.{IsMetric, IsFilled, IsValue, IsTag, IsField}
use Rattle.metric.specs.Pairs.{has_key, with_pair, with_sorted, IsInKeyOrder}
use Rattle.metric.specs.declared.value.Value.{Value}
use Rattle.metric.specs.declared.metric.Content.{Content}
use Rattle.metric.proofs.KeptLemmas.{kept_each, kept_sorted, kept_distinct}
use Rattle.metric.proofs.LawLemmas.{with_pair-grows}
use Rattle.metric.proofs.MetricLemmas.{each_pair, each_sorted}
use Rattle.metric.proofs.PairLemmas.{AllKeys, key_cmp, all_other, with_pair-distinct, with_sorted-ordered}

-- ---- the pair of a key goes

module _ {X : Type 0} where
  -- keys that differ from one differ from its equal
  apart : (pairs : List (List ℕ × X)) (first key : List ℕ) → first ≡ key → AllKeys (λ k. bytes_eq first k ≡ false) pairs
      → AllKeys (λ k. bytes_eq k key ≡ false) pairs
  apart [] first key e h = tt
  apart (pair ∷ pairs) first key e h = (
    flipped pair.0 key ∙ ap (λ k. bytes_eq k pair.0) (sym e)
        ∙ h.0,
    apart pairs first key e h.1,
  )
    where
      flipped : (a b : List ℕ) → bytes_eq a b ≡ bytes_eq b a
      flipped = nat_list_eq_equiv.symm

  -- rising keys are distinct
  differ : (pairs : List (List ℕ × X)) (key : List ℕ) → AllKeys (λ k. key_cmp key k ≡ Less) pairs
      → AllKeys (λ k. bytes_eq key k ≡ false) pairs
  differ [] key h = tt
  differ (pair ∷ pairs) key h = (sym (is_eq-slice_cmp key pair.0) ∙ ap is_eq h.0, differ pairs key h.1)

  pub ordered_distinct : (pairs : List (List ℕ × X)) → IsInKeyOrder pairs
      → IsDistinct (pointwise nat_eq) (keys_of pairs)
  unfolding IsStrictlySortedBy IsDistinct
  ordered_distinct [] h = tt
  ordered_distinct (pair ∷ pairs) h = (differ pairs pair.0 h.0, ordered_distinct pairs h.1)

  none_goes : (pairs : List (List ℕ × X)) (key : List ℕ) → AllKeys (λ k. bytes_eq k key ≡ false) pairs
      → without_key pairs key ≡ pairs
  none_goes [] key h = refl
  none_goes (pair ∷ pairs) key h = rw h.0 (ap (λ (ps : List (List ℕ × X)). pair ∷ ps) (none_goes pairs key h.1))

  none_has : (pairs : List (List ℕ × X)) (key : List ℕ) → AllKeys (λ k. bytes_eq k key ≡ false) pairs
      → has_key pairs key ≡ false
  none_has [] key h = refl
  none_has (pair ∷ pairs) key h = rw h.0 (none_has pairs key h.1)

  one_goes : (pairs : List (List ℕ × X)) (i : ℕ) (key : List ℕ) (d : List ℕ × X)
      → IsDistinct (pointwise nat_eq) (keys_of pairs) → i < length pairs → bytes_eq (get_or pairs i d).0 key ≡ true
      → ((k : ℕ) → k < i → bytes_eq (get_or pairs k d).0 key ≡ false) → remove pairs i ≡ without_key pairs key
  unfolding IsDistinct
  one_goes [] i key d h lt here before = absurd (omega arith)
  one_goes (pair ∷ pairs) zero key d h lt here before =
      rw here (sym (none_goes pairs key (apart pairs pair.0 key ((bytes_eq-Decides pair.0 key).0 here) h.0)))
  one_goes (pair ∷ pairs) (suc i) key d h lt here before =
      let first : bytes_eq pair.0 key ≡ false = before 0 (omega arith) in
      rw first (ap (λ (ps : List (List ℕ × X)). pair ∷ ps) (one_goes pairs i key d h.1 (omega arith) here
      (λ k below. before (suc k) (omega arith))))

  one_has : (pairs : List (List ℕ × X)) (i : ℕ) (key : List ℕ) (d : List ℕ × X) → i < length pairs
      → bytes_eq (get_or pairs i d).0 key ≡ true → has_key pairs key ≡ true
  one_has [] i key d lt here = absurd (omega arith)
  one_has (pair ∷ pairs) zero key d lt here = rw here refl
  one_has (pair ∷ pairs) (suc i) key d lt here =
      elim (bytes_eq pair.0 key) as (λ t. (t || has_key pairs key) ≡ true)
      [ true ↦ refl | false ↦ one_has pairs i key d (omega arith) here ]

  -- what a search for the key found in a list that was read
  pub found_at : (pairs listed : List (List ℕ × X)) (key : List ℕ) (found index : Option ℕ) → listed ≡ pairs
      → found ≡ position (λ pair. bytes_eq pair.0 key) listed → found ≡ index
      → position (λ pair. bytes_eq pair.0 key) pairs ≡ index
  found_at pairs listed key found index read at e = ap (position (λ (pair : List ℕ × X). bytes_eq pair.0 key))
      (sym read) ∙ sym at ∙ e

  -- what it says where it found none
  pub no_key : (pairs : List (List ℕ × X)) (key : List ℕ) → position (λ pair. bytes_eq pair.0 key) pairs ≡ None
      → has_key pairs key ≡ false
  no_key pairs key e = none_has pairs key (all_other pairs key e)

  pub none_left : (pairs : List (List ℕ × X)) (key : List ℕ) → position (λ pair. bytes_eq pair.0 key) pairs ≡ None
      → without_key pairs key ≡ pairs
  none_left pairs key e = none_goes pairs key (all_other pairs key e)

  -- and where it found one
  pub key_at : (pairs : List (List ℕ × X)) (i : ℕ) (key : List ℕ)
      → position (λ pair. bytes_eq pair.0 key) pairs ≡ Some i → has_key pairs key ≡ true
  key_at [] i key e = cc
  key_at (pair ∷ pairs) i key e =
      let found = position-Some (λ (pair : List ℕ × X). bytes_eq pair.0 key) (pair ∷ pairs) i pair e in
      one_has (pair ∷ pairs) i key pair found.0 found.1

  pub gone_at : (pairs : List (List ℕ × X)) (i : ℕ) (key : List ℕ) → IsDistinct (pointwise nat_eq) (keys_of pairs)
      → position (λ pair. bytes_eq pair.0 key) pairs ≡ Some i → remove pairs i ≡ without_key pairs key
  gone_at [] i key h e = cc
  gone_at (pair ∷ pairs) i key h e =
      let found = position-Some (λ (pair : List ℕ × X). bytes_eq pair.0 key) (pair ∷ pairs) i pair e in
      one_goes (pair ∷ pairs) i key pair h found.0 found.1 found.2

  -- of two pairs one stays
  one_stays : (pairs : List (List ℕ × X)) (key : List ℕ) → IsDistinct (pointwise nat_eq) (keys_of pairs)
      → 1 < length pairs → 0 < length (without_key pairs key)
  unfolding IsDistinct
  one_stays [] key h lt = absurd (omega arith)
  one_stays (pair ∷ pairs) key h lt =
      elim (bytes_eq pair.0 key) as (λ t. bytes_eq pair.0 key ≡ t
      → 0 < length (cond (not t) (pair ∷ without_key pairs key) (without_key pairs key))) [
        | true ↦ λ e. rw (none_goes pairs key (apart pairs pair.0 key ((bytes_eq-Decides pair.0 key).0 e) h.0))
            (omega arith)
        | false ↦ λ e. omega arith
      ] refl

-- ---- what a call leaves of a content that it owns

pub tag_taken : (m own : Content) (tags : List (List ℕ × List ℕ)) (i : ℕ) (key : List ℕ) → own ≡ m
    → tags ≡ remove own.tags i → IsInKeyOrder m.tags
    → position (λ tag. bytes_eq tag.0 key) m.tags ≡ Some i → record own { tags = tags } ≡ record m
    { tags = without_key m.tags key }
tag_taken m own tags i key same taken sorted at =
    ap (λ (c : Content). record c { tags = tags }) same
    ∙ ap (λ (ts : List (List ℕ × List ℕ)). record m { tags = ts })
    (taken ∙ ap (λ (c : Content). remove c.tags i) same ∙ gone_at m.tags i key (ordered_distinct m.tags sorted) at)

pub is_lost : (fields : List (List ℕ × Value)) (key : List ℕ) → has_key fields key ≡ true → 1 < length fields
    → loses_field fields key ≡ true
is_lost fields key has more = rw (has, lt-ltb 1 (length fields) more) refl

pub field_taken : (m own : Content) (fields : List (List ℕ × Value)) (i : ℕ) (key : List ℕ) → own ≡ m
    → fields ≡ remove own.fields i
    → IsDistinct (pointwise nat_eq) (keys_of m.fields) → 1 < length m.fields
    → position (λ field. bytes_eq field.0 key) m.fields ≡ Some i
    → record own { fields = fields } ≡ record m { fields = without_field m.fields key }
field_taken m own fields i key same taken distinct more at =
    ap (λ (c : Content). record c { fields = fields }) same
    ∙ ap (λ (fs : List (List ℕ × Value)). record m { fields = fs })
    (taken ∙ ap (λ (c : Content). remove c.fields i) same ∙ gone_at m.fields i key distinct at
    ∙ rw (is_lost m.fields key (key_at m.fields i key at) more) refl)

pub field_kept : (m : Content) (key : List ℕ) → has_key m.fields key ≡ false
    → m ≡ record m { fields = without_field m.fields key }
field_kept m key none = rw none refl

pub tag_kept : (m : Content) (key : List ℕ) → without_key m.tags key ≡ m.tags
    → m ≡ record m { tags = without_key m.tags key }
tag_kept m key none = ap (λ (ts : List (List ℕ × List ℕ)). record m { tags = ts }) (sym none)

-- ---- the metric after it

pub tag_set : (m : Content) (key value : List ℕ) → IsFilled key → IsUtf8 key → IsFilled value → IsUtf8 value
    → IsMetric m
    → IsMetric (record m { tags = with_sorted m.tags key value })
tag_set m key value kf ku vf vu h = record {
  name = h.name;
  tags = each_sorted IsTag m.tags key value (record { filled = kf; utf8 = ku }, record { filled = vf; utf8 = vu })
      h.tags;
  sorted = with_sorted-ordered m.tags key value h.sorted;
  some = h.some;
  fields = h.fields;
  distinct = h.distinct;
  time = h.time;
}

pub field_set : (m : Content) (key : List ℕ) (value : Value) → IsFilled key → IsUtf8 key → IsValue value → IsMetric m
    → IsMetric (record m { fields = with_pair m.fields key value })
field_set m key value kf ku v h = record {
  name = h.name;
  tags = h.tags;
  sorted = h.sorted;
  some = let some = h.some in let grows = with_pair-grows m.fields key value in omega arith;
  fields = each_pair IsField m.fields key value (record { filled = kf; utf8 = ku }, v) h.fields;
  distinct = with_pair-distinct m.fields key value h.distinct;
  time = h.time;
}

pub tag_gone : (m : Content) (key : List ℕ) → IsMetric m → IsMetric (record m { tags = without_key m.tags key })
tag_gone m key h = record {
  name = h.name;
  tags = kept_each _ IsTag m.tags h.tags;
  sorted = kept_sorted _ m.tags h.sorted;
  some = h.some;
  fields = h.fields;
  distinct = h.distinct;
  time = h.time;
}

fields_left : (m : Content) (key : List ℕ) → 1 < length m.fields → IsMetric m
    → IsMetric (record m { fields = without_key m.fields key })
fields_left m key more h = record {
  name = h.name;
  tags = h.tags;
  sorted = h.sorted;
  some = one_stays m.fields key h.distinct more;
  fields = kept_each _ IsField m.fields h.fields;
  distinct = kept_distinct _ m.fields h.distinct;
  time = h.time;
}

pub field_gone : (m : Content) (key : List ℕ) → IsMetric m → IsMetric (record m { fields = without_field m.fields key })
field_gone m key h =
    elim (has_key m.fields key) as (λ t. IsMetric (record m {
      fields = cond (t && nat_lt 1 (length m.fields))
          (without_key m.fields key) m.fields;
    })) [
      | true ↦ elim (nat_lt 1 (length m.fields)) as (λ t. nat_lt 1 (length m.fields) ≡ t
          → IsMetric (record m { fields = cond t (without_key m.fields key) m.fields }))
          [ true ↦ λ e. fields_left m key (ltb-true 1 (length m.fields) e) h | false ↦ λ e. h ] refl
      | false ↦ h
    ]

-- what holds holds also where a call failed
pub on_err : {A : Type 0} {P : Type 0} (result : Result A OutOfMemory) → P → OnErr result P
on_err (Ok x) p = tt
on_err (Err x) p = p

-- after a call that may fail
pub after : {A : Type 0} (old changed new : Content) (result : Result A OutOfMemory) → OnOk result (new ≡ changed)
    → OnErr result (new ≡ old) → IsMetric changed → IsMetric old
    → IsMetric new
after old changed new (Ok x) ok err h o = subst IsMetric (sym ok) h
after old changed new (Err x) ok err h o = subst IsMetric (sym err) o
