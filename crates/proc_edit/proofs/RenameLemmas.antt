-- A metric is one after its parts are renamed.
use Rattle.std.proofs.Common.{◌≡◌, ◌<◌, ℕ, ℤ, true, false, not, cond, ◌||◌, List, [], ◌∷◌, length, refl, sym, ap, subst}
use Rattle.std.proofs.Common.{◌∙◌, arith, Some, map}
use Rattle.std.specs.Prelude.{nat_eq, find, option_map}
use Rattle.std.specs.List.{AllByRecursion, IsDistinct}
use Rattle.std.specs.Map.{keys_of}
use Rattle.std.specs.Str.{bytes_eq, IsUtf8}
use Rattle.std.specs.Cmp.Lexicographic.{pointwise}
use Rattle.std.proofs.lemmas.Cmp.{nat_list_eq_equiv}
use Rattle.std.proofs.lemmas.Slice.Eq.{bytes_eq-Decides}
use Rattle.metric.specs.Changing.{without_key}
use Rattle.metric.specs.Metric.{IsMetric, IsFilled, IsWord, IsTag, IsField}
use Rattle.metric.specs.Pairs.{has_key, value_at}
use Rattle.metric.specs.declared.value.Value.{Value}
use Rattle.metric.specs.declared.metric.Content.{Content}
use Rattle.metric.proofs.KeptLemmas.{kept_each, kept_distinct}
use Rattle.metric.proofs.PairLemmas.{AllKeys}
use Rattle.proc_edit.specs.Rename.{renamed_key, with_key_renamed}

-- the value of a tag that is there is filled
pub value_filled : (tags : List (List ℕ × List ℕ)) (key value : List ℕ) → AllByRecursion IsTag tags
    → value_at tags key ≡ Some value → IsFilled value
value_filled [] key value h e = cc
value_filled (tag ∷ tags) key value h e =
    (elim (bytes_eq tag.0 key) as (λ t. option_map (λ (pair : List ℕ × List ℕ). pair.1)
    (cond t (Some tag) (find (λ (pair : List ℕ × List ℕ). bytes_eq pair.0 key) tags)) ≡ Some value → IsFilled value) [
      | true ↦ λ e. subst IsFilled (some_same tag.1 value e) (h.0).1.filled
      | false ↦ λ e. value_filled tags key value h.1 e
    ]) e
  where
    some_same : (a b : List ℕ) → Some a ≡ Some b → a ≡ b
    some_same a b e = cc

flipped : (a b : List ℕ) → bytes_eq a b ≡ bytes_eq b a
flipped = nat_list_eq_equiv.symm

-- ---- one key renamed among keys that lack the new one

abbrev Field : Type 0
Field = List ℕ × Value

-- the fields with the new key in place of the old one
abbrev with_new : List ℕ → List ℕ → List Field → List Field
with_new from dest fields = map (λ (field : Field). (renamed_key from dest field.0, field.1)) fields

apart : (from dest first key : List ℕ) → bytes_eq first dest ≡ false → bytes_eq key dest ≡ false
    → bytes_eq first key ≡ false
    → bytes_eq (renamed_key from dest first) (renamed_key from dest key) ≡ false
apart from dest first key a b c =
    elim (bytes_eq first from) as (λ t. bytes_eq first from ≡ t
    → bytes_eq (cond t dest first) (renamed_key from dest key) ≡ false) [
      | true ↦ λ e. elim (bytes_eq key from) as (λ u. bytes_eq key from ≡ u → bytes_eq dest (cond u dest key) ≡ false) [
        | true ↦ λ f. absurd (no_both (sym (both_true first key from e f) ∙ c))
        | false ↦ λ f. flipped dest key ∙ b
      ] refl
      | false ↦ λ e. elim (bytes_eq key from) as (λ u. bytes_eq first (cond u dest key) ≡ false)
          [ true ↦ a | false ↦ c ]
    ] refl
  where
    no_both : true ≡ false → ⊥
    no_both e = cc

    both_true : (a b c : List ℕ) → bytes_eq a c ≡ true → bytes_eq b c ≡ true → bytes_eq a b ≡ true
    both_true a b c e f = (bytes_eq-Decides a b).1 ((bytes_eq-Decides a c).0 e ∙ sym ((bytes_eq-Decides b c).0 f))

apart_all : (from dest first : List ℕ) (fields : List Field) → bytes_eq first dest ≡ false
    → AllKeys (λ k. bytes_eq k dest ≡ false) fields
    → AllKeys (λ k. bytes_eq first k ≡ false) fields → AllKeys (λ k. bytes_eq (renamed_key from dest first) k ≡ false)
    (with_new from dest fields)
apart_all from dest first [] a b c = tt
apart_all from dest first (field ∷ fields) a b c = (
  apart from dest first field.0 a b.0 c.0,
  apart_all from dest first fields a b.1 c.1,
)

new_distinct : (from dest : List ℕ) (fields : List Field) → AllKeys (λ k. bytes_eq k dest ≡ false) fields
    → IsDistinct (pointwise nat_eq) (keys_of fields)
    → IsDistinct (pointwise nat_eq) (keys_of (with_new from dest fields))
unfolding IsDistinct
new_distinct from dest [] a h = tt
new_distinct from dest (field ∷ fields) a h = (
  apart_all from dest field.0 fields a.0 a.1 h.0,
  new_distinct from dest fields a.1 h.1,
)

new_each : (from dest : List ℕ) (fields : List Field) → IsWord dest → AllByRecursion IsField fields
    → AllByRecursion IsField (with_new from dest fields)
new_each from dest [] w h = tt
new_each from dest (field ∷ fields) w h =
    let first : IsField (renamed_key from dest field.0, field.1) =
    elim (bytes_eq field.0 from) as (λ t. IsField (cond t dest field.0, field.1))
    [ true ↦ (w, (h.0).1) | false ↦ h.0 ] in
    (first, new_each from dest fields w h.1)

all_other : (dest : List ℕ) (fields : List Field) → AllKeys (λ k. bytes_eq k dest ≡ false) (without_key fields dest)
all_other dest [] = tt
all_other dest (field ∷ fields) =
    elim (bytes_eq field.0 dest) as (λ t. bytes_eq field.0 dest ≡ t
    → AllKeys (λ k. bytes_eq k dest ≡ false) (cond (not t) (field ∷ without_key fields dest) (without_key fields dest)))
    [ true ↦ λ e. all_other dest fields | false ↦ λ e. (e, all_other dest fields) ] refl

some_left : (from dest : List ℕ) (fields : List Field) → bytes_eq from dest ≡ false → has_key fields from ≡ true
    → 0 < length (with_key_renamed fields from dest)
some_left from dest [] a h = cc
some_left from dest (field ∷ fields) a h =
    elim (bytes_eq field.0 dest) as (λ t. bytes_eq field.0 dest ≡ t
    → 0 < length (with_new from dest (cond (not t) (field ∷ without_key fields dest) (without_key fields dest)))) [
      | true ↦ λ e. some_left from dest fields a
          (sym (ap (λ (k : List ℕ). bytes_eq k from || has_key fields from) ((bytes_eq-Decides field.0 dest).0 e)
          ∙ ap (λ t. t || has_key fields from) (flipped dest from ∙ a)) ∙ h)
      | false ↦ λ e. omega arith
    ] refl

pub field_renamed : (m : Content) (from dest name : List ℕ) (tags : List (List ℕ × List ℕ)) (fields : List Field)
    (time : ℤ) → IsMetric m → IsFilled dest → IsUtf8 dest
    → bytes_eq from dest ≡ false → has_key m.fields from ≡ true → name ≡ m.name → tags ≡ m.tags
    → fields ≡ with_key_renamed m.fields from dest → time ≡ m.time
    → IsMetric (record { name = name; tags = tags; fields = fields; time = time })
field_renamed m from dest name tags fields time h filled utf8 other has n t f z =
    rw (n, t, f, z) (record {
      name = h.name;
      tags = h.tags;
      sorted = h.sorted;
      some = some_left from dest m.fields other has;
      fields = new_each from dest (without_key m.fields dest) (record { filled = filled; utf8 = utf8 })
          (kept_each _ IsField m.fields h.fields);
      distinct = new_distinct from dest (without_key m.fields dest) (all_other dest m.fields)
          (kept_distinct _ m.fields h.distinct);
      time = h.time;
    })
