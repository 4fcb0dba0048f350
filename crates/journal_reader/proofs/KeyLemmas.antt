-- Keys that rise, one more at a time, and keys that differ.
use Rattle.std.proofs.Common.{◌≡◌, ℕ, Bool, true, false, not, List, [], ◌∷◌, length, refl, sym, ap, ◌∙◌}
use Rattle.std.specs.Prelude.{◌==◌, ◌&&◌, map, nat_eq}
use Rattle.std.specs.Cmp.Lexicographic.{slice_cmp, pointwise}
use Rattle.std.specs.List.{AllByRecursion, IsDistinct, list_all, list_any}
use Rattle.std.specs.Ordering.{is_lt, nat_cmp}
use Rattle.std.specs.Str.{bytes_eq}
use Rattle.std.proofs.lemmas.Bool.{and_parts, or_parts}
use Rattle.metric.specs.declared.value.Value.{Value}
use Rattle.journal_reader.specs.Words.{Parts}
use Rattle.journal_reader.specs.MetricReading.{is_filled, are_tags, are_fields}

abbrev pub Tag : Type 0
Tag = List ℕ × List ℕ

abbrev pub Field : Type 0
Field = List ℕ × Value

-- what is empty isn't filled
pub filled_as : (key text : List ℕ) (t : Bool) → text ≡ key → t ≡ (length text == 0) → is_filled key ≡ not t
filled_as key text t same is = sym (ap not is ∙ ap (λ (k : List ℕ). is_filled k) same)

not_true : (b : Bool) → not b ≡ true → b ≡ false
not_true true e = absurd cc
not_true false e = refl

pub tag_step : (before : List ℕ) (tag : Tag) (tags : List Tag)
    → (is_filled tag.1 && is_lt (slice_cmp nat_cmp before tag.0)) ≡ true
    → are_tags before (tag ∷ tags) ≡ are_tags tag.0 tags
unfolding are_tags
tag_step before tag tags e = rw e refl

pub tag_stop : (before : List ℕ) (tag : Tag) (tags : List Tag)
    → (is_filled tag.1 && is_lt (slice_cmp nat_cmp before tag.0)) ≡ false → are_tags before (tag ∷ tags) ≡ false
unfolding are_tags
tag_stop before tag tags e = rw e refl

pub tags_end : (before : List ℕ) → are_tags before [] ≡ true
unfolding are_tags
tags_end before = refl

-- ---- keys of fields are filled and distinct

abbrev pub all_filled : List Field → Bool
all_filled fields = list_all (λ (field : Field). is_filled field.0) fields

abbrev pub AreDistinct : List Field → Type 0
AreDistinct fields = IsDistinct (pointwise nat_eq) (map (λ (field : Field). field.0) fields)

-- none of the keys is one of those before
abbrev Fresh : Parts → List Field → Type 0
Fresh before fields = AllByRecursion (λ (field : Field). list_any (λ k. bytes_eq k field.0) before ≡ false) fields

none_before : (fields : List Field) → Fresh [] fields
none_before [] = tt
none_before (field ∷ fields) = (refl, none_before fields)

fresh_more : (key : List ℕ) (before : Parts) (fields : List Field)
    → AllByRecursion (λ y. bytes_eq key y ≡ false) (map (λ (field : Field). field.0) fields) → Fresh before fields
    → Fresh (key ∷ before) fields
fresh_more key before [] h f = tt
fresh_more key before (field ∷ fields) h f = (rw h.0 f.0, fresh_more key before fields h.1 f.1)

pass : (before : Parts) (fields : List Field) → Fresh before fields → all_filled fields ≡ true → AreDistinct fields
    → are_fields before fields ≡ true
unfolding are_fields IsDistinct
pass before [] fresh filled distinct = refl
pass before (field ∷ fields) fresh filled distinct =
    let parts = and_parts (is_filled field.0) (all_filled fields) filled in
    let rest =
    pass (field.0 ∷ before) fields (fresh_more field.0 before fields distinct.0 fresh.1) parts.1 distinct.1 in
    rw (parts.0, fresh.0, rest) refl

pub fields_pass : (fields : List Field) → all_filled fields ≡ true → AreDistinct fields → are_fields [] fields ≡ true
fields_pass fields = pass [] fields (none_before fields)

-- the keys before are none of the fields' keys
abbrev Apart : Parts → List Field → Type 0
Apart before fields = AllByRecursion (λ (k : List ℕ). AllByRecursion (λ (y : List ℕ). bytes_eq k y ≡ false)
    (map (λ (field : Field). field.0) fields)) before

apart_none : (before : Parts) → Apart before []
apart_none [] = tt
apart_none (k ∷ before) = (tt, apart_none before)

apart_more : (before : Parts) (field : Field) (fields : List Field)
    → list_any (λ k. bytes_eq k field.0) before ≡ false → Apart before fields → Apart before (field ∷ fields)
apart_more [] field fields e h = tt
apart_more (k ∷ before) field fields e h =
    let parts = or_parts (bytes_eq k field.0) (list_any (λ k. bytes_eq k field.0) before) e in
    ((parts.0, h.0), apart_more before field fields parts.1 h.1)

pub record Differ (before : Parts) (fields : List Field) : Type 0 where
  pub filled : all_filled fields ≡ true
  pub apart : Apart before fields
  pub distinct : AreDistinct fields

pub fields_differ : (before : Parts) (fields : List Field) → are_fields before fields ≡ true → Differ before fields
unfolding are_fields IsDistinct
fields_differ before [] e = record { filled = refl; apart = apart_none before; distinct = tt }
fields_differ before (field ∷ fields) e =
    let all = and_parts (is_filled field.0 && not (list_any (λ k. bytes_eq k field.0) before))
    (are_fields (field.0 ∷ before) fields) e in
    let first = and_parts (is_filled field.0) (not (list_any (λ k. bytes_eq k field.0) before)) all.0 in
    let rest = fields_differ (field.0 ∷ before) fields all.1 in
    record {
      filled = rw (first.0, rest.filled) refl;
      apart = apart_more before field fields (not_true (list_any (λ k. bytes_eq k field.0) before) first.1)
          rest.apart.1;
      distinct = (rest.apart.0, rest.distinct);
    }

-- what has none of that isn't fields
pub no_fields : (fields : List Field) → (are_fields [] fields ≡ true → ⊥) → are_fields [] fields ≡ false
no_fields fields none = at (are_fields [] fields) none
  where
    at : (b : Bool) → (b ≡ true → ⊥) → b ≡ false
    at true f = absurd (f refl)
    at false f = refl
