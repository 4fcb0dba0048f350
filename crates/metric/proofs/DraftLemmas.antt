-- A draft with one more tag or field.
use Rattle.std.proofs.Common.{◌≡◌, ℕ, ◌+◌, ◌<◌, ◌≤◌, Bool, true, false, cond, ltb, List, [], ◌∷◌, ◌++◌, length, refl}
use Rattle.std.proofs.Common.{sym, ap, ◌∙◌, arith}
use Rattle.std.specs.Prelude.{◌||◌, ◌==◌}
use Rattle.std.specs.Str.{bytes_eq}
use Rattle.std.specs.Ordering.{nat_cmp}
use Rattle.std.specs.Cmp.Lexicographic.{slice_cmp}
use Rattle.std.specs.declared.cmp.Ordering.{Ordering}
use Rattle.std.specs.declared.cmp.Ordering.TheVariants.{Less, Equal, Greater}
use Rattle.std.proofs.lemmas.Bool.{ltb-true, lt-ltb, ne_eqb}
use Rattle.metric.specs.Pairs.{with_pair, with_sorted, beside, in_first_order, in_first_order_on, in_key_order}
use Rattle.metric.specs.Pairs.{in_key_order_on, has_empty_key}
use Rattle.metric.specs.Draft.{Tag, Field, Drafted, has_too_many, StandsFor}

-- ---- one more pair

pub in_key_order_push : {X : Type 0} (kept given : List (List ℕ × X)) (pair : List ℕ × X)
    → in_key_order_on kept (given ++ pair ∷ []) ≡ with_sorted (in_key_order_on kept given) pair.0 pair.1
unfolding in_key_order_on
in_key_order_push kept [] pair = refl
in_key_order_push kept (first ∷ given) pair = in_key_order_push (with_sorted kept first.0 first.1) given pair

pub in_first_order_push : {X : Type 0} (kept given : List (List ℕ × X)) (pair : List ℕ × X)
    → in_first_order_on kept (given ++ pair ∷ []) ≡ with_pair (in_first_order_on kept given) pair.0 pair.1
unfolding in_first_order_on
in_first_order_push kept [] pair = refl
in_first_order_push kept (first ∷ given) pair = in_first_order_push (with_pair kept first.0 first.1) given pair

longer_beside : {X : Type 0} (o : Ordering) (pair new : List ℕ × X) (pairs others : List (List ℕ × X))
    → length pairs ≤ length others → length pairs + 1 ≤ length (beside o pair new pairs others)
longer_beside Less pair new pairs others le = omega arith
longer_beside Equal pair new pairs others le = omega arith
longer_beside Greater pair new pairs others le = omega arith

longer_sorted : {X : Type 0} (pairs : List (List ℕ × X)) (key : List ℕ) (value : X)
    → length pairs ≤ length (with_sorted pairs key value)
unfolding with_sorted
longer_sorted [] key value = omega arith
longer_sorted (pair ∷ pairs) key value = omega (
  arith,
  longer_beside (slice_cmp nat_cmp pair.0 key) pair
      (key, value) pairs (with_sorted pairs key value) (longer_sorted pairs key value),
)

pub longer_pair : {X : Type 0} (pairs : List (List ℕ × X)) (key : List ℕ) (value : X)
    → length pairs ≤ length (with_pair pairs key value)
unfolding with_pair
longer_pair [] key value = omega arith
longer_pair (pair ∷ pairs) key value = elim (bytes_eq pair.0 key) as
    (λ t. length (pair ∷ pairs) ≤ length (cond t ((key, value) ∷ pairs) (pair ∷ with_pair pairs key value))) [
      | true ↦ omega arith
      | false ↦ omega (arith, longer_pair pairs key value)
    ]

-- ---- keys stay filled

or_false : (a b : Bool) → (a || b) ≡ false → (a ≡ false) × (b ≡ false)
or_false true b e = absurd cc
or_false false b e = (refl, e)

both_false : (a b : Bool) → a ≡ false → b ≡ false → (a || b) ≡ false
both_false a b e f = rw (e, f) refl

keyed : {X : Type 0} (key : List ℕ) (value : X) (pairs : List (List ℕ × X)) → (length key == 0) ≡ false
    → has_empty_key pairs ≡ false → has_empty_key ((key, value) ∷ pairs) ≡ false
keyed key value pairs filled all = both_false (length key == 0) (has_empty_key pairs) filled all

keyed_beside : {X : Type 0} (o : Ordering) (pair : List ℕ × X) (key : List ℕ) (value : X)
    (pairs others : List (List ℕ × X)) → (length key == 0) ≡ false → has_empty_key (pair ∷ pairs) ≡ false
    → has_empty_key others ≡ false → has_empty_key (beside o pair (key, value) pairs others) ≡ false
keyed_beside Less pair key value pairs others filled all rest =
    both_false (length pair.0 == 0) (has_empty_key others) (or_false (length pair.0 == 0) (has_empty_key pairs) all).0
    rest
keyed_beside Equal pair key value pairs others filled all rest =
    keyed key value pairs filled (or_false (length pair.0 == 0) (has_empty_key pairs) all).1
keyed_beside Greater pair key value pairs others filled all rest = keyed key value (pair ∷ pairs) filled all

pub keyed_sorted : {X : Type 0} (pairs : List (List ℕ × X)) (key : List ℕ) (value : X) → (length key == 0) ≡ false
    → has_empty_key pairs ≡ false → has_empty_key (with_sorted pairs key value) ≡ false
unfolding with_sorted
keyed_sorted [] key value filled all = keyed key value [] filled refl
keyed_sorted (pair ∷ pairs) key value filled all = keyed_beside (slice_cmp nat_cmp pair.0 key) pair key value pairs
    (with_sorted pairs key value) filled all (keyed_sorted pairs key value filled
    (or_false (length pair.0 == 0) (has_empty_key pairs) all).1)

keyed_pair : {X : Type 0} (pairs : List (List ℕ × X)) (key : List ℕ) (value : X) → (length key == 0) ≡ false
    → has_empty_key pairs ≡ false → has_empty_key (with_pair pairs key value) ≡ false
unfolding with_pair
keyed_pair [] key value filled all = keyed key value [] filled refl
keyed_pair (pair ∷ pairs) key value filled all = elim (bytes_eq pair.0 key) as
    (λ t. has_empty_key (cond t ((key, value) ∷ pairs) (pair ∷ with_pair pairs key value)) ≡ false) [
      | true ↦ keyed key value pairs filled (or_false (length pair.0 == 0) (has_empty_key pairs) all).1
      | false ↦ both_false (length pair.0 == 0) (has_empty_key (with_pair pairs key value))
          (or_false (length pair.0 == 0) (has_empty_key pairs) all).0
          (keyed_pair pairs key value filled (or_false (length pair.0 == 0) (has_empty_key pairs) all).1)
    ]

-- ---- too many stay too many

still : (most m n : ℕ) → m ≤ n → ltb most m ≡ true → ltb most n ≡ true
still most m n le more = lt-ltb most n (omega (arith, ltb-true most m more))

grown : (a b c : Bool) → (a ≡ true → b ≡ true) → (a || c) ≡ true → (b || c) ≡ true
grown true b c h e = rw (h refl) refl
grown false true c h e = refl
grown false false c h e = e

grown_right : (a b c : Bool) → (b ≡ true → c ≡ true) → (a || b) ≡ true → (a || c) ≡ true
grown_right true b c h e = refl
grown_right false b c h e = h e

more_tags : (tags : List Tag) (fields : List Field) (tag : Tag) → has_too_many tags fields ≡ true
    → has_too_many (tags ++ tag ∷ []) fields ≡ true
more_tags tags fields tag many = grown (ltb 64 (length (in_key_order tags)))
    (ltb 64 (length (in_key_order (tags ++ tag ∷ [])))) (ltb 256 (length (in_first_order fields)))
    (still 64 (length (in_key_order tags)) (length (in_key_order (tags ++ tag ∷ [])))
    (omega (arith, longer_sorted (in_key_order tags) tag.0 tag.1, ap length (in_key_order_push [] tags tag)))) many

more_fields : (tags : List Tag) (fields : List Field) (field : Field) → has_too_many tags fields ≡ true
    → has_too_many tags (fields ++ field ∷ []) ≡ true
more_fields tags fields field many = grown_right (ltb 64 (length (in_key_order tags)))
    (ltb 256 (length (in_first_order fields))) (ltb 256 (length (in_first_order (fields ++ field ∷ []))))
    (still 256 (length (in_first_order fields)) (length (in_first_order (fields ++ field ∷ [])))
    (omega (
      arith,
      longer_pair (in_first_order fields) field.0 field.1,
      ap length (in_first_order_push [] fields field),
    ))) many

-- ---- drafts

pub full_tag : (draft : Drafted) (tags : List Tag) (fields : List Field) (tag : Tag) → draft.too_many ≡ true
    → StandsFor draft tags fields → StandsFor draft (tags ++ tag ∷ []) fields
full_tag draft tags fields tag full s = record {
  many = full ∙ sym (more_tags tags fields tag (sym s.many ∙ full));
  tags_kept = λ e. absurd (true_false (sym full ∙ e));
  fields_kept = s.fields_kept;
  tag_keys = s.tag_keys;
  field_keys = s.field_keys;
}
  where
    true_false : true ≡ false → ⊥
    true_false e = cc

pub full_field : (draft : Drafted) (tags : List Tag) (fields : List Field) (field : Field) → draft.too_many ≡ true
    → StandsFor draft tags fields → StandsFor draft tags (fields ++ field ∷ [])
full_field draft tags fields field full s = record {
  many = full ∙ sym (more_fields tags fields field (sym s.many ∙ full));
  tags_kept = s.tags_kept;
  fields_kept = λ e. absurd (true_false (sym full ∙ e));
  tag_keys = s.tag_keys;
  field_keys = s.field_keys;
}
  where
    true_false : true ≡ false → ⊥
    true_false e = cc

pub one_tag : (old new : Drafted) (tags : List Tag) (fields : List Field) (tag : Tag) → old.too_many ≡ false
    → 0 < length tag.0
    → new.parts ≡ record old.parts { tags = with_sorted old.parts.tags tag.0 tag.1 }
    → new.too_many ≡ ltb 64 (length new.parts.tags)
    → StandsFor old tags fields → StandsFor new (tags ++ tag ∷ []) fields
one_tag old new tags fields tag open_still filled built many s =
    let kept : new.parts.tags ≡ in_key_order (tags ++ tag ∷ []) =
    ap (λ b. b.tags) built ∙ rw (s.tags_kept open_still) (sym (in_key_order_push [] tags tag)) in
    let few : ltb 256 (length (in_first_order fields)) ≡ false =
    (or_false (ltb 64 (length (in_key_order tags))) (ltb 256 (length (in_first_order fields)))
    (sym s.many ∙ open_still)).1 in
    let same : new.parts.fields ≡ old.parts.fields = ap (λ b. b.fields) built in
    let key : (length tag.0 == 0) ≡ false = ne_eqb _ _ (λ e. absurd (omega arith)) in
    record {
      many = many ∙ rw (kept, few) (sym (or_none (ltb 64 (length (in_key_order (tags ++ tag ∷ []))))));
      tags_kept = λ e. kept;
      fields_kept = λ e. same ∙ s.fields_kept open_still;
      tag_keys = λ e. ap (λ b. has_empty_key b.tags) built ∙ keyed_sorted old.parts.tags tag.0 tag.1 key
          (s.tag_keys open_still);
      field_keys = λ e. ap has_empty_key same ∙ s.field_keys open_still;
    }
  where
    or_none : (b : Bool) → (b || false) ≡ b
    or_none true = refl
    or_none false = refl

pub one_field : (old new : Drafted) (tags : List Tag) (fields : List Field) (field : Field) → old.too_many ≡ false
    → 0 < length field.0
    → new.parts ≡ record old.parts { fields = with_pair old.parts.fields field.0 field.1 }
    → new.too_many ≡ ltb 256 (length new.parts.fields)
    → StandsFor old tags fields → StandsFor new tags (fields ++ field ∷ [])
one_field old new tags fields field open_still filled built many s =
    let kept : new.parts.fields ≡ in_first_order (fields ++ field ∷ []) =
    ap (λ b. b.fields) built ∙ rw (s.fields_kept open_still) (sym (in_first_order_push [] fields field)) in
    let few : ltb 64 (length (in_key_order tags)) ≡ false = (or_false (ltb 64 (length (in_key_order tags)))
    (ltb 256 (length (in_first_order fields))) (sym s.many ∙ open_still)).0 in
    let same : new.parts.tags ≡ old.parts.tags = ap (λ b. b.tags) built in
    let key : (length field.0 == 0) ≡ false = ne_eqb _ _ (λ e. absurd (omega arith)) in
    record {
      many = many ∙ rw (kept, few) refl;
      tags_kept = λ e. same ∙ s.tags_kept open_still;
      fields_kept = λ e. kept;
      tag_keys = λ e. ap has_empty_key same ∙ s.tag_keys open_still;
      field_keys = λ e. ap (λ b. has_empty_key b.fields) built
          ∙ keyed_pair old.parts.fields field.0 field.1 key (s.field_keys open_still);
    }

pub none_yet : (draft : Drafted) → draft.too_many ≡ false → draft.parts.tags ≡ [] → draft.parts.fields ≡ []
    → StandsFor draft [] []
unfolding in_key_order_on in_first_order_on
none_yet draft few no_tags no_fields = record {
  many = few;
  tags_kept = λ e. no_tags;
  fields_kept = λ e. no_fields;
  tag_keys = λ e. ap has_empty_key no_tags;
  field_keys = λ e. ap has_empty_key no_fields;
}
