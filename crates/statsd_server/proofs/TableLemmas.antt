-- Values by their keys, each at a place of its own.
use Rattle.std.proofs.Common.{◌≡◌, ◌<◌, ◌+◌, ℕ, zero, suc, true, false, cond, Bool, List, [], ◌∷◌, ◌++◌, length, set}
use Rattle.std.proofs.Common.{refl, sym, ap, subst, ◌∙◌, arith, Some, None, ◌==◌, nat_lt}
use Rattle.std.specs.Prelude.{option_and_then, slice_get, Option}
use Rattle.std.proofs.lemmas.List.{length-append}
use Rattle.std.specs.Bool.{Decides}
use Rattle.std.proofs.lemmas.Bool.{eqb-false, eqb-true, ltb-false, ltb-true}
use Rattle.std.proofs.lemmas.Option.{slice_get_past}
use Rattle.std.specs.Map.{lookup}
use Rattle.std.specs.Ordering.{is_eq}
use Rattle.std.specs.declared.cmp.Ordering.{Ordering}
use Rattle.statsd_server.specs.Table.{held_by, place_by, value_at, IsTable, Table}

-- ---- elements

pub front_get : {X : Type 0} (xs ys : List X) (i : ℕ) → i < length xs → slice_get (xs ++ ys) i ≡ slice_get xs i
front_get [] ys i h = absurd (omega arith)
front_get (x ∷ xs) ys zero h = refl
front_get (x ∷ xs) ys (suc i) h = front_get xs ys i (omega arith)

pub last_get : {X : Type 0} (xs : List X) (x : X) → slice_get (xs ++ x ∷ []) (length xs) ≡ Some x
last_get [] x = refl
last_get (y ∷ xs) x = last_get xs x

set_get : {X : Type 0} (xs : List X) (i : ℕ) (x : X) → i < length xs → slice_get (set xs i x) i ≡ Some x
set_get [] i x h = absurd (omega arith)
set_get (y ∷ xs) zero x h = refl
set_get (y ∷ xs) (suc i) x h = set_get xs i x (omega arith)

other_get : {X : Type 0} (xs : List X) (i j : ℕ) (x : X) → (i ≡ j → ⊥) → slice_get (set xs i x) j ≡ slice_get xs j
other_get [] i j x apart = refl
other_get (y ∷ xs) zero zero x apart = absurd (apart refl)
other_get (y ∷ xs) zero (suc j) x apart = refl
other_get (y ∷ xs) (suc i) zero x apart = refl
other_get (y ∷ xs) (suc i) (suc j) x apart = other_get xs i j x (λ e. apart (ap suc e))

same_some : {X : Type 0} (a b : X) → Some a ≡ Some b → a ≡ b
same_some a b e = cc

module _ {K : Type 0} (same : K → K → Bool) (cmp : K → K → Ordering)
    (decides : (a b : K) → Decides (same a b) (a ≡ b)) (ties : (a b : K) → same a b ≡ is_eq (cmp a b)) where
  equal : (a b : K) → is_eq (cmp a b) ≡ true → a ≡ b
  equal a b e = (decides a b).0 (ties a b ∙ e)

  own : (k : K) → is_eq (cmp k k) ≡ true
  own k = sym (ties k k) ∙ (decides k k).1 refl

module _ {K V : Type 0} (same : K → K → Bool) (cmp : K → K → Ordering)
    (decides : (a b : K) → Decides (same a b) (a ≡ b)) (ties : (a b : K) → same a b ≡ is_eq (cmp a b)) where
  -- ---- a place more

  pub record IsMore (old new : Table K V) (k : K) (end : ℕ) : Type 0 where
    pub absent : place_by cmp old k ≡ None
    pub behind : end ≡ length old.values
    pub places : (q : K) → place_by cmp new q ≡ cond (is_eq (cmp k q)) (Some end) (place_by cmp old q)
    pub values : new.values ≡ old.values ++ None ∷ []

  module _ (old new : Table K V) (k : K) (end : ℕ) (h : IsMore old new k end) where
    pub more_place : place_by cmp new k ≡ Some end
    more_place = h.places k ∙ rw (own same cmp decides ties k) refl

    before : (q : K) → is_eq (cmp k q) ≡ true → place_by cmp old q ≡ None
    before q e = ap (place_by cmp old) (sym (equal same cmp decides ties k q e)) ∙ h.absent

    pub more_stays : (q : K) (at : ℕ) → place_by cmp old q ≡ Some at → place_by cmp new q ≡ Some at
    more_stays q at is =
        h.places q ∙ elim (is_eq (cmp k q)) as (λ t. is_eq (cmp k q) ≡ t
        → cond t (Some end) (place_by cmp old q) ≡ Some at) [
          | true ↦ λ e. absurd (let x : None ≡ Some at = sym (before q e) ∙ is in cc)
          | false ↦ λ e. is
        ] refl

    last : value_at new.values end ≡ None
    last =
        ap (value_at new.values) h.behind
        ∙ ap (λ (values : List (Option V)). value_at values (length old.values)) h.values
        ∙ ap (λ (found : Option (Option V)). option_and_then (λ value. value) found) (last_get old.values None)

    front : (at : ℕ) → at < length old.values → value_at new.values at ≡ value_at old.values at
    front at below =
        ap (λ (values : List (Option V)). value_at values at) h.values
        ∙ ap (λ (found : Option (Option V)). option_and_then (λ value. value) found)
        (front_get old.values (None ∷ []) at below)

    pub more_same : IsTable cmp old → (q : K) → held_by cmp new q ≡ held_by cmp old q
    more_same is q =
        ap (λ (found : Option ℕ). option_and_then (value_at new.values) found) (h.places q)
        ∙ elim (is_eq (cmp k q)) as (λ t. is_eq (cmp k q) ≡ t
        → option_and_then (value_at new.values) (cond t (Some end) (place_by cmp old q))
        ≡ held_by cmp old q) [
          | true ↦ λ e. last
              ∙ sym (ap (λ (found : Option ℕ). option_and_then (value_at old.values) found) (before q e))
          | false ↦ λ e. there (place_by cmp old q) refl
        ] refl
      where
        there : (found : Option ℕ) → place_by cmp old q ≡ found
            → option_and_then (value_at new.values) found ≡ option_and_then (value_at old.values) found
        there None e = refl
        there (Some at) e = front at (is.within q at e)

    -- a place is the new one, or was one
    which : (q : K) (at : ℕ) → place_by cmp new q ≡ Some at → (P : Type 0)
        → (is_eq (cmp k q) ≡ true → at ≡ end → P) → (place_by cmp old q ≡ Some at → P) → P
    which q at is P here there =
        elim (is_eq (cmp k q)) as (λ t. is_eq (cmp k q) ≡ t
        → cond t (Some end) (place_by cmp old q) ≡ Some at → P) [
          | true ↦ λ e put. here e (sym (same_some end at put))
          | false ↦ λ e put. there put
        ] refl (sym (h.places q) ∙ is)

    pub more_table : IsTable cmp old → IsTable cmp new
    more_table is = record {
      within = λ q at put. which q at put (at < length new.values)
          (λ e last_is. rw (h.values) (omega (arith, last_is, h.behind, count)))
          (λ there. rw (h.values) (let below = is.within q at there in omega (arith, below, count)));
      apart = λ a b at put_a put_b. which a at put_a (is_eq (cmp a b) ≡ true)
          (λ e last_is. which b at put_b (is_eq (cmp a b) ≡ true)
          (λ f too. subst (λ (x : K). is_eq (cmp x b) ≡ true) (equal same cmp decides ties k a e) f)
          (λ there. absurd (let below = is.within b at there in omega (arith, below, last_is, h.behind))))
          (λ there. which b at put_b (is_eq (cmp a b) ≡ true)
          (λ f last_is. absurd (let below = is.within a at there in omega (arith, below, last_is, h.behind)))
          (λ other. is.apart a b at there other));
    }
      where
        count : length (old.values ++ None ∷ []) ≡ length old.values + 1
        count = length-append old.values (None ∷ [])

  -- ---- a value that is put

  module _ (old new : Table K V) (at : ℕ) (value : V) (is : IsTable cmp old) (below : at < length old.values)
      (places : new.places ≡ old.places) (values : new.values ≡ set old.values at (Some value)) where
    place_stays : (q : K) → place_by cmp new q ≡ place_by cmp old q
    place_stays q = ap (λ (list : List (K × ℕ)). lookup (λ other. is_eq (cmp q other)) list) places

    pub put_held : (k : K) → place_by cmp old k ≡ Some at → (q : K)
        → held_by cmp new q ≡ cond (same k q) (Some value) (held_by cmp old q)
    put_held k own_place q =
        elim (same k q) as (λ t. same k q ≡ t → held_by cmp new q ≡ cond t (Some value) (held_by cmp old q)) [
          | true ↦ λ e. ap (λ (found : Option ℕ). option_and_then (value_at new.values) found)
              (place_stays q ∙ ap (place_by cmp old) (sym ((decides k q).0 e)) ∙ own_place)
              ∙ ap (λ (list : List (Option V)). value_at list at) values
              ∙ ap (λ (found : Option (Option V)). option_and_then (λ value. value) found)
              (set_get old.values at (Some value) below)
          | false ↦ λ e. ap (λ (found : Option ℕ). option_and_then (value_at new.values) found) (place_stays q)
              ∙ there e (place_by cmp old q) refl
        ] refl
      where
        there : same k q ≡ false → (found : Option ℕ) → place_by cmp old q ≡ found
            → option_and_then (value_at new.values) found ≡ option_and_then (value_at old.values) found
        there e None f = refl
        there e (Some other) f =
            ap (λ (list : List (Option V)). value_at list other) values
            ∙ ap (λ (found : Option (Option V)). option_and_then (λ value. value) found)
            (other_get old.values at other (Some value) (λ at_is. absurd (let x : true ≡ false =
            sym (ties k q ∙ is.apart k q other (own_place ∙ ap Some at_is) f) ∙ e in cc)))

-- ---- values that are taken away

pub none_more : {V : Type 0} (values : List (Option V)) (at : ℕ) → at < length values
    → ((i : ℕ) → i < at → value_at values i ≡ None) → (i : ℕ) → i < at + 1 → value_at (set values at None) i ≡ None
none_more {V = V} values at below none i le =
    elim (i == at) as (λ t. (i == at) ≡ t → value_at (set values at None) i ≡ None) [
      | true ↦ λ e. ap (value_at (set values at None)) (eqb-true i at e)
          ∙ ap (λ (found : Option (Option V)). option_and_then (λ value. value) found) (set_get values at None below)
      | false ↦ λ e. let apart = eqb-false i at e in
          ap (λ (found : Option (Option V)). option_and_then (λ value. value) found)
          (other_get values at i None (λ same. absurd (omega arith))) ∙ none i (omega arith)
    ] refl

pub none_past : {V : Type 0} (values : List (Option V)) → ((i : ℕ) → i < length values → value_at values i ≡ None)
    → (i : ℕ) → value_at values i ≡ None
none_past {V = V} values none i =
    elim (nat_lt i (length values)) as (λ t. nat_lt i (length values) ≡ t → value_at values i ≡ None) [
      | true ↦ λ e. none i (ltb-true i (length values) e)
      | false ↦ λ e. ap (λ (found : Option (Option V)). option_and_then (λ value. value) found)
          (slice_get_past values i (ltb-false i (length values) e))
    ] refl
