-- Whether keys are distinct is told by their marks and the order of both.
use Rattle.std.proofs.Common.{◌≡◌, ℕ, ◌+◌, ◌<◌, Bool, true, false, ◌&&◌, List, [], ◌∷◌, length, map}
use Rattle.std.proofs.Common.{refl, sym, ap, ◌∙◌, subst, arith}
use denote.Ref.{Bor}
use lib.ListN.{get_or}
use Rattle.std.specs.Bool.{Decides, MatchBool}
use Rattle.std.specs.Cmp.{IsTotalOrder}
use Rattle.std.specs.Cmp.Lexicographic.{slice_cmp, on_texts}
use Rattle.std.specs.List.{AllByRecursion, AllAdjacentBelow, IsAllAdjacentAnswer, IsDistinct}
use Rattle.std.specs.List.Sorted.{IsPermutation, IsSorted}
use Rattle.std.specs.Ordering.{is_eq, is_lt, eq_by_cmp, nat_cmp, ordering_reverse, ordering_then}
use Rattle.std.specs.Str.{bytes_eq}
use Rattle.std.specs.declared.cmp.Ordering.{Ordering}
use Rattle.std.specs.declared.cmp.Ordering.TheVariants.{Less, Equal, Greater}
use Rattle.std.proofs.lemmas.Cmp.{eq_by_cmp_equiv, nat_cmp_total, on_total, then_total}
use Rattle.std.proofs.lemmas.List.Sorted.{IsPermutation-sym, ranks_by, sorted_far}
use Rattle.std.proofs.lemmas.Map.Keys.{IsDistinct-from_apart, IsDistinct-IsPermutation, apart_from_distinct}
use Rattle.std.proofs.lemmas.Map.Text.{is_eq-slice_cmp}
use Rattle.std.proofs.lemmas.Slice.Eq.{bytes_eq-Decides}
use Rattle.journal_reader.specs.KeyMarks.{mark_of}
use Rattle.journal_reader.specs.MetricReading.{are_fields}
use Rattle.journal_reader.proofs.KeyLemmas.{Field, AreDistinct, all_filled, fields_pass, fields_differ, no_fields}

-- ---- what is in order, and rises at each step, has nothing twice

module _ {K : Type 0} {R : K → K → Ordering} (o : IsTotalOrder R) where
  unequal : (a b next : K) → is_lt (R a next) ≡ true → is_lt (R b next) ≡ false → eq_by_cmp R a b ≡ false
  unequal a b next less not_less =
      at (R a b) (λ e. false_true (sym not_less ∙ sym (ap is_lt (o.congr a b next e)) ∙ less))
    where
      false_true : false ≡ true → ⊥
      false_true e = absurd cc

      at : (w : Ordering) → (w ≡ Equal → ⊥) → is_eq w ≡ false
      at Less f = refl
      at Equal f = absurd (f refl)
      at Greater f = refl

  equal : (a b : K) → is_lt (R a b) ≡ false → is_lt (R b a) ≡ false → eq_by_cmp R a b ≡ true
  equal a b above below = at (R a b) above (sym (ap is_lt (o.antisymm b a)) ∙ below)
    where
      at : (w : Ordering) → is_lt w ≡ false → is_lt (ordering_reverse w) ≡ false → is_eq w ≡ true
      at Less e f = absurd cc
      at Equal e f = refl
      at Greater e f = absurd cc

  apart : (xs : List K) → IsSorted R xs → AllAdjacentBelow (λ x y. true ≡ is_lt (R x y)) xs (length xs)
      → IsDistinct (eq_by_cmp R) xs
  apart xs up rise = IsDistinct-from_apart (eq_by_cmp R) xs (λ i j d lt below.
      unequal (get_or xs i d) (get_or xs j d) (get_or xs (i + 1) d) (sym (rise i d (omega (arith, lt, below))))
      (sorted_far (λ x y. is_lt (R x y)) (ranks_by o (λ x. x)) xs up (i + 1) j d (omega (arith, lt)) below))

  twice : (xs : List K) → IsSorted R xs → (k : ℕ) → k + 1 < length xs
      → ((d : K) → false ≡ is_lt (R (get_or xs k d) (get_or xs (k + 1) d))) → IsDistinct (eq_by_cmp R) xs → ⊥
  twice [] up k below stays distinct = absurd (omega (arith, below))
  twice (x ∷ xs) up k below stays distinct =
      let apart = apart_from_distinct (eq_by_cmp R) (x ∷ xs) k (k + 1) x distinct (omega arith) below in
      let same = equal (get_or (x ∷ xs) k x) (get_or (x ∷ xs) (k + 1) x) (sym (stays x))
      (up k x (omega arith) below) in
      absurd cc

  pub rise_if_distinct : (xs : List K) → IsSorted R xs → (r : Bool)
      → IsAllAdjacentAnswer (λ x y b. b ≡ is_lt (R x y)) xs r
      → MatchBool r (IsDistinct (eq_by_cmp R) xs) (IsDistinct (eq_by_cmp R) xs → ⊥)
  rise_if_distinct xs up true rise = apart xs up rise
  rise_if_distinct xs up false stays = twice xs up stays.0 stays.1 stays.2

-- ---- what is distinct by what is seen of it

all-map : {A B : Type 0} (P : B → Type 0) (h : A → B) (xs : List A)
    → AllByRecursion P (map h xs) ≡ AllByRecursion (λ x. P (h x)) xs
all-map P h [] = refl
all-map P h (x ∷ xs) = λ i. P (h x) × all-map P h xs i

distinct-map : {A B : Type 0} (e : B → B → Bool) (h : A → B) (xs : List A)
    → IsDistinct e (map h xs) ≡ IsDistinct (λ x y. e (h x) (h y)) xs
unfolding IsDistinct
distinct-map e h [] = refl
distinct-map e h (x ∷ xs) = λ i. all-map (λ y. e (h x) y ≡ false) h xs i × distinct-map e h xs i

-- a key with its mark, as the code has it, and as it is seen
abbrev pub Key : Type 0
Key = ℕ × Bor (List ℕ)

abbrev pub Seen : Type 0
Seen = ℕ × List ℕ

abbrev see : Key → Seen
see key = (key.0, key.1.now)

abbrev pub seen : List Key → List Seen
seen keys = map see keys

abbrev marked_key : Field → Seen
marked_key field = (mark_of field.0, field.0)

abbrev pub marked_keys : List Field → List Seen
marked_keys fields = map marked_key fields

abbrev seen_cmp : Seen → Seen → Ordering
seen_cmp x y = ordering_then (nat_cmp x.0 y.0) (slice_cmp nat_cmp x.1 y.1)

-- the order of keys with marks
abbrev pub key_cmp : Key → Key → Ordering
key_cmp x y = ordering_then (nat_cmp x.0 y.0) (slice_cmp nat_cmp x.1.now y.1.now)

key_total : IsTotalOrder key_cmp
key_total = then_total (on_total (λ (k : Key). k.0) nat_cmp_total) (on_texts (λ (k : Key). k.1.now))

-- marks beside texts tell no more than the texts
same_marks : (k l : List ℕ) → eq_by_cmp seen_cmp (mark_of k, k) (mark_of l, l) ≡ bytes_eq k l
same_marks k l =
    split (nat_cmp (mark_of k) (mark_of l))
    ∙ ap (λ (b : Bool). is_eq (nat_cmp (mark_of k) (mark_of l)) && b) (is_eq-slice_cmp k l)
    ∙ at (bytes_eq k l) (bytes_eq-Decides k l)
  where
    split : (w : Ordering)
        → is_eq (ordering_then w (slice_cmp nat_cmp k l)) ≡ (is_eq w && is_eq (slice_cmp nat_cmp k l))
    split Less = refl
    split Equal = refl
    split Greater = refl

    none : (b : Bool) → (b && false) ≡ false
    none true = refl
    none false = refl

    at : (b : Bool) → Decides b (k ≡ l) → (is_eq (nat_cmp (mark_of k) (mark_of l)) && b) ≡ b
    at true same = marks (same.0 refl)
      where
        marks : k ≡ l → (is_eq (nat_cmp (mark_of k) (mark_of l)) && true) ≡ true
        marks e = subst (λ (x : List ℕ). (is_eq (nat_cmp (mark_of k) (mark_of x)) && true) ≡ true) e
            (ap (λ (b : Bool). b && true) ((eq_by_cmp_equiv nat_cmp_total).refl (mark_of k)))
    at false differ = none (is_eq (nat_cmp (mark_of k) (mark_of l)))

-- keys are distinct where they are with their marks
distinct_keys : (keys : List Key) (fields : List Field) → seen keys ≡ marked_keys fields
    → IsDistinct (eq_by_cmp key_cmp) keys ≡ AreDistinct fields
distinct_keys keys fields same =
    sym (distinct-map (eq_by_cmp seen_cmp) see keys) ∙ ap (IsDistinct (eq_by_cmp seen_cmp)) same
    ∙ distinct-map (eq_by_cmp seen_cmp) marked_key fields
    ∙ (λ i. IsDistinct (λ (f g : Field). same_marks f.0 g.0 i) fields)
    ∙ sym (distinct-map bytes_eq (λ (f : Field). f.0) fields)

-- ---- what the sort and the pass behind it tell

pub told : (keys sorted : List Key) (fields : List Field) → seen keys ≡ marked_keys fields
    → all_filled fields ≡ true → IsPermutation keys sorted → IsSorted key_cmp sorted → (r : Bool)
    → IsAllAdjacentAnswer (λ x y b. b ≡ is_lt (key_cmp x y)) sorted r → r ≡ are_fields [] fields
told keys sorted fields same filled moved up r rise = at r (rise_if_distinct key_total sorted up r rise)
  where
    flips : (x y : Key) → eq_by_cmp key_cmp x y ≡ eq_by_cmp key_cmp y x
    flips = (eq_by_cmp_equiv key_total).symm

    to : IsDistinct (eq_by_cmp key_cmp) sorted → AreDistinct fields
    to h = subst (λ (P : Type 0). P) (distinct_keys keys fields same)
        (IsDistinct-IsPermutation (eq_by_cmp key_cmp) flips sorted keys (IsPermutation-sym keys sorted moved) h)

    back : AreDistinct fields → IsDistinct (eq_by_cmp key_cmp) sorted
    back h = IsDistinct-IsPermutation (eq_by_cmp key_cmp) flips keys sorted moved
        (subst (λ (P : Type 0). P) (sym (distinct_keys keys fields same)) h)

    at : (r : Bool) → MatchBool r (IsDistinct (eq_by_cmp key_cmp) sorted)
        (IsDistinct (eq_by_cmp key_cmp) sorted → ⊥) → r ≡ are_fields [] fields
    at true h = sym (fields_pass fields filled (to h))
    at false h = sym (no_fields fields (λ e. h (back (fields_differ [] fields e).distinct)))
