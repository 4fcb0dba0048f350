-- What is made of a series is a metric.
use Rattle.std.proofs.Common.{◌≡◌, ◌<◌, ◌==◌, ℕ, ℤ, true, false, cond, Bool, List, [], ◌∷◌, ◌++◌, length, drop}
use Rattle.std.proofs.Common.{pos, reverse, get_or, refl, sym, ap, subst, ◌∙◌, arith, length-append, Some, None}
use Rattle.std.specs.Prelude.{codes, nat_eq, is_some, Option, Result, Ok, Err, IfOk, FitsSigned}
use Rattle.std.specs.Cmp.Lexicographic.{pointwise}
use Rattle.std.specs.Int.{w64}
use Rattle.std.specs.List.{flat_map, AllByRecursion, IsDistinct}
use Rattle.std.specs.Map.{keys_of}
use Rattle.std.specs.Str.{bytes_eq, IsUtf8}
use Rattle.std.proofs.lemmas.List.{map-append, reverse-append, reverse-reverse}
use Rattle.std.proofs.lemmas.Slice.Eq.{bytes_eq-Decides}
use Rattle.std.proofs.lemmas.Str.{IsUtf8-append}
use Rattle.metric.specs.Draft.{Field}
use Rattle.metric.specs.Metric.{IsField, IsMetric, IsWord}
use Rattle.metric.specs.Series.{Series}
use Rattle.metric.specs.declared.metric.Content.{Content}
use Rattle.metric.specs.declared.value.Value.{Value}
use Rattle.metric.specs.declared.value.Value.TheVariants.{Int}
use Rattle.metric.proofs.PairLemmas.{AllKeys}
use Rattle.agg_stats.specs.Asked.{given_of, named, where_asked, Asked}
use Rattle.agg_stats.specs.Folds.{metric_at}
use Rattle.agg_stats.specs.Kept.{Sums}
use Rattle.agg_stats.specs.Summary.{value_in, Summary}
use Rattle.metric.proofs.GroupLemmas.{not_same, same_texts}

-- ---- a key and the name behind it

-- the last byte of a key, which tells the name
abbrev mark : List ℕ → ℕ
mark key = get_or (reverse key) 0 0

-- how long the name is
abbrev name_length : ℕ → ℕ
name_length last = cond (last == 116) 6 4

-- the key without it
abbrev stem : List ℕ → List ℕ
stem key = reverse (drop (name_length (mark key)) (reverse key))

sum_back : (key : List ℕ) → reverse (key ++ codes "_sum") ≡ reverse (codes "_sum") ++ reverse key
sum_back key = reverse-append key (codes "_sum")

count_back : (key : List ℕ) → reverse (key ++ codes "_count") ≡ reverse (codes "_count") ++ reverse key
count_back key = reverse-append key (codes "_count")

min_back : (key : List ℕ) → reverse (key ++ codes "_min") ≡ reverse (codes "_min") ++ reverse key
min_back key = reverse-append key (codes "_min")

max_back : (key : List ℕ) → reverse (key ++ codes "_max") ≡ reverse (codes "_max") ++ reverse key
max_back key = reverse-append key (codes "_max")

-- a key with its name, its mark and its stem
record IsNamed (key : List ℕ) (last : ℕ) (name : List ℕ) : Type 0 where
  marked : mark (key ++ name) ≡ last
  stemmed : stem (key ++ name) ≡ key

is_sum : (key : List ℕ) → IsNamed key 109 (codes "_sum")
is_sum key = record { marked = rw (sum_back key) refl; stemmed = rw (sum_back key) (reverse-reverse key) }

is_count : (key : List ℕ) → IsNamed key 116 (codes "_count")
is_count key = record { marked = rw (count_back key) refl; stemmed = rw (count_back key) (reverse-reverse key) }

is_min : (key : List ℕ) → IsNamed key 110 (codes "_min")
is_min key = record { marked = rw (min_back key) refl; stemmed = rw (min_back key) (reverse-reverse key) }

is_max : (key : List ℕ) → IsNamed key 120 (codes "_max")
is_max key = record { marked = rw (max_back key) refl; stemmed = rw (max_back key) (reverse-reverse key) }

-- keys with other marks differ
other_mark : (a b : List ℕ) (m n : ℕ) → mark a ≡ m → mark b ≡ n → (m ≡ n → ⊥) → bytes_eq a b ≡ false
other_mark a b m n am bn apart =
    not_same (bytes_eq a b) (λ same. apart (sym am ∙ ap mark ((bytes_eq-Decides a b).0 same) ∙ bn))

-- ---- one field

-- the key, where there is a value
abbrev key_where : Bool → List ℕ → List (List ℕ)
key_where true key = key ∷ []
key_where false key = []

front_keys : (key name : List ℕ) (value : Option Value) (rest : List Field) (keys : List (List ℕ))
    → keys_of rest ≡ keys → keys_of (named key name value ++ rest) ≡ key_where (is_some value) (key ++ name) ++ keys
unfolding named
front_keys key name None rest keys e = e
front_keys key name (Some value) rest keys e = ap (λ (ks : List (List ℕ)). (key ++ name) ∷ ks) e

last_keys : (key name : List ℕ) (value : Option Value)
    → keys_of (named key name value) ≡ key_where (is_some value) (key ++ name) ++ []
unfolding named
last_keys key name None = refl
last_keys key name (Some value) = refl

abbrev key_eq : List ℕ → List ℕ → Bool
key_eq = pointwise nat_eq

apart_where : (t : Bool) (one key : List ℕ) (keys : List (List ℕ)) → bytes_eq one key ≡ false
    → AllByRecursion (λ k. key_eq one k ≡ false) keys
    → AllByRecursion (λ k. key_eq one k ≡ false) (key_where t key ++ keys)
apart_where true one key keys e h = (e, h)
apart_where false one key keys e h = h

distinct_where : (t : Bool) (key : List ℕ) (keys : List (List ℕ)) → AllByRecursion (λ k. key_eq key k ≡ false) keys
    → IsDistinct key_eq keys → IsDistinct key_eq (key_where t key ++ keys)
unfolding IsDistinct
distinct_where true key keys h d = (h, d)
distinct_where false key keys h d = d

stems_where : (t : Bool) (key stem_is : List ℕ) (keys : List (List ℕ)) → stem key ≡ stem_is
    → AllByRecursion (λ k. stem k ≡ stem_is) keys → AllByRecursion (λ k. stem k ≡ stem_is) (key_where t key ++ keys)
stems_where true key stem_is keys e h = (e, h)
stems_where false key stem_is keys e h = h

-- the keys that are given of a field
abbrev four : Bool → Bool → Bool → Bool → List ℕ → List (List ℕ)
four a b c d key =
    key_where a (key ++ codes "_sum") ++ (key_where b (key ++ codes "_count")
    ++ (key_where c (key ++ codes "_min") ++ (key_where d (key ++ codes "_max") ++ [])))

four_distinct : (a b c d : Bool) (key : List ℕ) → IsDistinct key_eq (four a b c d key)
unfolding IsDistinct
four_distinct a b c d key =
    let sum = (is_sum key).marked in
    let count = (is_count key).marked in
    let min = (is_min key).marked in
    let max = (is_max key).marked in
    let s = key ++ codes "_sum" in
    let n = key ++ codes "_count" in
    let l = key ++ codes "_min" in
    let g = key ++ codes "_max" in
    let gs = key_where d g ++ [] in
    let ls = key_where c l ++ gs in
    let ns = key_where b n ++ ls in
    distinct_where a s ns
    (apart_where b s n ls (other_mark s n 109 116 sum count (λ e. absurd (omega arith)))
    (apart_where c s l gs (other_mark s l 109 110 sum min (λ e. absurd (omega arith)))
    (apart_where d s g [] (other_mark s g 109 120 sum max (λ e. absurd (omega arith))) tt)))
    (distinct_where b n ls
    (apart_where c n l gs (other_mark n l 116 110 count min (λ e. absurd (omega arith)))
    (apart_where d n g [] (other_mark n g 116 120 count max (λ e. absurd (omega arith))) tt))
    (distinct_where c l gs
    (apart_where d l g [] (other_mark l g 110 120 min max (λ e. absurd (omega arith))) tt)
    (distinct_where d g [] tt tt)))

four_stems : (a b c d : Bool) (key : List ℕ) → AllByRecursion (λ k. stem k ≡ key) (four a b c d key)
four_stems a b c d key =
    stems_where a _ key _ (is_sum key).stemmed (stems_where b _ key _ (is_count key).stemmed
    (stems_where c _ key _ (is_min key).stemmed (stems_where d _ key [] (is_max key).stemmed tt)))

-- which statistics of a field there are
abbrev has_sum : Asked → Summary → Bool
has_sum asked s = is_some (where_asked asked.sum (value_in s s.sum))

abbrev has_min : Asked → Summary → Bool
has_min asked s = is_some (where_asked asked.min (value_in s s.least))

abbrev has_max : Asked → Summary → Bool
has_max asked s = is_some (where_asked asked.max (value_in s s.greatest))

four_keys : (key : List ℕ) (sum count min max : Option Value)
    → keys_of (named key (codes "_sum") sum ++ (named key (codes "_count") count
    ++ (named key (codes "_min") min ++ named key (codes "_max") max)))
    ≡ four (is_some sum) (is_some count) (is_some min) (is_some max) key
four_keys key sum count min max =
    let maxes = named key (codes "_max") max in
    let mins = named key (codes "_min") min ++ maxes in
    let counts = named key (codes "_count") count ++ mins in
    let max_keys = key_where (is_some max) (key ++ codes "_max") ++ [] in
    let min_keys = key_where (is_some min) (key ++ codes "_min") ++ max_keys in
    let count_keys = key_where (is_some count) (key ++ codes "_count") ++ min_keys in
    front_keys key (codes "_sum") sum counts count_keys
    (front_keys key (codes "_count") count mins min_keys
    (front_keys key (codes "_min") min maxes max_keys (last_keys key (codes "_max") max)))

given_keys : (asked : Asked) (pair : List ℕ × Summary) → (b : Bool)
    × (keys_of (given_of asked pair)
    ≡ four (has_sum asked pair.1) b (has_min asked pair.1) (has_max asked pair.1) pair.0)
unfolding given_of
given_keys asked pair = (
  is_some (where_asked asked.count (Some (Int (pos pair.1.count)))),
  four_keys pair.0 (where_asked asked.sum (value_in pair.1 pair.1.sum))
      (where_asked asked.count (Some (Int (pos pair.1.count)))) (where_asked asked.min (value_in pair.1 pair.1.least))
      (where_asked asked.max (value_in pair.1 pair.1.greatest)),
)

-- ---- all fields

apart_each : (one : List ℕ) (key : List ℕ) (keys : List (List ℕ)) → stem one ≡ key
    → AllByRecursion (λ k. bytes_eq key (stem k) ≡ false) keys → AllByRecursion (λ k. key_eq one k ≡ false) keys
apart_each one key [] e h = tt
apart_each one key (k ∷ keys) e h = (
  not_same (bytes_eq one k) (λ same. true_false (sym (same_texts key (stem k)
      (sym e ∙ ap stem ((bytes_eq-Decides one k).0 same))) ∙ h.0)),
  apart_each one key keys e h.1,
)
  where
    true_false : true ≡ false → ⊥
    true_false e = absurd cc

distinct_append : (key : List ℕ) (front rest : List (List ℕ)) → AllByRecursion (λ k. stem k ≡ key) front
    → AllByRecursion (λ k. bytes_eq key (stem k) ≡ false) rest → IsDistinct key_eq front → IsDistinct key_eq rest
    → IsDistinct key_eq (front ++ rest)
unfolding IsDistinct
distinct_append key [] rest s h d e = e
distinct_append key (one ∷ front) rest s h d e = (
  both front d.0,
  distinct_append key front rest s.1 h d.1 e,
)
  where
    both : (ks : List (List ℕ)) → AllByRecursion (λ k. key_eq one k ≡ false) ks
        → AllByRecursion (λ k. key_eq one k ≡ false) (ks ++ rest)
    both [] h2 = apart_each one key rest s.0 h
    both (k ∷ ks) h2 = (h2.0, both ks h2.1)

-- what holds of the keys holds of the stems of what is given
stems : (P : List ℕ → Type 0) (key : List ℕ) (ks : List (List ℕ)) → P key → AllByRecursion (λ k. stem k ≡ key) ks
    → AllByRecursion (λ k. P (stem k)) ks
stems P key [] p s = tt
stems P key (k ∷ ks) p s = (subst P (sym s.0) p, stems P key ks p s.1)

joined : (Q : List ℕ → Type 0) (xs ys : List (List ℕ)) → AllByRecursion Q xs → AllByRecursion Q ys
    → AllByRecursion Q (xs ++ ys)
joined Q [] ys a b = b
joined Q (x ∷ xs) ys a b = (a.0, joined Q xs ys a.1 b)

all_stems : (P : List ℕ → Type 0) (asked : Asked) (sums : Sums) → AllKeys P sums
    → AllByRecursion (λ k. P (stem k)) (keys_of (flat_map (given_of asked) sums))
all_stems P asked [] h = tt
all_stems P asked (pair ∷ sums) h =
    let given = given_keys asked pair in
    let keys = four (has_sum asked pair.1) given.0 (has_min asked pair.1) (has_max asked pair.1) pair.0 in
    rw (map-append (λ (field : Field). field.0) (given_of asked pair) (flat_map (given_of asked) sums), given.1)
    (joined (λ k. P (stem k)) keys _ (stems P pair.0 keys h.0
    (four_stems (has_sum asked pair.1) given.0 (has_min asked pair.1) (has_max asked pair.1) pair.0))
    (all_stems P asked sums h.1))

pub given_distinct : (asked : Asked) (sums : Sums) → IsDistinct key_eq (keys_of sums)
    → IsDistinct key_eq (keys_of (flat_map (given_of asked) sums))
unfolding IsDistinct
given_distinct asked [] d = tt
given_distinct asked (pair ∷ sums) d =
    let given = given_keys asked pair in
    rw (map-append (λ (field : Field). field.0) (given_of asked pair) (flat_map (given_of asked) sums), given.1)
    (distinct_append pair.0 _ _
    (four_stems (has_sum asked pair.1) given.0 (has_min asked pair.1) (has_max asked pair.1) pair.0)
    (all_stems (λ k. bytes_eq pair.0 k ≡ false) asked sums d.0)
    (four_distinct (has_sum asked pair.1) given.0 (has_min asked pair.1) (has_max asked pair.1) pair.0)
    (given_distinct asked sums d.1))

-- ---- the metric

pub is_metric : (m new : Content) (asked : Asked) (sums : Sums) → IsMetric m → IsDistinct key_eq (keys_of sums)
    → new.name ≡ m.name → new.tags ≡ m.tags → new.fields ≡ flat_map (given_of asked) sums
    → AllByRecursion IsField new.fields → 0 < length new.fields → FitsSigned w64 new.time → IsMetric new
is_metric m new asked sums h d name tags fields valid some time = record {
  name = rw name h.name;
  tags = rw tags h.tags;
  sorted = rw tags h.sorted;
  some = some;
  fields = valid;
  distinct = rw fields (given_distinct asked sums d);
  time = time;
}

pub made_some : (time : ℤ) (series : Series) (new : Content) → 0 < length new.fields → new.name ≡ series.0
    → new.tags ≡ series.1 → new.time ≡ time → metric_at time series new.fields ≡ Some new
unfolding metric_at
made_some time series new some name tags at = some_fields new.fields some refl
  where
    some_fields : (fields : List Field) → 0 < length fields → new.fields ≡ fields
        → metric_at time series fields ≡ Some new
    some_fields [] some e = absurd (omega arith)
    some_fields (field ∷ fields) some e =
        λ i. Some (record { name = sym name i; tags = sym tags i; fields = sym e i; time = sym at i })

pub made_none : (time : ℤ) (series : Series) (fields : List Field) → length fields ≡ 0
    → None ≡ metric_at time series fields
unfolding metric_at
made_none time series [] e = refl
made_none time series (field ∷ fields) e = absurd (omega (arith, e))

-- ---- a key with a name behind it

pub ok_word : {E : Type 0} (result : Result (List ℕ) E) (text : List ℕ) → IfOk result (λ t. t ≡ text) → IsWord text
    → IfOk result IsWord
ok_word (Ok t) text e w = subst IsWord (sym e) w
ok_word (Err x) text e w = tt

pub joined_word : (key name read start first second : List ℕ) → IsWord key → IsUtf8 name → start ≡ [] → read ≡ key
    → first ≡ start ++ read → second ≡ first ++ name → IsWord second
joined_word key name read start first second k u empty same begun done =
    subst IsWord (sym (done ∙ ap (λ (t : List ℕ). t ++ name) (begun ∙ ap (λ (t : List ℕ). t ++ read) empty ∙ same)))
    (record {
      filled = omega (arith, k.filled, length-append key name);
      utf8 = IsUtf8-append key name k.utf8 u;
    })
