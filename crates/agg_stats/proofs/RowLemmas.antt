-- The keys of the numbers of a series.
use Rattle.std.proofs.Common.{◌≡◌, ◌+◌, ◌≤◌, ◌<◌, ◌||◌, ◌&&◌, ◌++◌, ◌∙◌, ℕ, zero, suc, Bool, true, false, not, cond}
use Rattle.std.proofs.Common.{List, []}
use Rattle.std.proofs.Common.{◌∷◌, length, get_or, set, refl, sym, ap, subst, arith, append-nil, Some, None}
use Rattle.std.specs.Prelude.{nat_eq, is_ok, Option, Result, Ok, Err, IsOk}
use Rattle.std.specs.Cmp.Lexicographic.{pointwise}
use Rattle.std.specs.List.{position, position_or_len, AllByRecursion, IsDistinct}
use Rattle.std.specs.Map.{keys_of}
use Rattle.std.specs.Str.{bytes_eq}
use Rattle.std.proofs.lemmas.Bool.{lt-ltb}
use Rattle.std.proofs.lemmas.List.{get_or_default}
use Rattle.std.proofs.lemmas.List.Quantifiers.{position-Some}
use Rattle.std.proofs.lemmas.List.Sums.{position_or_len_is}
use Rattle.std.proofs.lemmas.Slice.Eq.{bytes_eq-Decides}
use Rattle.metric.specs.Draft.{Field}
use Rattle.metric.specs.Metric.{IsField, IsMetric, IsWord}
use Rattle.metric.specs.Pairs.{has_key, with_pair}
use Rattle.metric.specs.Series.{Series}
use Rattle.metric.specs.declared.metric.Content.{Content}
use Rattle.metric.specs.declared.value.Value.{Value}
use Rattle.metric.proofs.ChangeLemmas.{key_at, no_key}
use Rattle.metric.proofs.GroupLemmas.{same_texts}
use Rattle.metric.proofs.MetricLemmas.{each_pair}
use Rattle.metric.proofs.PairLemmas.{all_other, with_pair-distinct, AllKeys}
use Rattle.agg_stats.specs.Kept.{all_changed, all_fresh, change_at, changed, empty_summary, fresh_of, stands_at}
use Rattle.agg_stats.specs.Kept.{summary_at, with_field, with_fields, with_number, AreDistinct, AreSums, RowMemory}
use Rattle.agg_stats.specs.Kept.{Sums}
use Rattle.agg_stats.specs.Summary.{is_number, Summary}

true_false : true ≡ false → ⊥
true_false e = absurd cc

-- ---- what the fields make are sums

one_more : (sums : Sums) (field : Field) → AreSums sums → IsField field → AreSums (with_field sums field)
one_more sums field h f =
    let new = with_number field.1 (summary_at sums field.0) in
    elim (is_number field.1) as (λ t. AreSums (cond t (with_pair sums field.0 new) sums)) [
      | true ↦ record {
        words = each_pair (λ (pair : List ℕ × Summary). IsWord pair.0) sums field.0 new f.0 h.words;
        distinct = with_pair-distinct sums field.0 new h.distinct;
      }
      | false ↦ h
    ]

are_sums : (sums : Sums) (fields : List Field) → AreSums sums → AllByRecursion IsField fields
    → AreSums (with_fields sums fields)
are_sums sums [] h f = h
are_sums sums (field ∷ fields) h f = are_sums (with_field sums field) fields (one_more sums field h f.0) f.1

none_sums : AreSums []
unfolding IsDistinct
none_sums = record { words = tt; distinct = tt }

-- ---- new keys without numbers change nothing

-- a number more at a key that is there
change_in : (value : Value) (sums rest : Sums) (key : List ℕ) → has_key sums key ≡ true
    → change_at value (sums ++ rest) key ≡ with_pair sums key (with_number value (summary_at sums key)) ++ rest
unfolding change_at with_pair
change_in value [] rest key h = absurd (true_false (sym h))
change_in value (pair ∷ sums) rest key h =
    elim (bytes_eq pair.0 key) as (λ t. bytes_eq pair.0 key ≡ t → change_at value ((pair ∷ sums) ++ rest) key
    ≡ with_pair (pair ∷ sums) key (with_number value (summary_at (pair ∷ sums) key)) ++ rest) [
      | true ↦ λ e. rw e (ap (λ (k : List ℕ). (k, with_number value pair.1) ∷ (sums ++ rest))
          ((bytes_eq-Decides pair.0 key).0 e))
      | false ↦ λ e.
          let there : has_key sums key ≡ true = sym (ap (λ (t : Bool). t || has_key sums key) e) ∙ h in
          rw e (ap (λ (s : Sums). pair ∷ s) (change_in value sums rest key there))
    ] refl

-- and at one that is new
change_new : (value : Value) (sums rest : Sums) (key : List ℕ) → has_key sums key ≡ false
    → change_at value (sums ++ ((key, empty_summary) ∷ rest)) key
    ≡ with_pair sums key (with_number value (summary_at sums key)) ++ rest
unfolding change_at with_pair
change_new value [] rest key h = rw (same_texts key key refl) refl
change_new value (pair ∷ sums) rest key h =
    elim (bytes_eq pair.0 key) as (λ t. bytes_eq pair.0 key ≡ t
    → change_at value ((pair ∷ sums) ++ ((key, empty_summary) ∷ rest)) key
    ≡ with_pair (pair ∷ sums) key (with_number value (summary_at (pair ∷ sums) key)) ++ rest) [
      | true ↦ λ e. absurd (true_false (sym (ap (λ (t : Bool). t || has_key sums key) e) ∙ h))
      | false ↦ λ e.
          let apart : has_key sums key ≡ false = sym (ap (λ (t : Bool). t || has_key sums key) e) ∙ h in
          rw e (ap (λ (s : Sums). pair ∷ s) (change_new value sums rest key apart))
    ] refl

first_changed : (sums rest : Sums) (field : Field)
    → changed (sums ++ (fresh_of sums field ++ rest)) field ≡ with_field sums field ++ rest
first_changed sums rest field =
    let new = with_number field.1 (summary_at sums field.0) in
    elim (is_number field.1) as (λ n.
    cond n (change_at field.1 (sums ++ (cond (n && not (has_key sums field.0)) ((field.0, empty_summary) ∷ []) []
    ++ rest))
    field.0) (sums ++ (cond (n && not (has_key sums field.0)) ((field.0, empty_summary) ∷ []) [] ++ rest))
    ≡ cond n (with_pair sums field.0 new) sums ++ rest) [
      | true ↦ elim (has_key sums field.0) as (λ t. has_key sums field.0 ≡ t
          → change_at field.1 (sums ++ (cond (not t) ((field.0, empty_summary) ∷ []) [] ++ rest)) field.0
          ≡ with_pair sums field.0 new ++ rest) [
            | true ↦ λ e. change_in field.1 sums rest field.0 e
            | false ↦ λ e. change_new field.1 sums rest field.0 e
          ] refl
      | false ↦ refl
    ]

other_key : (sums : Sums) (key : List ℕ) (new : Summary) (one : List ℕ) → bytes_eq key one ≡ false
    → has_key sums one ≡ has_key (with_pair sums key new) one
unfolding with_pair
other_key [] key new one apart = rw apart refl
other_key (pair ∷ sums) key new one apart =
    elim (bytes_eq pair.0 key) as (λ t. bytes_eq pair.0 key ≡ t → (bytes_eq pair.0 one || has_key sums one)
    ≡ has_key (cond t ((key, new) ∷ sums) (pair ∷ with_pair sums key new)) one) [
      | true ↦ λ e. ap (λ (k : List ℕ). bytes_eq k one || has_key sums one) ((bytes_eq-Decides pair.0 key).0 e)
      | false ↦ λ e. ap (λ (t : Bool). bytes_eq pair.0 one || t) (other_key sums key new one apart)
    ] refl

other_field : (sums : Sums) (field one : Field) → bytes_eq field.0 one.0 ≡ false
    → fresh_of sums one ≡ fresh_of (with_field sums field) one
other_field sums field one apart =
    let new = with_number field.1 (summary_at sums field.0) in
    ap (λ (t : Bool). cond (is_number one.1 && not t) ((one.0, empty_summary) ∷ []) [])
    (elim (is_number field.1) as (λ n.
    has_key sums one.0 ≡ has_key (cond n (with_pair sums field.0 new) sums) one.0)
    [ true ↦ other_key sums field.0 new one.0 apart | false ↦ refl ])

other_fields : (sums : Sums) (field : Field) (fields : List Field)
    → AllByRecursion (λ key. bytes_eq field.0 key ≡ false) (keys_of fields)
    → all_fresh sums fields ≡ all_fresh (with_field sums field) fields
other_fields sums field [] h = refl
other_fields sums field (one ∷ fields) h =
    ap (λ (first : Sums). first ++ all_fresh sums fields) (other_field sums field one h.0)
    ∙ ap (λ (rest : Sums). fresh_of (with_field sums field) one ++ rest) (other_fields sums field fields h.1)

pub changed_fresh : (sums : Sums) (fields : List Field) → IsDistinct (pointwise nat_eq) (keys_of fields)
    → all_changed (sums ++ all_fresh sums fields) fields ≡ with_fields sums fields
unfolding IsDistinct
changed_fresh sums [] d = append-nil sums
changed_fresh sums (field ∷ fields) d =
    ap (λ (s : Sums). all_changed s fields) (first_changed sums (all_fresh sums fields) field)
    ∙ ap (λ (rest : Sums). all_changed (with_field sums field ++ rest) fields) (other_fields sums field fields d.0)
    ∙ changed_fresh (with_field sums field) fields d.1

-- ---- the keys stay distinct

keys_change : (value : Value) (sums : Sums) (key : List ℕ) → keys_of (change_at value sums key) ≡ keys_of sums
unfolding change_at
keys_change value [] key = refl
keys_change value (pair ∷ sums) key =
    elim (bytes_eq pair.0 key) as (λ t.
    keys_of (cond t ((pair.0, with_number value pair.1) ∷ sums) (pair ∷ change_at value sums key))
    ≡ pair.0 ∷ keys_of sums) [
      | true ↦ refl
      | false ↦ ap (λ (keys : List (List ℕ)). pair.0 ∷ keys) (keys_change value sums key)
    ]

keys_changed : (sums : Sums) (field : Field) → keys_of (changed sums field) ≡ keys_of sums
keys_changed sums field =
    elim (is_number field.1) as (λ n. keys_of (cond n (change_at field.1 sums field.0) sums) ≡ keys_of sums)
    [ true ↦ keys_change field.1 sums field.0 | false ↦ refl ]

keys_all_changed : (sums : Sums) (fields : List Field) → keys_of (all_changed sums fields) ≡ keys_of sums
keys_all_changed sums [] = refl
keys_all_changed sums (field ∷ fields) = keys_all_changed (changed sums field) fields ∙ keys_changed sums field

pub distinct_changed : (sums new : Sums) (field : Field) → AreDistinct sums → new ≡ changed sums field → AreDistinct new
distinct_changed sums new field d e =
    subst (IsDistinct (pointwise nat_eq)) (sym (ap keys_of e ∙ keys_changed sums field)) d

-- with the new keys of a metric
pub distinct_fresh : (sums : Sums) (m : Content) → AreSums sums → IsMetric m
    → AreDistinct (sums ++ all_fresh sums m.fields)
distinct_fresh sums m h is =
    subst (IsDistinct (pointwise nat_eq)) (sym (ap keys_of (changed_fresh sums m.fields is.distinct))
    ∙ keys_all_changed (sums ++ all_fresh sums m.fields) m.fields) (are_sums sums m.fields h is.fields).distinct

-- ---- a metric more

pub row_changed : (before with_keys after : Sums) (m : Content) → IsMetric m
    → with_keys ≡ before ++ all_fresh before m.fields → after ≡ all_changed with_keys m.fields
    → after ≡ with_fields before m.fields
row_changed before with_keys after m is keys e =
    e ∙ ap (λ (s : Sums). all_changed s m.fields) keys ∙ changed_fresh before m.fields is.distinct

pub row_sums : (before after : Sums) (m : Content) → AreSums before → IsMetric m
    → after ≡ with_fields before m.fields → AreSums after
row_sums before after m h is e = subst AreSums (sym e) (are_sums before m.fields h is.fields)

pub first_sums : AreSums []
first_sums = none_sums

-- ---- where a key stands

pub stands_here : (sums : Sums) (at : ℕ) (key : List ℕ) (d : List ℕ × Summary) → at < length sums
    → bytes_eq (get_or sums at d).0 key ≡ stands_at sums at key
stands_here [] at key d h = absurd (omega arith)
stands_here (pair ∷ sums) zero key d h = refl
stands_here (pair ∷ sums) (suc at) key d h = stands_here sums at key d (omega arith)

pub stands_past : (sums : Sums) (at : ℕ) (key : List ℕ) → length sums ≤ at → false ≡ stands_at sums at key
stands_past [] at key h = refl
stands_past (pair ∷ sums) zero key h = absurd (omega arith)
stands_past (pair ∷ sums) (suc at) key h = stands_past sums at key (omega arith)

stands_within : (sums : Sums) (at : ℕ) (key : List ℕ) → stands_at sums at key ≡ true → at < length sums
stands_within [] at key h = absurd (true_false (sym h))
stands_within (pair ∷ sums) zero key h = omega arith
stands_within (pair ∷ sums) (suc at) key h =
    let within : at < length sums = stands_within sums at key h in omega arith

apart_at : (one : List ℕ) (sums : Sums) (at : ℕ) (key : List ℕ)
    → AllByRecursion (λ k. bytes_eq one k ≡ false) (keys_of sums) → stands_at sums at key ≡ true
    → bytes_eq one key ≡ false
apart_at one [] at key h e = absurd (true_false (sym e))
apart_at one (pair ∷ sums) zero key h e =
    subst (λ (k : List ℕ). bytes_eq one k ≡ false) ((bytes_eq-Decides pair.0 key).0 e) h.0
apart_at one (pair ∷ sums) (suc at) key h e = apart_at one sums at key h.1 e

before_at : (sums : Sums) (at : ℕ) (key : List ℕ) (d : List ℕ × Summary) → AreDistinct sums
    → stands_at sums at key ≡ true → (k : ℕ) → k < at → bytes_eq (get_or sums k d).0 key ≡ false
unfolding IsDistinct
before_at [] at key d h e k below = absurd (true_false (sym e))
before_at (pair ∷ sums) zero key d h e k below = absurd (omega arith)
before_at (pair ∷ sums) (suc at) key d h e zero below = apart_at pair.0 sums at key h.0 e
before_at (pair ∷ sums) (suc at) key d h e (suc k) below = before_at sums at key d h.1 e k (omega arith)

abbrev is_key : List ℕ → List ℕ × Summary → Bool
is_key key pair = bytes_eq pair.0 key

-- the key stands at one place alone
pub guessed : (sums : Sums) (at : ℕ) (key : List ℕ) → AreDistinct sums → stands_at sums at key ≡ true
    → position (λ pair. bytes_eq pair.0 key) sums ≡ Some at
guessed sums at key d e =
    let none : List ℕ × Summary = (key, empty_summary) in
    let within = stands_within sums at key e in
    let first : position_or_len (is_key key) sums ≡ at = position_or_len_is (is_key key) sums at none (omega arith)
    (before_at sums at key none d e) (λ below. stands_here sums at key none within ∙ e) in
    rw (first, lt-ltb at (length sums) within) refl

-- ---- a number more at a key

change_set : (value : Value) (sums : Sums) (i : ℕ) (key : List ℕ) (d : List ℕ × Summary) → i < length sums
    → bytes_eq (get_or sums i d).0 key ≡ true → ((k : ℕ) → k < i → bytes_eq (get_or sums k d).0 key ≡ false)
    → change_at value sums key ≡ set sums i ((get_or sums i d).0, with_number value (get_or sums i d).1)
unfolding change_at
change_set value [] i key d lt here before = absurd (omega arith)
change_set value (pair ∷ sums) zero key d lt here before = rw here refl
change_set value (pair ∷ sums) (suc i) key d lt here before =
    let first : bytes_eq pair.0 key ≡ false = before 0 (omega arith) in
    rw first (ap (λ (s : Sums). pair ∷ s) (change_set value sums i key d (omega arith) here
    (λ k below. before (suc k) (omega arith))))

pub change_found : (value : Value) (sums : Sums) (i : ℕ) (key : List ℕ) (d : List ℕ × Summary)
    → position (λ pair. bytes_eq pair.0 key) sums ≡ Some i
    → change_at value sums key ≡ set sums i ((get_or sums i d).0, with_number value (get_or sums i d).1)
change_found value sums i key d e =
    let found = position-Some (is_key key) sums i d e in
    change_set value sums i key d found.0 found.1 found.2

change_other : (value : Value) (sums : Sums) (key : List ℕ) → AllKeys (λ k. bytes_eq k key ≡ false) sums
    → change_at value sums key ≡ sums
unfolding change_at
change_other value [] key h = refl
change_other value (pair ∷ sums) key h =
    rw h.0 (ap (λ (s : Sums). pair ∷ s) (change_other value sums key h.1))

pub change_none : (value : Value) (sums : Sums) (key : List ℕ) → position (λ pair. bytes_eq pair.0 key) sums ≡ None
    → change_at value sums key ≡ sums
change_none value sums key e = change_other value sums key (all_other sums key e)

-- ---- what a search found

pub changed_some : (sums listed : Sums) (field : Field) (found : Option ℕ) (i : ℕ) (read kept : List ℕ × Summary)
    (new : Summary) → is_number field.1 ≡ true → listed ≡ sums → found ≡ position
    (λ pair. bytes_eq pair.0 field.0) listed
    → found ≡ Some i → read ≡ get_or sums i read → kept ≡ get_or sums i kept → new ≡ with_number field.1 read.1
    → set sums i (kept.0, new) ≡ changed sums field
changed_some sums listed field found i read kept new number same e is read_is kept_is new_is =
    let at : position (is_key field.0) sums ≡ Some i = ap (position (is_key field.0)) (sym same) ∙ sym e ∙ is in
    let within = (position-Some (is_key field.0) sums i read at).0 in
    let one : kept ≡ read = kept_is ∙ get_or_default sums i kept read within ∙ sym read_is in
    rw number ((λ k. set sums i ((one k).0, new_is k))
    ∙ ap (λ (pair : List ℕ × Summary). set sums i (pair.0, with_number field.1 pair.1)) read_is
    ∙ sym (change_found field.1 sums i field.0 read at))

pub changed_none : (sums listed : Sums) (field : Field) (found : Option ℕ) → is_number field.1 ≡ true → listed ≡ sums
    → found ≡ position (λ pair. bytes_eq pair.0 field.0) listed → found ≡ None → sums ≡ changed sums field
changed_none sums listed field found number same e is =
    let at : position (is_key field.0) sums ≡ None = ap (position (is_key field.0)) (sym same) ∙ sym e ∙ is in
    rw number (sym (change_none field.1 sums field.0 at))

pub fresh_some : (sums old : Sums) (field : Field) (found : Option ℕ) (i : ℕ) → is_number field.1 ≡ true
    → found ≡ position (λ pair. bytes_eq pair.0 field.0) sums → found ≡ Some i → old ≡ old ++ fresh_of sums field
fresh_some sums old field found i number e is =
    let there : has_key sums field.0 ≡ true = key_at sums i field.0 (sym e ∙ is) in
    rw (number, there) (sym (append-nil old))

pub fresh_none : (sums old new : Sums) (field : Field) (found : Option ℕ) (text : List ℕ) (first : Summary)
    → is_number field.1 ≡ true → found ≡ position (λ pair. bytes_eq pair.0 field.0) sums → found ≡ None
    → text ≡ field.0 → first ≡ empty_summary → new ≡ old ++ (text, first) ∷ [] → new ≡ old ++ fresh_of sums field
fresh_none sums old new field found text first number e is same none grown =
    let apart : has_key sums field.0 ≡ false = no_key sums field.0 (sym e ∙ is) in
    rw (number, apart) (grown ∙ (λ k. old ++ (same k, none k) ∷ []))

-- a vector with room took all
pub took : {A E : Type 0} (result : Result A E) (old more new : Sums) → IsOk result
    → new ≡ cond (is_ok result) (old ++ more) old → new ≡ old ++ more
took (Ok x) old more new ok e = e
took (Err x) old more new ok e = absurd (true_false (sym ok))

-- a row with room took the new keys of a metric
pub grown : {A E : Type 0} (result : Result A E) (row : RowMemory) (series : Series) (sums more new : Sums)
    (m : Content)
    (room : ℕ) → record { row = (series, sums); room = room } ≡ row → more ≡ all_fresh row.row.1 m.fields
    → length row.row.1 + length more ≤ row.room → (length sums + length more ≤ room → IsOk result)
    → new ≡ cond (is_ok result) (sums ++ more) sums → new ≡ sums ++ all_fresh sums m.fields
grown result row series sums more new m room is fresh fits succeeds e =
    let same : sums ≡ row.row.1 = ap (λ (r : RowMemory). r.row.1) is in
    let within : length sums + length more ≤ room =
    subst (λ (r : RowMemory). length r.row.1 + length more ≤ r.room) (sym is) fits in
    took result sums more new (succeeds within) e
    ∙ ap (λ (rest : Sums). sums ++ rest) (fresh ∙ ap (λ (s : Sums). all_fresh s m.fields) (sym same))
