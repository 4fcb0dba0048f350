-- What is kept of a list of members with one more.
use Rattle.std.proofs.Common.{◌≡◌, ◌<◌, ◌≤◌, ◌||◌, ◌++◌, ◌∙◌, ℕ, ℤ, true, false, zero, suc, cond, not, Bool, List, []}
use Rattle.std.proofs.Common.{◌∷◌, length, filter, map, set, refl, sym, ap, subst, arith, append-nil, length-append}
use Rattle.std.proofs.Common.{Some}
use Rattle.std.proofs.Common.{None}
use Rattle.std.specs.Prelude.{nat_eq, Option, option_and_then, option_map, slice_get}
use Rattle.std.specs.Bool.{Decides}
use Rattle.std.specs.Option.{option_to_list}
use Rattle.std.specs.Ordering.{is_eq}
use Rattle.std.specs.Cmp.Lexicographic.{pointwise}
use Rattle.std.specs.List.{flat_map, list_any, AllByRecursion, IsDistinct}
use Rattle.std.specs.Map.{keys_of}
use Rattle.std.specs.Str.{bytes_eq}
use Rattle.std.proofs.lemmas.Bool.Decides.{Decides-and}
use Rattle.std.proofs.lemmas.Grind.{flat_map-append}
use Rattle.std.proofs.lemmas.List.{map-append}
use Rattle.std.proofs.lemmas.List.Elements.{filter-append}
use Rattle.std.proofs.lemmas.List.Sums.{fold-append}
use Rattle.std.proofs.lemmas.Option.{cond_some, slice_get-map, slice_get_past, slice_get_within}
use Rattle.std.proofs.lemmas.Slice.Eq.{bytes_eq-Decides, slice_eq-Decides}
use Rattle.metric.specs.Draft.{Field}
use Rattle.metric.specs.Metric.{IsMetric}
use Rattle.metric.specs.Series.{series_cmp, series_eq, series_ties, tag_eq, Series, Tag}
use Rattle.metric.specs.declared.metric.Content.{Content}
use Rattle.metric.proofs.GroupLemmas.{not_same}
use Rattle.metric.proofs.PairLemmas.{AllKeys}
use Rattle.agg_stats.specs.Asked.{asked_of, Asked}
use Rattle.agg_stats.specs.Folds.{made_of, members_of, numbers_in, series_in, series_of, stats_of, summed}
use Rattle.agg_stats.specs.Kept.{entry_of, fields_in, made_at, place_at, place_if, place_of, row_of, rows_of, seen}
use Rattle.agg_stats.specs.Kept.{with_field}
use Rattle.agg_stats.specs.Kept.{with_fields, IsIndexed, IsPlace, IsReady, Memory, ReadyMemory, RowMemory, SeriesSums}
use Rattle.agg_stats.specs.Kept.{StandsFor, Sums}
use Rattle.agg_stats.specs.Summary.{is_number}
use Rattle.agg_stats.specs.declared.kind.StatsKind.{StatsKind}
use Rattle.agg_stats.proofs.SummedLemmas.{summed_are, AreFew}

-- ---- series that are equal

tag_same : (a b : Tag) → Decides (tag_eq a b) (a ≡ b)
tag_same a b =
    let both = Decides-and _ _ (bytes_eq-Decides a.0 b.0) (bytes_eq-Decides a.1 b.1) in
    (λ e. let h = both.0 e in λ i. (h.0 i, h.1 i), λ e. both.1 (ap (λ (t : Tag). t.0) e, ap (λ (t : Tag). t.1) e))

pub series_same : (a b : Series) → Decides (series_eq a b) (a ≡ b)
series_same a b =
    let both = Decides-and _ _ (bytes_eq-Decides a.0 b.0) (slice_eq-Decides tag_same a.1 b.1 _ refl) in
    (λ e. let h = both.0 e in λ i. (h.0 i, h.1 i), λ e. both.1 (ap (λ (s : Series). s.0) e, ap (λ (s : Series). s.1) e))

true_false : true ≡ false → ⊥
true_false e = absurd cc

turned : (a b : Series) (t : Bool) → series_eq a b ≡ t → series_eq b a ≡ t
turned a b true e = (series_same b a).1 (sym ((series_same a b).0 e))
turned a b false e = not_same (series_eq b a) (λ same. true_false
    (sym ((series_same a b).1 (sym ((series_same b a).0 same))) ∙ e))

-- ---- series in order of first member

abbrev has : Series → List Content → Bool
has series ms = list_any (λ m. series_eq series (series_of m)) ms

abbrev others : Series → List Series → List Series
others series all = filter (λ other. not (series_eq series other)) all

series-push : (ms : List Content) (m : Content)
    → series_in (ms ++ m ∷ []) ≡ cond (has (series_of m) ms) (series_in ms) (series_in ms ++ series_of m ∷ [])
unfolding series_in
series-push [] m = refl
series-push (n ∷ ms) m =
    let s = series_of m in
    let f = series_of n in
    ap (λ (rest : List Series). f ∷ others f rest) (series-push ms m)
    ∙ elim (has s ms) as (λ h. f ∷ others f (cond h (series_in ms) (series_in ms ++ s ∷ [])) ≡ cond
    (series_eq s f || h) (f ∷ others f (series_in ms)) ((f ∷ others f (series_in ms)) ++ s ∷ [])) [
      | true ↦ elim (series_eq s f) as (λ t. f ∷ others f (series_in ms) ≡ cond (t || true)
          (f ∷ others f (series_in ms)) ((f ∷ others f (series_in ms)) ++ s ∷ [])) [ true ↦ refl | false ↦ refl ]
      | false ↦ ap (λ (rest : List Series). f ∷ rest)
          (filter-append (λ other. not (series_eq f other)) (series_in ms) (s ∷ []))
          ∙ elim (series_eq s f) as (λ t. series_eq s f ≡ t
          → f ∷ (others f (series_in ms) ++ others f (s ∷ [])) ≡ cond (t || false) (f ∷ others f (series_in ms))
          ((f ∷ others f (series_in ms)) ++ s ∷ [])) [
            | true ↦ λ e. rw (turned s f true e) (ap (λ (rest : List Series). f ∷ rest)
                (append-nil (others f (series_in ms))))
            | false ↦ λ e. rw (turned s f false e) refl
          ] refl
    ]

-- ---- the row of a series

no_members : (p : Content → Bool) (ms : List Content) → list_any p ms ≡ false → filter p ms ≡ []
no_members p [] e = refl
no_members p (m ∷ ms) e =
    elim (p m) as (λ t. (t || list_any p ms) ≡ false → cond t (m ∷ filter p ms) (filter p ms) ≡ []) [
      | true ↦ λ e. absurd (true_false e)
      | false ↦ λ e. no_members p ms e
    ] e

abbrev all_fields : Series → List Content → List Field
all_fields series ms = fields_in (members_of series ms)

-- the members of the metric's own series are one more
own_members : (series : Series) (ms : List Content) (m : Content) → series_eq series (series_of m) ≡ true
    → members_of series (ms ++ m ∷ []) ≡ members_of series ms ++ m ∷ []
own_members series ms m e =
    filter-append (λ n. series_eq series (series_of n)) ms (m ∷ []) ∙ rw e refl

other_members : (series : Series) (ms : List Content) (m : Content) → series_eq series (series_of m) ≡ false
    → members_of series (ms ++ m ∷ []) ≡ members_of series ms
other_members series ms m e =
    filter-append (λ n. series_eq series (series_of n)) ms (m ∷ [])
    ∙ rw e (append-nil (members_of series ms))

own_fields : (members : List Content) (m : Content)
    → with_fields [] (fields_in (members ++ m ∷ [])) ≡ with_fields (with_fields [] (fields_in members)) m.fields
own_fields members m =
    ap (with_fields []) (flat_map-append (λ (n : Content). n.fields) members (m ∷ [])
    ∙ ap (λ (fields : List Field). fields_in members ++ fields) (append-nil m.fields))
    ∙ fold-append with_field [] (fields_in members) m.fields

-- a row with a metric more, where it is of its series
abbrev row_with : Content → SeriesSums → SeriesSums
row_with m row = cond (series_eq row.0 (series_of m)) (row.0, with_fields row.1 m.fields) row

row-push : (ms : List Content) (m : Content) (series : Series)
    → row_of (ms ++ m ∷ []) series ≡ row_with m (row_of ms series)
row-push ms m series =
    elim (series_eq series (series_of m)) as (λ t. series_eq series (series_of m) ≡ t
    → row_of (ms ++ m ∷ []) series
    ≡ cond t (series, with_fields (with_fields [] (all_fields series ms)) m.fields) (row_of ms series)) [
      | true ↦ λ e. ap (λ (sums : Sums). (series, sums))
          (ap (λ (members : List Content). with_fields [] (fields_in members)) (own_members series ms m e)
          ∙ own_fields (members_of series ms) m)
      | false ↦ λ e. ap (λ (members : List Content). (series, with_fields [] (fields_in members)))
          (other_members series ms m e)
    ] refl

rows_with : (ms : List Content) (m : Content) (all : List Series)
    → map (row_of (ms ++ m ∷ [])) all ≡ map (row_with m) (map (row_of ms) all)
rows_with ms m [] = refl
rows_with ms m (series ∷ all) =
    let first = row-push ms m series in
    let rest = rows_with ms m all in
    λ i. first i ∷ rest i

-- ---- which series have a row

any_others : (series other : Series) (all : List Series) → series_eq series other ≡ false
    → list_any (series_eq series) (others other all) ≡ list_any (series_eq series) all
any_others series other [] apart = refl
any_others series other (one ∷ all) apart =
    elim (series_eq other one) as (λ t. series_eq other one ≡ t
    → list_any (series_eq series) (cond (not t) (one ∷ others other all) (others other all))
    ≡ (series_eq series one || list_any (series_eq series) all)) [
      | true ↦ λ e.
          let differs : series_eq series one ≡ false = subst (λ (s : Series). series_eq series s ≡ false)
          ((series_same other one).0 e) apart in
          rw differs (any_others series other all apart)
      | false ↦ λ e. ap (λ (t : Bool). series_eq series one || t) (any_others series other all apart)
    ] refl

any_series : (series : Series) (ms : List Content) → list_any (series_eq series) (series_in ms) ≡ has series ms
unfolding series_in
any_series series [] = refl
any_series series (m ∷ ms) =
    elim (series_eq series (series_of m)) as (λ t. series_eq series (series_of m) ≡ t
    → (t || list_any (series_eq series) (others (series_of m) (series_in ms))) ≡ (t || has series ms)) [
      | true ↦ λ e. refl
      | false ↦ λ e. any_others series (series_of m) (series_in ms) e ∙ any_series series ms
    ] refl

abbrev is_of : Series → SeriesSums → Bool
is_of series row = series_eq series row.0

any_rows : (series : Series) (ms : List Content) (all : List Series)
    → list_any (is_of series) (map (row_of ms) all) ≡ list_any (series_eq series) all
any_rows series ms [] = refl
any_rows series ms (one ∷ all) = ap (λ (t : Bool). series_eq series one || t) (any_rows series ms all)

or_true : (t : Bool) → (t || true) ≡ true
or_true true = refl
or_true false = refl

-- one that stands at an index is among them
any_at : (p : SeriesSums → Bool) (rows : List SeriesSums) (at : ℕ) (row : SeriesSums) → slice_get rows at ≡ Some row
    → p row ≡ true → list_any p rows ≡ true
any_at p [] at row is e = absurd (let x : None ≡ Some row = is in cc)
any_at p (one ∷ rows) zero row is e =
    let same : one ≡ row = cc in
    ap (λ (t : Bool). t || list_any p rows) (ap p same ∙ e)
any_at p (one ∷ rows) (suc at) row is e =
    ap (λ (t : Bool). p one || t) (any_at p rows at row is e) ∙ or_true (p one)

record Stands (p : SeriesSums → Bool) (rows : List SeriesSums) : Type 0 where
  at : ℕ
  row : SeriesSums
  is : slice_get rows at ≡ Some row
  so : p row ≡ true

-- one that is among them stands at an index
at_any : (p : SeriesSums → Bool) (rows : List SeriesSums) → list_any p rows ≡ true → Stands p rows
at_any p [] e = absurd (true_false (sym e))
at_any p (row ∷ rows) e =
    elim (p row) as (λ t. p row ≡ t → (t || list_any p rows) ≡ true → Stands p (row ∷ rows)) [
      | true ↦ λ so e. record { at = 0; row = row; is = refl; so = so }
      | false ↦ λ so e.
          let rest = at_any p rows e in
          record { at = suc rest.at; row = rest.row; is = rest.is; so = rest.so }
    ] refl e

-- ---- what the entries say

abbrev pub Entries : Type 0
Entries = List (Series × ℕ)

-- the row of a series stands at its entry alone
own_entry : (kept : Entries) (rows : List SeriesSums) (series : Series) (at : ℕ) (row : SeriesSums)
    → IsIndexed kept rows
    → slice_get rows at ≡ Some row → series_eq series row.0 ≡ true → entry_of kept series ≡ Some at
own_entry kept rows series at row h is e =
    ap (entry_of kept) ((series_same series row.0).0 e) ∙ h at row is

same_some : {X : Type 0} (a b : X) → Some a ≡ Some b → a ≡ b
same_some a b e = cc

abbrev OnlyAt : Content → List SeriesSums → ℕ → Type 0
OnlyAt m rows at =
    (other : ℕ) (row : SeriesSums) → slice_get rows other ≡ Some row → series_eq row.0 (series_of m) ≡ true → other ≡ at

none_changed : (m : Content) (rows : List SeriesSums)
    → ((other : ℕ) (row : SeriesSums) → slice_get rows other ≡ Some row → series_eq row.0 (series_of m) ≡ true → ⊥)
    → rows ≡ map (row_with m) rows
none_changed m [] none = refl
none_changed m (row ∷ rows) none =
    let apart : series_eq row.0 (series_of m) ≡ false = not_same (series_eq row.0 (series_of m)) (none 0 row refl) in
    let rest = none_changed m rows (λ other one is. none (suc other) one is) in
    rw apart (ap (λ (rs : List SeriesSums). row ∷ rs) rest)

-- so that row alone is another with a metric more
one_changed : (m : Content) (rows : List SeriesSums) (at : ℕ) (row : SeriesSums) → slice_get rows at ≡ Some row
    → series_eq row.0 (series_of m) ≡ true → OnlyAt m rows at
    → set rows at (row.0, with_fields row.1 m.fields) ≡ map (row_with m) rows
one_changed m [] at row is e only = absurd (let x : None ≡ Some row = is in cc)
one_changed m (one ∷ rows) zero row is e only =
    let same : one ≡ row = same_some one row is in
    let here : series_eq one.0 (series_of m) ≡ true =
    ap (λ (r : SeriesSums). series_eq r.0 (series_of m)) same ∙ e in
    let rest = none_changed m rows
    (λ other row is so. absurd (let x : suc other ≡ 0 = only (suc other) row is so in omega arith)) in
    rw here (λ i. ((sym same i).0, with_fields (sym same i).1 m.fields) ∷ rest i)
one_changed m (one ∷ rows) (suc at) row is e only =
    let apart : series_eq one.0 (series_of m) ≡ false = not_same (series_eq one.0 (series_of m))
    (λ so. let x : 0 ≡ suc at = only 0 one refl so in absurd (omega arith)) in
    let rest = one_changed m rows at row is e
    (λ other row is so. let x : suc other ≡ suc at = only (suc other) row is so in omega arith) in
    rw apart (ap (λ (rs : List SeriesSums). one ∷ rs) rest)

series_kept : (m : Content) (row : SeriesSums) → (row_with m row).0 ≡ row.0
series_kept m row =
    elim (series_eq row.0 (series_of m)) as (λ t. (cond t (row.0, with_fields row.1 m.fields) row).0 ≡ row.0)
    [ true ↦ refl | false ↦ refl ]

-- the entries stay right where series stay
still_indexed : (kept : Entries) (m : Content) (rows : List SeriesSums) → IsIndexed kept rows
    → IsIndexed kept (map (row_with m) rows)
still_indexed kept m rows h at new is =
    before (slice_get rows at) refl (sym (slice_get-map (row_with m) rows at) ∙ is)
  where
    before : (found : Option SeriesSums) → slice_get rows at ≡ found → option_map (row_with m) found ≡ Some new
        → entry_of kept new.0 ≡ Some at
    before None found e = absurd (let x : None ≡ Some new = e in cc)
    before (Some old) found e =
        let same : row_with m old ≡ new = same_some (row_with m old) new e in
        ap (entry_of kept) (sym (ap (λ (r : SeriesSums). r.0) same) ∙ series_kept m old) ∙ h at old found

last_at : (rows : List SeriesSums) (last : SeriesSums) (at : ℕ) (row : SeriesSums) (P : Type 0)
    → slice_get (rows ++ last ∷ []) at ≡ Some row → (slice_get rows at ≡ Some row → P)
    → (at ≡ length rows → last ≡ row → P) → P
last_at [] last zero row P is before here = here refl (same_some last row is)
last_at [] last (suc at) row P is before here = absurd (let x : None ≡ Some row = is in cc)
last_at (one ∷ rows) last zero row P is before here = before is
last_at (one ∷ rows) last (suc at) row P is before here =
    last_at rows last at row P is before (λ e same. here (ap suc e) same)

more_indexed : (kept : Entries) (rows : List SeriesSums) (last : SeriesSums) → IsIndexed kept rows
    → entry_of kept last.0 ≡ Some (length rows) → IsIndexed kept (rows ++ last ∷ [])
more_indexed kept rows last h entry at row is =
    last_at rows last at row (entry_of kept row.0 ≡ Some at) is (h at row)
    (λ e same. ap (λ (r : SeriesSums). entry_of kept r.0) (sym same) ∙ entry ∙ ap Some (sym e))

-- ---- an entry that is set

abbrev pub IsSet : Entries → Series → ℕ → Entries → Type 0
IsSet old series at new = (q : Series) → entry_of new q ≡ cond (is_eq (series_cmp series q)) (Some at) (entry_of old q)

-- a series with a row has its place
has_place : (kept : Entries) (rows : List SeriesSums) (series : Series) (at : ℕ) (row : SeriesSums)
    → IsIndexed kept rows
    → slice_get rows at ≡ Some row → series_eq series row.0 ≡ true → place_of kept rows series ≡ Some at
has_place kept rows series at row h is e =
    rw (own_entry kept rows series at row h is e, is, turned series row.0 true e) refl

pub set_indexed : (old new : Entries) (rows : List SeriesSums) (series : Series) (at : ℕ)
    → place_of old rows series ≡ None → IsSet old series at new → IsIndexed old rows → IsIndexed new rows
set_indexed old new rows series at none put h other row is =
    let apart : series_eq series row.0 ≡ false = not_same (series_eq series row.0)
    (λ e. absurd (let x : None ≡ Some other = sym none ∙ has_place old rows series other row h is e in cc)) in
    let differs : is_eq (series_cmp series row.0) ≡ false = sym (series_ties series row.0) ∙ apart in
    put row.0 ∙ rw differs (h other row is)

pub new_place : (old new : Entries) (rows : List SeriesSums) (series : Series) (at : ℕ) → at ≡ length rows
    → IsSet old series at new → IsPlace series new rows at
new_place old new rows series at end put =
    let past : slice_get rows at ≡ None = slice_get_past rows at (omega (arith, end)) in
    let same : is_eq (series_cmp series series) ≡ true =
    sym (series_ties series series) ∙ (series_same series series).1 refl in
    record {
      entry = put series ∙ rw same refl;
      own = λ row is. absurd (let x : None ≡ Some row = sym past ∙ is in cc);
      behind = λ none. end;
    }

pub record IsKnown (series : Series) (kept : Entries) (rows : List SeriesSums) (at : ℕ) : Type 0 where
  pub place : IsPlace series kept rows at
  pub within : at < length rows

-- a place that was found
pub known_place : (kept : Entries) (rows : List SeriesSums) (series : Series) (at : ℕ)
    → place_of kept rows series ≡ Some at → IsKnown series kept rows at
known_place kept rows series at e = from_entry (entry_of kept series) refl e
  where
    from_row : (other : ℕ) → entry_of kept series ≡ Some other → (found : Option SeriesSums)
        → slice_get rows other ≡ found → option_and_then (place_if series other) found ≡ Some at
        → IsKnown series kept rows at
    from_row other entry None found e = absurd (let x : None ≡ Some at = e in cc)
    from_row other entry (Some row) found e =
        let parts = cond_some (series_eq row.0 series) other at e in
        let here : slice_get rows at ≡ Some row = subst (λ (n : ℕ). slice_get rows n ≡ Some row) parts.1 found in
        record {
          place = record {
            entry = entry ∙ ap Some parts.1;
            own = λ one is. sym (ap (λ (r : SeriesSums). r.0) (same_some row one (sym here ∙ is)))
                ∙ (series_same row.0 series).0 parts.0;
            behind = λ none. absurd (let x : None ≡ Some row = sym none ∙ here in cc);
          };
          within = slice_get_within rows at row here;
        }

    from_entry : (found : Option ℕ) → entry_of kept series ≡ found
        → option_and_then (place_at rows series) found ≡ Some at → IsKnown series kept rows at
    from_entry None entry e = absurd (let x : None ≡ Some at = e in cc)
    from_entry (Some other) entry e = from_row other entry (slice_get rows other) refl e

-- ---- how many numbers a key has

none_left : (key one : List ℕ) (fields : List Field) → bytes_eq key one ≡ true
    → AllKeys (λ k. bytes_eq one k ≡ false) fields
    → filter (λ (field : Field). bytes_eq key field.0) (filter (λ field. is_number field.1) fields) ≡ []
none_left key one [] e h = refl
none_left key one (field ∷ fields) e h =
    let apart : bytes_eq key field.0 ≡ false = subst (λ (k : List ℕ). bytes_eq k field.0 ≡ false)
    (sym ((bytes_eq-Decides key one).0 e)) h.0 in
    elim (is_number field.1) as (λ t. filter (λ (field : Field). bytes_eq key field.0)
    (cond t (field ∷ filter (λ field. is_number field.1) fields) (filter (λ field. is_number field.1) fields)) ≡ []) [
      | true ↦ rw apart (none_left key one fields e h.1)
      | false ↦ none_left key one fields e h.1
    ]

one_left : (key : List ℕ) (fields : List Field) → IsDistinct (pointwise nat_eq) (keys_of fields)
    → length (filter (λ (field : Field). bytes_eq key field.0) (filter (λ field. is_number field.1) fields)) ≤ 1
unfolding IsDistinct
one_left key [] h = omega arith
one_left key (field ∷ fields) h =
    elim (is_number field.1) as (λ t. length (filter (λ (field : Field). bytes_eq key field.0)
    (cond t (field ∷ filter (λ field. is_number field.1) fields) (filter (λ field. is_number field.1) fields))) ≤ 1) [
      | true ↦ elim (bytes_eq key field.0) as (λ s. bytes_eq key field.0 ≡ s
          → length (cond s (field ∷ filter (λ (field : Field). bytes_eq key field.0)
          (filter (λ field. is_number field.1) fields)) (filter (λ (field : Field). bytes_eq key field.0)
          (filter (λ field. is_number field.1) fields))) ≤ 1) [
            | true ↦ λ e. rw (none_left key field.0 fields e h.0) (omega arith)
            | false ↦ λ e. one_left key fields h.1
          ] refl
      | false ↦ one_left key fields h.1
    ]

few_left : (series : Series) (key : List ℕ) (ms : List Content) → AllByRecursion IsMetric ms
    → length (filter (λ (field : Field). bytes_eq key field.0) (filter (λ field. is_number field.1)
    (all_fields series ms))) ≤ length ms
few_left series key [] h = omega arith
few_left series key (m ∷ ms) h =
    let rest = few_left series key ms h.1 in
    let num = λ (fields : List Field). filter (λ field. is_number field.1) fields in
    let own = λ (fields : List Field). filter (λ (field : Field). bytes_eq key field.0) (num fields) in
    elim (series_eq series (series_of m)) as (λ t. length (own (fields_in (cond t (m ∷ members_of series ms)
    (members_of series ms)))) ≤ length (m ∷ ms)) [
      | true ↦
          let parts : own (m.fields ++ all_fields series ms) ≡ own m.fields ++ own (all_fields series ms) =
          ap (filter (λ (field : Field). bytes_eq key field.0))
          (filter-append (λ (field : Field). is_number field.1) m.fields (all_fields series ms))
          ∙ filter-append (λ (field : Field). bytes_eq key field.0) (num m.fields) (num (all_fields series ms)) in
          rw parts (omega (
            arith,
            rest,
            one_left key m.fields h.0.distinct,
            length-append (own m.fields) (own (all_fields series ms)),
          ))
      | false ↦ omega (arith, rest)
    ]

numbers_are : (ms : List Content) → filter (λ (field : Field). is_number field.1) (fields_in ms) ≡ numbers_in ms
numbers_are [] = refl
numbers_are (m ∷ ms) =
    filter-append (λ (field : Field). is_number field.1) m.fields (fields_in ms)
    ∙ ap (λ (rest : List Field). filter (λ (field : Field). is_number field.1) m.fields ++ rest) (numbers_are ms)

-- ---- what it stands for

all-push : (ms : List Content) (m : Content) → AllByRecursion IsMetric ms → IsMetric m
    → AllByRecursion IsMetric (ms ++ m ∷ [])
all-push [] m h i = (i, tt)
all-push (n ∷ ms) m h i = (h.0, all-push ms m h.1 i)

pub none_stand : (kind : StatsKind) (memory : Memory) → memory.asked ≡ asked_of kind → memory.rows ≡ []
    → StandsFor kind [] memory
unfolding series_in
none_stand kind memory same rows = record {
  same = same;
  rows = ap seen rows;
  indexed = λ at row is. absurd (let x : None ≡ Some row = sym (ap (λ (rs : List RowMemory). slice_get
      (seen rs) at) rows)
      ∙ is in cc);
  few = omega arith;
  metrics = tt;
}

-- another memory with the same rows stands for the same members
pub still_stands : (kind : StatsKind) (ms : List Content) (old new : Memory) → new.asked ≡ old.asked
    → seen new.rows ≡ seen old.rows
    → (IsIndexed old.kept (seen old.rows) → IsIndexed new.kept (seen new.rows))
    → StandsFor kind ms old → StandsFor kind ms new
still_stands kind ms old new asked rows indexed h = record {
  same = asked ∙ h.same;
  rows = rows ∙ h.rows;
  indexed = indexed h.indexed;
  few = h.few;
  metrics = h.metrics;
}

module _ (kind : StatsKind) (ms : List Content) (m : Content) (old : Memory) (h : StandsFor kind ms old) (at : ℕ)
    (place : IsPlace (series_of m) old.kept (seen old.rows) at) where
  abbrev olds : List SeriesSums
  olds = seen old.rows

  abbrev own : Series
  own = series_of m

  has_row : list_any (is_of own) olds ≡ has own ms
  has_row = ap (list_any (is_of own)) h.rows ∙ any_rows own ms (series_in ms) ∙ any_series own ms

  only : OnlyAt m olds at
  only other row is so =
      same_some other at (sym (own_entry old.kept olds own other row h.indexed is (turned row.0 own true so))
      ∙ place.entry)

  -- the row of the series was there
  known_rows : (row : SeriesSums) → slice_get olds at ≡ Some row
      → set olds at (row.0, with_fields row.1 m.fields) ≡ rows_of (ms ++ m ∷ [])
  known_rows row is =
      let same : series_eq row.0 own ≡ true = (series_same row.0 own).1 (place.own row is) in
      let there : has own ms ≡ true = sym has_row ∙ any_at (is_of own) olds at row is (turned row.0 own true same) in
      one_changed m olds at row is same only ∙ ap (map (row_with m)) h.rows ∙ sym (rows_with ms m (series_in ms))
      ∙ ap (map (row_of (ms ++ m ∷ []))) (sym (series-push ms m ∙ rw there refl))

  known_indexed : (row : SeriesSums) → slice_get olds at ≡ Some row
      → IsIndexed old.kept (set olds at (row.0, with_fields row.1 m.fields))
  known_indexed row is =
      let same : series_eq row.0 own ≡ true = (series_same row.0 own).1 (place.own row is) in
      subst (IsIndexed old.kept) (sym (one_changed m olds at row is same only))
      (still_indexed old.kept m olds h.indexed)

  -- it wasn't
  no_row : slice_get olds at ≡ None → has own ms ≡ false
  no_row none = not_same (has own ms) (λ e.
      let one = at_any (is_of own) olds (has_row ∙ e) in
      let same : one.at ≡ at = only one.at one.row one.is (turned own one.row.0 true one.so) in
      absurd (let x : None ≡ Some one.row = sym none ∙ ap (slice_get olds) (sym same) ∙ one.is in cc))

  new_rows : slice_get olds at ≡ None → olds ++ (own, with_fields [] m.fields) ∷ [] ≡ rows_of (ms ++ m ∷ [])
  new_rows none =
      let unknown : has own ms ≡ false = no_row none in
      let members : members_of own (ms ++ m ∷ []) ≡ m ∷ [] = own_members own ms m ((series_same own own).1 refl)
      ∙ ap (λ (members : List Content). members ++ m ∷ []) (no_members (λ n. series_eq own (series_of n)) ms unknown) in
      let last : row_of (ms ++ m ∷ []) own ≡ (own, with_fields [] m.fields) =
      ap (λ (members : List Content). (own, with_fields [] (fields_in members))) members
      ∙ ap (λ (fields : List Field). (own, with_fields [] fields)) (append-nil m.fields) in
      let others_stay : olds ≡ map (row_of (ms ++ m ∷ [])) (series_in ms) =
      none_changed m olds (λ other row is so.
      absurd (let x : None ≡ Some row = sym none ∙ ap (slice_get olds) (sym (only other row is so)) ∙ is in cc))
      ∙ ap (map (row_with m)) h.rows ∙ sym (rows_with ms m (series_in ms)) in
      (λ i. others_stay i ++ sym last i ∷ [])
      ∙ sym (map-append (row_of (ms ++ m ∷ [])) (series_in ms) (own ∷ []))
      ∙ ap (map (row_of (ms ++ m ∷ []))) (sym (series-push ms m ∙ rw unknown refl))

  new_indexed : slice_get olds at ≡ None → IsIndexed old.kept (olds ++ (own, with_fields [] m.fields) ∷ [])
  new_indexed none =
      more_indexed old.kept olds (own, with_fields [] m.fields) h.indexed (place.entry ∙ ap Some (place.behind none))

  more_stand : (new : Memory) → IsMetric m → length ms < 4294967296 → new.asked ≡ old.asked
      → seen new.rows ≡ rows_of (ms ++ m ∷ []) → IsIndexed new.kept (seen new.rows)
      → StandsFor kind (ms ++ m ∷ []) new
  more_stand new is few asked rows indexed = record {
    same = asked ∙ h.same;
    rows = rows;
    indexed = indexed;
    few = omega (arith, few, length-append ms (m ∷ []));
    metrics = all-push ms m h.metrics is;
  }

  -- what is added at the place
  pub added : (new : Memory) → IsMetric m → length ms < 4294967296 → new.asked ≡ old.asked → new.kept ≡ old.kept
      → ((row : SeriesSums) → slice_get olds at ≡ Some row
      → seen new.rows ≡ set olds at (row.0, with_fields row.1 m.fields))
      → (slice_get olds at ≡ None → seen new.rows ≡ olds ++ (own, with_fields [] m.fields) ∷ [])
      → StandsFor kind (ms ++ m ∷ []) new
  added new is few asked kept known fresh = by_place (slice_get olds at) refl
    where
      indexed : (rows : List SeriesSums) → seen new.rows ≡ rows → IsIndexed old.kept rows
          → IsIndexed new.kept (seen new.rows)
      indexed rows e h2 = subst (λ (k : Entries). IsIndexed k (seen new.rows)) (sym kept)
          (subst (IsIndexed old.kept) (sym e) h2)

      by_place : (found : Option SeriesSums) → slice_get olds at ≡ found → StandsFor kind (ms ++ m ∷ []) new
      by_place None found = more_stand new is few asked (fresh found ∙ new_rows found)
          (indexed _ (fresh found) (new_indexed found))
      by_place (Some row) found = more_stand new is few asked (known row found ∙ known_rows row found)
          (indexed _ (known row found) (known_indexed row found))

-- what was prepared is added
pub ready_added : (kind : StatsKind) (ms : List Content) (m : Content) (old new : Memory) (ready : ReadyMemory)
    → StandsFor kind ms old → IsReady m old → length ms < 4294967296 → old.ready ≡ Some ready
    → new.asked ≡ old.asked → new.kept ≡ old.kept
    → ((row : SeriesSums) → slice_get (seen old.rows) ready.at ≡ Some row
    → seen new.rows ≡ set (seen old.rows) ready.at (row.0, with_fields row.1 ready.metric.fields))
    → (slice_get (seen old.rows) ready.at ≡ None → seen new.rows
    ≡ seen old.rows ++ (series_of ready.metric, with_fields [] ready.metric.fields) ∷ [])
    → StandsFor kind (ms ++ m ∷ []) new
ready_added kind ms m old new ready h is few prepared asked kept known fresh =
    let same : ready ≡ record { metric = m; at = is.at; fresh = is.fresh } =
    same_some ready (record { metric = m; at = is.at; fresh = is.fresh }) (sym prepared ∙ is.ready) in
    added kind ms m old h is.at is.place new is.metric few asked kept
    (subst (λ (r : ReadyMemory). (row : SeriesSums) → slice_get (seen old.rows) r.at ≡ Some row
    → seen new.rows ≡ set (seen old.rows) r.at (row.0, with_fields row.1 r.metric.fields)) same known)
    (subst (λ (r : ReadyMemory). slice_get (seen old.rows) r.at ≡ None → seen new.rows
    ≡ seen old.rows ++ (series_of r.metric, with_fields [] r.metric.fields) ∷ []) same fresh)

-- ---- what is made

module _ (time : ℤ) (asked : Asked) (ms : List Content) where
  abbrev one_made : Series → List Content
  one_made series = option_to_list (made_of asked time (series, summed (numbers_in (members_of series ms))))

  made_here : length ms ≤ 4294967296 → AllByRecursion IsMetric ms → (series : Series)
      → option_to_list (made_of asked time (row_of ms series)) ≡ one_made series
  made_here few metrics series =
      let few_here : AreFew (filter (λ field. is_number field.1) (all_fields series ms)) =
      λ key. omega (arith, few, few_left series key ms metrics) in
      ap (λ (sums : Sums). option_to_list (made_of asked time (series, sums)))
      (summed_are (all_fields series ms) few_here ∙ ap summed (numbers_are (members_of series ms)))

  abbrev row_made : SeriesSums → List Content
  row_made row = option_to_list (made_of asked time row)

  each_made : length ms ≤ 4294967296 → AllByRecursion IsMetric ms → (all : List Series)
      → flat_map row_made (map (row_of ms) all) ≡ flat_map one_made all
  each_made few metrics [] = refl
  each_made few metrics (series ∷ all) =
      let first = made_here few metrics series in
      let rest = each_made few metrics all in
      λ i. first i ++ rest i

seen_made : (time : ℤ) (asked : Asked) (rows : List RowMemory)
    → flat_map (made_at asked time) rows ≡ flat_map (λ (row : SeriesSums). option_to_list (made_of asked time row))
    (seen rows)
seen_made time asked [] = refl
seen_made time asked (memory ∷ rows) =
    ap (λ (rest : List Content). made_at asked time memory ++ rest) (seen_made time asked rows)

pub made_is : (kind : StatsKind) (time : ℤ) (ms : List Content) (memory : Memory) → StandsFor kind ms memory
    → flat_map (made_at memory.asked time) memory.rows ≡ stats_of kind time ms
made_is kind time ms memory h =
    seen_made time memory.asked memory.rows
    ∙ ap (flat_map (λ (row : SeriesSums). option_to_list (made_of memory.asked time row))) h.rows
    ∙ each_made time memory.asked ms h.few h.metrics (series_in ms) ∙ rw h.same refl
