-- Rows with room.
use Rattle.std.proofs.Common.{◌≡◌, ◌+◌, ◌<◌, ◌≤◌, ◌++◌, ◌∙◌, ℕ, cond, List, [], ◌∷◌, length, get_or, set, sym}
use Rattle.std.proofs.Common.{ap, subst, arith, Some, None}
use Rattle.std.specs.Prelude.{is_ok, option_map, slice_get, IfOk, Result, Ok, Err, IsOk}
use Rattle.std.proofs.lemmas.List.{get_or-map, get_or-set_same, length-set, map-append, map-set, set-get_or}
use Rattle.std.proofs.lemmas.Option.{slice_get-get_or, slice_get-map, slice_get_past}
use Rattle.metric.specs.declared.metric.Content.{Content}
use Rattle.agg_stats.specs.Kept.{all_fresh, row_in, seen, sums_in, with_fields, HasRoom, ReadyMemory, RowMemory}
use Rattle.agg_stats.specs.Kept.{SeriesSums, Sums}

pub if_ok : {A E : Type 0} {P Q : A → Type 0} (result : Result A E) → IfOk result P → ((x : A) → P x → Q x)
    → IfOk result Q
if_ok (Ok x) p f = f x p
if_ok (Err e) p f = tt

same_some : {X : Type 0} (a b : X) → Some a ≡ Some b → a ≡ b
same_some a b e = cc

-- ---- the row at an index

-- a row that was read at an index
row_at : (rows : List RowMemory) (at : ℕ) (old : RowMemory) → at < length rows → old ≡ get_or rows at old
    → slice_get (seen rows) at ≡ Some old.row
row_at rows at old within is =
    slice_get-map row_in rows at ∙ ap (option_map row_in) (slice_get-get_or rows at old within)
    ∙ ap (λ (memory : RowMemory). Some memory.row) (sym is)

-- another with the same row
pub seen_same : (rows : List RowMemory) (at : ℕ) (old new : RowMemory) → at < length rows → old ≡ get_or rows at old
    → new.row ≡ old.row → seen (set rows at new) ≡ seen rows
seen_same rows at old new within is same =
    map-set row_in rows at new
    ∙ ap (set (seen rows) at) (same ∙ ap row_in is ∙ sym (get_or-map row_in rows at old old.row within))
    ∙ set-get_or (seen rows) at old.row

-- another with a metric more
pub seen_more : (rows : List RowMemory) (at place : ℕ) (old new : RowMemory) (one m : Content) (row : SeriesSums)
    → place ≡ at → one ≡ m → place < length rows → old ≡ get_or rows place old → new.row.0 ≡ old.row.0
    → new.row.1 ≡ with_fields old.row.1 one.fields → slice_get (seen rows) at ≡ Some row
    → seen (set rows place new) ≡ set (seen rows) at (row.0, with_fields row.1 m.fields)
seen_more rows at place old new one m row here same within is series sums found =
    let was : old.row ≡ row = same_some old.row row (sym (row_at rows place old within is)
    ∙ ap (slice_get (seen rows)) here ∙ found) in
    let first : new.row.0 ≡ row.0 = series ∙ ap (λ (r : SeriesSums). r.0) was in
    let second : new.row.1 ≡ with_fields row.1 m.fields = sums
    ∙ (λ i. with_fields (was i).1 (same i).fields) in
    map-set row_in rows place new ∙ (λ i. set (seen rows) (here i) (first i, second i))

-- ---- what is prepared

-- there is room in a row
pub known_room : (rows : List RowMemory) (at room : ℕ) (old new : RowMemory) (m : Content) (fresh : Sums)
    (ready : ReadyMemory) → ready ≡ record { metric = m; at = at; fresh = fresh } → at < length rows
    → old ≡ get_or rows at old → new.row ≡ old.row → fresh ≡ all_fresh old.row.1 m.fields
    → length new.row.1 + length fresh ≤ new.room → HasRoom (set rows at new) room ready
known_room rows at room old new m fresh ready prepared within is same keys fits =
    subst (HasRoom (set rows at new) room) (sym prepared) has_room
  where
    inside : at < length (set rows at new)
    inside = omega (arith, within, length-set rows at new)

    here : slice_get (set rows at new) at ≡ Some new
    here = slice_get-get_or (set rows at new) at new inside ∙ ap Some (get_or-set_same rows at new new within)

    seen_here : slice_get (seen (set rows at new)) at ≡ Some old.row
    seen_here = slice_get-map row_in (set rows at new) at ∙ ap (option_map row_in) here ∙ ap Some same

    has_room : HasRoom (set rows at new) room (record { metric = m; at = at; fresh = fresh })
    has_room = record {
      fresh = keys ∙ ap (λ (s : Sums). all_fresh s m.fields) (ap sums_in (sym seen_here));
      known = λ memory found. subst (λ (r : RowMemory). length r.row.1 + length fresh ≤ r.room)
          (same_some new memory (sym here ∙ found)) fits;
      new = λ none. absurd (let x : None ≡ Some new = sym none ∙ here in cc);
    }

-- there is room for a row more
pub new_room : (rows : List RowMemory) (at room : ℕ) (m : Content) (fresh : Sums) (ready : ReadyMemory)
    → ready ≡ record { metric = m; at = at; fresh = fresh } → length rows ≤ at → fresh ≡ all_fresh [] m.fields
    → length rows < room → HasRoom rows room ready
new_room rows at room m fresh ready prepared past keys fits =
    subst (HasRoom rows room) (sym prepared) has_room
  where
    none : slice_get rows at ≡ None
    none = slice_get_past rows at past

    seen_none : slice_get (seen rows) at ≡ None
    seen_none = slice_get-map row_in rows at ∙ ap (option_map row_in) none

    has_room : HasRoom rows room (record { metric = m; at = at; fresh = fresh })
    has_room = record {
      fresh = keys ∙ ap (λ (s : Sums). all_fresh s m.fields) (ap sums_in (sym seen_none));
      known = λ memory found. absurd (let x : None ≡ Some memory = sym none ∙ found in cc);
      new = λ e. fits;
    }

-- ---- what is added

-- a row stands at an index within, and none behind all
pub is_within : (rows : List RowMemory) (at place : ℕ) (d : RowMemory) → place ≡ at → place < length rows
    → slice_get (seen rows) at ≡ None → ⊥
is_within rows at place d here within none =
    let found : slice_get (seen rows) at ≡ Some (get_or rows at d).row = slice_get-map row_in rows at
    ∙ ap (option_map row_in) (slice_get-get_or rows at d (omega (arith, here, within))) in
    let x : None ≡ Some (get_or rows at d).row = sym none ∙ found in absurd cc

pub is_past : (rows : List RowMemory) (at place : ℕ) (row : SeriesSums) → place ≡ at → length rows ≤ place
    → slice_get (seen rows) at ≡ Some row → ⊥
is_past rows at place row here past found =
    let none : slice_get (seen rows) at ≡ None = slice_get-map row_in rows at
    ∙ ap (option_map row_in) (slice_get_past rows at (omega (arith, here, past))) in
    let x : None ≡ Some row = sym none ∙ found in absurd cc

-- a vector with room took a row
pub pushed : {A E : Type 0} (result : Result A E) (rows new : List RowMemory) (last : RowMemory) (row : SeriesSums)
    → IsOk result → new ≡ cond (is_ok result) (rows ++ last ∷ []) rows → last.row ≡ row
    → seen new ≡ seen rows ++ row ∷ []
pushed (Ok x) rows new last row ok e same =
    ap seen e ∙ map-append row_in rows (last ∷ []) ∙ ap (λ (r : SeriesSums). seen rows ++ r ∷ []) same
pushed (Err x) rows new last row ok e same = cc
