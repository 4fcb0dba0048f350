-- What is remembered after a metric more.
use Rattle.std.proofs.Common.{◌≡◌, ℤ, true, false, cond, ◌&&◌, ◌-ℤ◌, Bool, List, [], ◌∷◌, ◌++◌, reverse, refl, sym, ap}
use Rattle.std.proofs.Common.{subst, ◌∙◌, rules, Some, None}
use Rattle.std.specs.Prelude.{Option, Result, Ok, Err, OnOk, OnErr, IsSome, is_some, FitsSigned, int_lt}
use Rattle.std.specs.Prelude.{option_and_then, if◌then◌else◌}
use Rattle.std.specs.Bool.{Decides}
use Rattle.std.specs.Int.{w64, w128, cast_signed, cast_unsigned, Width}
use Rattle.std.specs.Borrow.{Bor}
use Rattle.std.specs.Option.{option_copied}
use Rattle.std.specs.Ordering.{is_eq}
use Rattle.std.proofs.lemmas.Bool.Decides.{Decides-and}
use Rattle.std.proofs.lemmas.Int.{to_z-of_z}
use Rattle.std.proofs.lemmas.List.{reverse-append}
use Rattle.std.proofs.lemmas.Slice.Eq.{bytes_eq-Decides, slice_eq-Decides}
use Rattle.metric.specs.Series.{series_cmp, series_eq, series_ties, tag_eq, Series, Tag}
use Rattle.metric.specs.declared.metric.Content.{Content}
use Rattle.proc_dedup.specs.Dedup.{entry_of, held, is_removed, last_kept, CanKeep, HasRoom, Memory, StandsFor}
use Rattle.proc_dedup.specs.Repeats.{repeats, repeats_one, series_of}
use Rattle.proc_dedup.specs.declared.sight.Sight.{Sight}
use Rattle.proc_dedup.specs.declared.sight.Sight.TheVariants.{Repeated, Fresh}

-- ---- series that are equal

tag_same : (a b : Tag) → Decides (tag_eq a b) (a ≡ b)
tag_same a b =
    let both = Decides-and _ _ (bytes_eq-Decides a.0 b.0) (bytes_eq-Decides a.1 b.1) in
    (λ e. let h = both.0 e in λ i. (h.0 i, h.1 i), λ e. both.1 (ap (λ (t : Tag). t.0) e, ap (λ (t : Tag). t.1) e))

series_same : (a b : Series) → Decides (series_eq a b) (a ≡ b)
series_same a b =
    let both = Decides-and _ _ (bytes_eq-Decides a.0 b.0) (slice_eq-Decides tag_same a.1 b.1 _ refl) in
    (λ e. let h = both.0 e in λ i. (h.0 i, h.1 i), λ e. both.1 (ap (λ (s : Series). s.0) e, ap (λ (s : Series). s.1) e))

abbrev Entries : Type 0
Entries = List (Series × Option Content)

-- ---- what stands in the map

-- room for a series changes nothing
pub room_made : (old new : Entries) (k : Series) → entry_of old k ≡ None
    → ((q : Series) → entry_of new q ≡ cond (is_eq (series_cmp k q)) (Some None) (entry_of old q))
    → (series : Series) → held new series ≡ held old series
room_made old new k none put series =
    elim (series_eq k series) as (λ t. series_eq k series ≡ t → held new series ≡ held old series) [
      | true ↦ λ e.
          let at : is_eq (series_cmp k series) ≡ true = sym (series_ties k series) ∙ e in
          let here : entry_of old series ≡ None = ap (entry_of old) (sym ((series_same k series).0 e)) ∙ none in
          rw (put series, at, here) refl
      | false ↦ λ e.
          let at : is_eq (series_cmp k series) ≡ false = sym (series_ties k series) ∙ e in
          rw (put series, at) refl
    ] refl

-- a metric that is put under its series
pub metric_put : (old new : Entries) (k : Series) (m : Content)
    → ((q : Series) → entry_of new q ≡ cond (is_eq (series_cmp k q)) (Some (Some m)) (entry_of old q))
    → (series : Series) → held new series ≡ (if series_eq k series then Some m else held old series)
metric_put old new k m put series =
    rw (put series, series_ties k series)
    (elim (is_eq (series_cmp k series)) as (λ t. option_and_then (λ (entry : Option Content). entry)
    (cond t (Some (Some m)) (entry_of old series)) ≡ cond t (Some m) (held old series)) [ true ↦ refl | false ↦ refl ])

-- what can fail for a new key alone doesn't for one that is there
pub succeeds : {A E X U : Type 0} (result : Result A E) (entry : Option X) → OnOk result U → OnErr result (entry ≡ None)
    → IsSome entry → U
succeeds (Ok x) entry ok err here = ok
succeeds (Err e) (Some x) ok err here = cc
succeeds (Err e) None ok err here = cc

-- whether a metric repeats the one that was found under its series
pub answers_held : (interval : ℤ) (old : Entries) (found series : Series) (m last : Content) (entry : Option Content)
    (answer : Bool) → answer ≡ repeats_one interval last m → entry ≡ Some last → Some entry ≡ entry_of old found
    → found ≡ series → answer ≡ repeats interval (held old series) m
answers_held interval old found series m last entry answer is some at same =
    is ∙ ap (λ (e : Option Content). repeats interval e m) (sym some)
    ∙ ap (λ (e : Option (Option Content)). repeats interval (option_and_then (λ (x : Option Content). x) e) m)
    (at ∙ ap (entry_of old) same)

-- what a search that found nothing says
pub none_copied : {X : Type 0} (found : Option (Bor X)) → is_some found ≡ false → option_copied found ≡ None
none_copied (Some x) h = cc
none_copied None h = refl

-- ---- what it stands for

pub none_held : (interval : ℤ) (kept : Entries) (series : Series) → kept ≡ []
    → held kept series ≡ last_kept interval (reverse []) series
unfolding last_kept
none_held interval kept series e = rw e refl

snoc : (list : List Content) (m : Content) → reverse (list ++ m ∷ []) ≡ m ∷ reverse list
snoc list m = reverse-append list (m ∷ [])

-- a metric that isn't removed is the last one of its series
pub one_kept : (interval : ℤ) (list : List Content) (memory : Memory) (new : Entries) (m : Content)
    → StandsFor interval list memory → is_removed interval list m ≡ false
    → ((series : Series) → held new series ≡ (if series_eq (series_of m) series then Some m else held memory.kept
    series))
    → StandsFor interval (list ++ m ∷ []) (record { interval = memory.interval; kept = new })
unfolding last_kept
one_kept interval list memory new m h fresh put = record {
  same = h.same;
  each = λ series. put series ∙ rw (snoc list m, fresh, h.each series)
      (elim (series_eq (series_of m) series) as (λ t. cond t (Some m) (last_kept interval (reverse list) series) ≡ cond
      (t && true) (Some m) (last_kept interval (reverse list) series)) [ true ↦ refl | false ↦ refl ]);
}

-- one that is removed leaves all as it is
pub none_kept : (interval : ℤ) (list : List Content) (memory : Memory) (m : Content) → StandsFor interval list memory
    → is_removed interval list m ≡ true
    → StandsFor interval (list ++ m ∷ []) memory
unfolding last_kept
none_kept interval list memory m h gone = record {
  same = h.same;
  each = λ series. h.each series ∙ rw (snoc list m, gone)
      (elim (series_eq (series_of m) series) as (λ t. last_kept interval (reverse list) series ≡ cond (t && false)
      (Some m) (last_kept interval (reverse list) series)) [ true ↦ refl | false ↦ refl ]);
}

-- what it holds is all that counts
pub same_held : (interval : ℤ) (list : List Content) (memory : Memory) (new : Entries) → StandsFor interval list memory
    → ((series : Series) → held new series ≡ held memory.kept series)
    → StandsFor interval list (record { interval = memory.interval; kept = new })
same_held interval list memory new h same = record { same = h.same; each = λ series. same series ∙ h.each series }

-- ---- what is seen

pub seen : (interval : ℤ) (list : List Content) (memory : Memory) (m : Content) (repeated : Bool)
    → StandsFor interval list memory
    → repeated ≡ repeats memory.interval (held memory.kept (series_of m)) m → repeated ≡ is_removed interval list m
seen interval list memory m repeated h e = e ∙ rw (h.same, h.each (series_of m)) refl

pub can_keep : (kept : Entries) (sight : Sight) (repeated : Bool) (m : Content)
    → sight ≡ (if repeated then Repeated else Fresh m) → HasRoom kept (series_of m) → CanKeep kept sight
can_keep kept sight true m e room = subst (CanKeep kept) (sym e) tt
can_keep kept sight false m e room = subst (CanKeep kept) (sym e) room

pub on_err : {A E U : Type 0} (result : Result A E) → U → OnErr result U
on_err (Ok x) u = tt
on_err (Err e) u = u

pub seen_repeated : (b : Bool) (m : Content) (sight : Sight) → sight ≡ (if b then Repeated else Fresh m)
    → sight ≡ Repeated → b ≡ true
seen_repeated true m sight e r = refl
seen_repeated false m sight e r = absurd (no_both m (sym e ∙ r))
  where
    no_both : (m : Content) → Fresh m ≡ Repeated → ⊥
    no_both m e = cc

pub seen_fresh : (b : Bool) (m n : Content) (sight : Sight) → sight ≡ (if b then Repeated else Fresh m)
    → sight ≡ Fresh n → (b ≡ false) × (n ≡ m)
seen_fresh true m n sight e r = absurd (no_both n (sym e ∙ r))
  where
    no_both : (n : Content) → Repeated ≡ Fresh n → ⊥
    no_both n e = cc
seen_fresh false m n sight e r = (refl, same n m (sym r ∙ e))
  where
    same : (n m : Content) → Fresh n ≡ Fresh m → n ≡ m
    same n m e = cc

-- a metric that is put is the one that was given
pub parts_put : (old new : Entries) (parts : Series × Content) (m : Content) → parts ≡ (series_of m, m)
    → ((q : Series) → entry_of new q ≡ cond (is_eq (series_cmp parts.0 q)) (Some (Some parts.1)) (entry_of old q))
    → (series : Series) → held new series ≡ (if series_eq (series_of m) series then Some m else held old series)
parts_put old new parts m e put =
    metric_put old new (series_of m) m (λ q. put q ∙ ap (λ (p : Series × Content). cond (is_eq (series_cmp p.0 q))
    (Some (Some p.1)) (entry_of old q)) e)

-- ---- times

abbrev cast : Width → ℤ → ℤ
cast w z = cast_signed w (cast_unsigned w z)

pub within : (interval last time : ℤ) → FitsSigned w64 interval → FitsSigned w64 last → FitsSigned w64 time
    → int_lt (cast w128 (cast w128 (cast w64 time) -ℤ cast w128 (cast w64 last)))
    (cast w128 (cast w64 interval)) ≡ int_lt (time -ℤ last) interval
within interval last time i l t =
    let i64 : cast w64 interval ≡ interval = to_z-of_z w64 interval i in
    let l64 : cast w64 last ≡ last = to_z-of_z w64 last l in
    let t64 : cast w64 time ≡ time = to_z-of_z w64 time t in
    let i128 : cast w128 interval ≡ interval = to_z-of_z w128 interval (search rules) in
    let l128 : cast w128 last ≡ last = to_z-of_z w128 last (search rules) in
    let t128 : cast w128 time ≡ time = to_z-of_z w128 time (search rules) in
    let d128 : cast w128 (time -ℤ last) ≡ time -ℤ last = to_z-of_z w128 (time -ℤ last) (search rules) in
    rw (i64, l64, t64, i128, l128, t128, d128) refl
