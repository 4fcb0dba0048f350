-- What is kept of the parts that count, with a part more.
use Rattle.std.proofs.Common.{◌≡◌, ◌<◌, ◌≤◌, ◌+◌, ◌^◌, ◌||◌, ◌&&◌, ◌==◌, ℕ, ℤ, true, false, cond, not, Bool, List}
use Rattle.std.proofs.Common.{[], ◌∷◌, ◌++◌, length, map, refl, sym, ap, subst, ◌∙◌, arith, append_assoc, append-nil}
use Rattle.std.proofs.Common.{length-append, Some, None}
use Rattle.std.proofs.Common.{⊎_elim, ◌⊎◌}
use Rattle.std.specs.Prelude.{option_and_then, pos, Option, is_some, unwrap_or}
use Rattle.std.specs.Map.{lookup}
use Rattle.std.specs.Ordering.{is_eq}
use Rattle.std.specs.declared.cmp.Ordering.{Ordering}
use Rattle.std.specs.List.{list_any, AllByRecursion}
use Rattle.std.specs.Str.{bytes_eq}
use Rattle.std.proofs.lemmas.Bool.{ne_eqb}
use Rattle.std.proofs.lemmas.List.{length-map, map-append}
use Rattle.std.proofs.lemmas.List.Folds.{list_any-append}
use Rattle.std.proofs.lemmas.Slice.Eq.{bytes_eq-Decides}
use Rattle.metric.specs.Series.{series_eq, Series}
use Rattle.metric.specs.declared.metric.Content.{Content}
use Rattle.agg_keep.specs.Keyed.{firsts}
use Rattle.agg_keep.specs.Spot.{series_of, series_same}
use Rattle.agg_keep.proofs.KeyLemmas.{firsts-push, has, other_elements, own_elements, turned}
use Rattle.statsd_server.specs.declared.change.Change.{Change}
use Rattle.statsd_server.specs.declared.change.Change.TheVariants.{Adds, Sets, Moves, Took, Names}
use Rattle.statsd_server.specs.declared.summary.Summary.{Summary}
use Rattle.statsd_server.specs.Counting.{does_count, is_in_range, taken_to, with_part}
use Rattle.statsd_server.specs.Folding.{is_fresh, with_amount}
use Rattle.statsd_server.specs.declared.placed.First.{First}
use Rattle.statsd_server.specs.declared.placed.Placed.{Placed}
use Rattle.statsd_server.specs.Kept.{first_series, is_it, is_named, is_new, level_for, level_held, sum_held}
use Rattle.statsd_server.specs.Kept.{summary_held}
use Rattle.statsd_server.specs.Kept.{summary_if, HasPlace, HasStayed, IsPlaced, Keeps, LevelPlace, Levels}
use Rattle.statsd_server.specs.Kept.{Members, MemberPlace, Memory, Sums}
use Rattle.statsd_server.specs.Marked.{marked_cmp}
use Rattle.statsd_server.specs.Member.{member_cmp, member_named}
use Rattle.statsd_server.specs.declared.member.Member.{Member}
use Rattle.statsd_server.specs.Parts.{amount_of, change_of, changes_of, level_of, level_with, members_in, members_of}
use Rattle.statsd_server.specs.Parts.{parts_of, summary_of}
use Rattle.statsd_server.specs.Served.{series_in}
use Rattle.statsd_server.specs.Table.{held_by, place_by, value_at, Table}
use Rattle.statsd_server.proofs.FoldLemmas.{distinct-le, filtered-le, level-push, members-push, summary-push}

-- ---- places that are the same

pub place_same : {K V : Type 0} (cmp : K → K → Ordering) (old new : Table K V) → new.places ≡ old.places → (k : K)
    → place_by cmp new k ≡ place_by cmp old k
place_same {K = K} cmp old new same k = ap (λ (list : List (K × ℕ)). lookup (λ other. is_eq (cmp k other)) list) same

no_place : {K V : Type 0} (cmp : K → K → Ordering) (table : Table K V) → table.places ≡ [] → (k : K)
    → held_by cmp table k ≡ None
no_place {K = K} cmp table none k =
    ap (λ (list : List (K × ℕ)). option_and_then (value_at table.values) (lookup (λ other. is_eq
    (cmp k other)) list)) none

-- ---- the changes of a series, with a part more

pub own_changes : (q : Series) (ms : List Content) (m : Content) → series_eq (series_of m) q ≡ true
    → changes_of q (ms ++ m ∷ []) ≡ changes_of (series_of m) ms ++ change_of m ∷ []
own_changes q ms m e =
    ap (λ (list : List Content). map change_of list)
    (own_elements series_eq series_of series_same q ms m
    (turned series_eq series_of series_same (series_of m) q true e))
    ∙ map-append change_of (parts_of q ms) (m ∷ [])
    ∙ ap (λ (s : Series). changes_of s ms ++ change_of m ∷ []) (sym ((series_same (series_of m) q).0 e))

pub other_changes : (q : Series) (ms : List Content) (m : Content) → series_eq (series_of m) q ≡ false
    → changes_of q (ms ++ m ∷ []) ≡ changes_of q ms
other_changes q ms m e =
    ap (λ (list : List Content). map change_of list)
    (other_elements series_eq series_of series_same q ms m
    (turned series_eq series_of series_same (series_of m) q false e))

changes-le : (q : Series) (ms : List Content) → length (changes_of q ms) ≤ length ms
changes-le q ms =
    let few = filtered-le (λ (m : Content). series_eq q (series_of m)) ms in
    let same = length-map (parts_of q ms) change_of in
    omega arith

-- ---- what is counted

summary_some : (changes : List Change) (change : Change)
    → summary_if (changes ++ change ∷ []) ≡ Some (summary_of (changes ++ change ∷ []))
summary_some [] change = refl
summary_some (first ∷ changes) change = refl

summary_or : (changes : List Change) → unwrap_or (summary_if changes) (summary_of []) ≡ summary_of changes
summary_or [] = refl
summary_or (change ∷ changes) = refl

pub summary_is : (past now : List Content) (memory : Memory) (series : Series) → Keeps past now memory
    → summary_held memory.sums series ≡ summary_of (changes_of series now)
summary_is past now memory series h =
    ap (λ (held : Option Summary). unwrap_or held (summary_of [])) (h.sums series)
    ∙ summary_or (changes_of series now)

pub fresh_is : (past now : List Content) (memory : Memory) (series : Series) (change : Change) → Keeps past now memory
    → is_new memory.members (member_named series change) ≡ is_fresh (changes_of series now) change
fresh_is past now memory series (Names member) h = ap not (h.members (record { text = member; series = series }))
fresh_is past now memory series (Adds n) h = refl
fresh_is past now memory series (Sets n) h = refl
fresh_is past now memory series (Moves n) h = refl
fresh_is past now memory series (Took n) h = refl

-- the summary of a series with a change more
pub summary_more : (past now : List Content) (memory : Memory) (part : Content) (series : Series) (change : Change)
    (member : Option Member) (old new : Summary) (amount : ℤ) (fresh : Bool) → Keeps past now memory
    → memory.counted + 1 < 2 ^ 64 → series ≡ series_of part → change ≡ change_of part
    → member ≡ member_named (series_of part) (change_of part) → old ≡ summary_held memory.sums series
    → amount ≡ amount_of change → fresh ≡ is_new memory.members member
    → (old.count + 1 < 2 ^ 64 → old.distinct + 1 < 2 ^ 64 → new ≡ with_amount old amount fresh)
    → new ≡ summary_of (changes_of (series_of part) now ++ change_of part ∷ [])
summary_more past now memory part series change member old new amount fresh h few s c m o a f is =
    let xs = changes_of (series_of part) now in
    let old_is : old ≡ summary_of xs =
    o ∙ ap (λ (q : Series). summary_held memory.sums q) s ∙ summary_is past now memory (series_of part) h in
    let count : old.count ≡ length xs = ap (λ (x : Summary). x.count) old_is in
    let distinct = ap (λ (x : Summary). x.distinct) old_is in
    let counted = h.counted in
    let le = changes-le (series_of part) now in
    let le_2 = distinct-le xs in
    let amount_is : amount ≡ amount_of (change_of part) = a ∙ ap amount_of c in
    let fresh_too : fresh ≡ is_fresh xs (change_of part) =
    f ∙ ap (is_new memory.members) m ∙ fresh_is past now memory (series_of part) (change_of part) h in
    is (omega arith) (omega arith) ∙ rw (old_is, amount_is, fresh_too) (sym (summary-push xs (change_of part)))

-- ---- a part that counts

pub sums_more : (past now : List Content) (part : Content) (old : Memory) (sums : Sums) (new : Summary)
    → Keeps past now old → new ≡ summary_of (changes_of (series_of part) now ++ change_of part ∷ [])
    → ((q : Series) → sum_held sums q ≡ cond (series_eq (series_of part) q) (Some new) (sum_held old.sums q))
    → (q : Series) → sum_held sums q ≡ summary_if (changes_of q (now ++ part ∷ []))
sums_more past now part old sums new h is put q =
    put q ∙ elim (series_eq (series_of part) q) as (λ t. series_eq (series_of part) q ≡ t
    → cond t (Some new) (sum_held old.sums q) ≡ summary_if (changes_of q (now ++ part ∷ []))) [
      | true ↦ λ e. ap (λ (x : Summary). Some x) is
          ∙ sym (summary_some (changes_of (series_of part) now) (change_of part))
          ∙ sym (ap summary_if (own_changes q now part e))
      | false ↦ λ e. h.sums q ∙ sym (ap summary_if (other_changes q now part e))
    ] refl

pub levels_more : (past now : List Content) (part : Content) (old : Memory) (levels : Levels) (level : ℤ)
    → Keeps past now old → level ≡ level_with (level_held old.levels (series_of part)) (change_of part)
    → ((q : Series) → level_held levels q ≡ cond (series_eq (series_of part) q) level (level_held old.levels q))
    → (q : Series) → level_held levels q ≡ level_of (changes_of q (past ++ (now ++ part ∷ [])))
levels_more past now part old levels level h is put q =
    put q ∙ elim (series_eq (series_of part) q) as (λ t. series_eq (series_of part) q ≡ t
    → cond t level (level_held old.levels q) ≡ level_of (changes_of q ((past ++ now) ++ part ∷ []))) [
      | true ↦ λ e. is ∙ ap (λ (l : ℤ). level_with l (change_of part)) (h.levels (series_of part))
          ∙ sym (level-push (changes_of (series_of part) (past ++ now)) (change_of part))
          ∙ sym (ap level_of (own_changes q (past ++ now) part e))
      | false ↦ λ e. h.levels q ∙ sym (ap level_of (other_changes q (past ++ now) part e))
    ] refl
    ∙ ap (λ (ms : List Content). level_of (changes_of q ms)) (append_assoc past now (part ∷ []))

-- ---- members

or_false : (t : Bool) → (t || false) ≡ t
or_false true = refl
or_false false = refl

and_true : (t : Bool) → (t && true) ≡ t
and_true true = refl
and_true false = refl

and_false : (t : Bool) → (t && false) ≡ false
and_false true = refl
and_false false = refl

or_turned : (s t : Bool) → (s || t) ≡ (t || s)
or_turned true true = refl
or_turned true false = refl
or_turned false true = refl
or_turned false false = refl

bytes_turned : (a b : List ℕ) → bytes_eq a b ≡ bytes_eq b a
bytes_turned a b =
    elim (bytes_eq a b) as (λ t. bytes_eq a b ≡ t → t ≡ bytes_eq b a) [
      | true ↦ λ e. sym (turned bytes_eq (λ (text : List ℕ). text) bytes_eq-Decides a b true e)
      | false ↦ λ e. sym (turned bytes_eq (λ (text : List ℕ). text) bytes_eq-Decides a b false e)
    ] refl

-- whether a change of a series names a member of it
names_own : (series : Series) (change : Change) (member : Member) → series_eq series member.series ≡ true
    → is_it (member_named series change) member ≡ list_any (bytes_eq member.text) (members_of change)
names_own series (Names text) member e =
    rw e (and_true (bytes_eq text member.text) ∙ bytes_turned text member.text
    ∙ sym (or_false (bytes_eq member.text text)))
names_own series (Adds n) member e = refl
names_own series (Sets n) member e = refl
names_own series (Moves n) member e = refl
names_own series (Took n) member e = refl

names_other : (series : Series) (change : Change) (member : Member) → series_eq series member.series ≡ false
    → is_it (member_named series change) member ≡ false
names_other series (Names text) member e = rw e (and_false (bytes_eq text member.text))
names_other series (Adds n) member e = refl
names_other series (Sets n) member e = refl
names_other series (Moves n) member e = refl
names_other series (Took n) member e = refl

pub members_more : (past now : List Content) (part : Content) (old : Memory) (members : Members) → Keeps past now old
    → ((m : Member) → is_named members m
    ≡ (is_it (member_named (series_of part) (change_of part)) m || is_named old.members m))
    → (m : Member)
    → is_named members m ≡ list_any (bytes_eq m.text) (members_in (changes_of m.series (now ++ part ∷ [])))
members_more past now part old members h put m =
    let s = series_of part in
    let c = change_of part in
    let xs = changes_of s now in
    put m ∙ elim (series_eq s m.series) as (λ t. series_eq s m.series ≡ t
    → (is_it (member_named s c) m || is_named old.members m)
    ≡ list_any (bytes_eq m.text) (members_in (changes_of m.series (now ++ part ∷ [])))) [
      | true ↦ λ e.
          let here : is_named old.members m ≡ list_any (bytes_eq m.text) (members_in xs) =
          h.members m ∙ ap (λ (q : Series). list_any (bytes_eq m.text) (members_in (changes_of q now)))
          (sym ((series_same s m.series).0 e)) in
          rw (names_own s c m e, here)
          (or_turned (list_any (bytes_eq m.text) (members_of c)) (list_any (bytes_eq m.text) (members_in xs))
          ∙ sym (list_any-append (bytes_eq m.text) (members_in xs) (members_of c))
          ∙ sym (ap (list_any (bytes_eq m.text)) (members-push xs c))
          ∙ sym (ap (λ (changes : List Change). list_any (bytes_eq m.text) (members_in changes))
          (own_changes m.series now part e)))
      | false ↦ λ e. rw (names_other s c m e) (h.members m
          ∙ sym (ap (λ (changes : List Change). list_any (bytes_eq m.text) (members_in changes))
          (other_changes m.series now part e)))
    ] refl

-- ---- the order

none_first : (now : List Content) (series : Series)
    → (length (changes_of series now) == 0) ≡ not (has series_eq series_of series_same series now)
none_first [] series = refl
none_first (m ∷ now) series =
    elim (series_eq series (series_of m)) as (λ t. (length (map change_of (cond t (m ∷ parts_of series now)
    (parts_of series now))) == 0) ≡ not (t || has series_eq series_of series_same series now)) [
      | true ↦ ne_eqb (length (change_of m ∷ changes_of series now)) 0 (λ e. absurd (omega arith))
      | false ↦ none_first now series
    ]

map_cond : (t : Bool) (order : List First) (first : First) (part : Content) (series : List Series)
    → map first_series order ≡ series → first.series ≡ series_of part
    → map first_series (cond t (order ++ first ∷ []) order) ≡ cond t (series ++ series_of part ∷ []) series
map_cond true order first part series e is =
    map-append first_series order (first ∷ []) ∙ ap (λ (list : List Series). list ++ first_series first ∷ []) e
    ∙ ap (λ (s : Series). series ++ s ∷ []) is
map_cond false order first part series e is = e

turned_not : {X : Type 0} (t : Bool) (a b : X) → cond (not t) a b ≡ cond t b a
turned_not true a b = refl
turned_not false a b = refl

pub ordered_more : (past now : List Content) (part : Content) (old : Memory) (order : List First) (first : First)
    (is_first : Bool) → Keeps past now old → is_first ≡ (length (changes_of (series_of part) now) == 0)
    → first.series ≡ series_of part → order ≡ cond is_first (old.order ++ first ∷ []) old.order
    → map first_series order ≡ series_in (now ++ part ∷ [])
ordered_more past now part old order first is_first h is same put =
    let s = series_of part in
    ap (map first_series) put ∙ map_cond is_first old.order first part (series_in now) h.ordered same
    ∙ ap (λ (t : Bool). cond t (series_in now ++ s ∷ []) (series_in now)) (is ∙ none_first now s)
    ∙ turned_not (has series_eq series_of series_same s now) (series_in now ++ s ∷ []) (series_in now)
    ∙ sym (firsts-push series_eq series_of series_same now part)

pub placed_more : (sums : Sums) (order : List First) (first : First) (t : Bool) → AllByRecursion (HasPlace sums) order
    → HasPlace sums first → AllByRecursion (HasPlace sums) (cond t (order ++ first ∷ []) order)
placed_more sums order first false h is = h
placed_more sums [] first true h is = (is, tt)
placed_more sums (one ∷ order) first true h is = (h.0, placed_more sums order first true h.1 is)

pub places_same : (old new : Sums) (order : List First) → new.places ≡ old.places → AllByRecursion (HasPlace old) order
    → AllByRecursion (HasPlace new) order
places_same old new [] same h = tt
places_same old new (first ∷ order) same h = (
  place_same marked_cmp old new same (first_series first)
      ∙ h.0,
  places_same old new order same h.1,
)

-- ---- levels

-- the level that a change moves is that which is held, as far as the change asks for it
pub level_taken : (levels : Levels) (series : Series) (sum : ℤ) (change : Change)
    → taken_to sum (level_for levels series change) change ≡ taken_to sum (level_held levels series) change
level_taken levels series sum (Adds n) = refl
level_taken levels series sum (Sets n) = refl
level_taken levels series sum (Moves n) = refl
level_taken levels series sum (Took n) = refl
level_taken levels series sum (Names text) = refl

no_gauge : (before : ℤ) (change : Change)
    → ((x : ℤ) × (change ≡ Adds x)) ⊎ (((x : ℤ) × (change ≡ Took x)) ⊎ ((x : List ℕ) × (change ≡ Names x)))
    → level_with before change ≡ before
no_gauge before change h =
    ⊎_elim (λ w. ap (level_with before) w.1)
    (λ other. ⊎_elim (λ w. ap (level_with before) w.1) (λ w. ap (level_with before) w.1) other) h

-- what is no gauge keeps it
pub level_stays : (levels : Levels) (series : Series) (change : Change)
    → ((x : ℤ) × (change ≡ Adds x)) ⊎ (((x : ℤ) × (change ≡ Took x)) ⊎ ((x : List ℕ) × (change ≡ Names x)))
    → (q : Series)
    → level_held levels q ≡ cond (series_eq series q) (level_with (level_held levels series) change)
    (level_held levels q)
level_stays levels series change none q =
    elim (series_eq series q) as (λ t. series_eq series q ≡ t
    → level_held levels q ≡ cond t (level_with (level_held levels series) change) (level_held levels q)) [
      | true ↦ λ e. sym (no_gauge (level_held levels series) change none
          ∙ ap (level_held levels) ((series_same series q).0 e))
      | false ↦ λ e. refl
    ] refl

-- ---- a part, with what the code found of it

-- whether it counts
pub counts_is : (past now : List Content) (memory : Memory) (part : Content) (change : Change) (summary : Summary)
    (level : ℤ) (counts : Bool) → Keeps past now memory → change ≡ change_of part
    → summary ≡ summary_held memory.sums (series_of part)
    → level ≡ level_for memory.levels (series_of part) change → counts ≡ is_in_range (taken_to summary.sum level change)
    → does_count past now part ≡ counts
counts_is past now memory part change summary level counts h c sum l is =
    let s = series_of part in
    let sum_is : summary ≡ summary_of (changes_of s now) = sum ∙ summary_is past now memory s h in
    let taken : taken_to summary.sum level change ≡ taken_to summary.sum (level_held memory.levels s) change =
    ap (λ (x : ℤ). taken_to summary.sum x change) l ∙ level_taken memory.levels s summary.sum change in
    sym (is ∙ ap is_in_range taken ∙ rw (sum_is, h.levels s, c) refl)

pub left_out : (past now : List Content) (part : Content) (old new : Memory) → does_count past now part ≡ false
    → Keeps past now new → Keeps past (with_part past now part) new
left_out past now part old new e h = rw e h

-- what the code makes of a part that counts
pub record Counts (part : Content) (old new : Memory) : Type 0 where
  pub change : Change
  pub member : Option Member
  pub first : First
  pub summary : Summary
  pub more : Summary
  pub amount : ℤ
  pub fresh : Bool
  pub is_first : Bool
  pub change_is : change ≡ change_of part
  pub member_is : member ≡ member_named (series_of part) (change_of part)
  pub series_is : first.series ≡ series_of part
  pub place_is : place_by marked_cmp old.sums (series_of part) ≡ Some first.sum
  pub summary_is : summary ≡ summary_held old.sums (series_of part)
  pub amount_is : amount ≡ amount_of change
  pub fresh_is : fresh ≡ is_new old.members member
  pub first_is : is_first ≡ (summary.count == 0)
  pub more_is : summary.count + 1 < 2 ^ 64 → summary.distinct + 1 < 2 ^ 64 → more ≡ with_amount summary amount fresh
  pub places : new.sums.places ≡ old.sums.places
  pub sums : (q : Series) → sum_held new.sums q ≡ cond (series_eq (series_of part) q) (Some more) (sum_held old.sums q)
  pub levels : (q : Series) → level_held new.levels q ≡ cond (series_eq (series_of part) q)
      (level_with (level_held old.levels (series_of part)) change) (level_held old.levels q)
  pub members : (m : Member) → is_named new.members m ≡ (is_it member m || is_named old.members m)
  pub order : new.order ≡ cond is_first (old.order ++ first ∷ []) old.order
  pub counted : new.counted ≡ old.counted + 1

pub counted_more : (past now : List Content) (part : Content) (old new : Memory) → Keeps past now old
    → old.counted + 1 < 2 ^ 64 → Counts part old new → Keeps past (now ++ part ∷ []) new
counted_more past now part old new h few k =
    let s = series_of part in
    let more_is = summary_more past now old part s k.change k.member k.summary k.more k.amount k.fresh h few
    refl k.change_is k.member_is k.summary_is k.amount_is k.fresh_is k.more_is in
    let old_is : k.summary ≡ summary_of (changes_of s now) = k.summary_is ∙ summary_is past now old s h in
    record {
      sums = sums_more past now part old new.sums k.more h more_is k.sums;
      levels = levels_more past now part old new.levels (level_with (level_held old.levels s) k.change) h
          (ap (level_with (level_held old.levels s)) k.change_is) k.levels;
      members = members_more past now part old new.members h
          (λ m. k.members m ∙ ap (λ (named : Option Member). is_it named m || is_named old.members m) k.member_is);
      ordered = ordered_more past now part old new.order k.first k.is_first h
          (k.first_is ∙ ap (λ (x : Summary). x.count == 0) old_is) k.series_is k.order;
      placed = subst (AllByRecursion (HasPlace new.sums)) (sym k.order)
          (placed_more new.sums old.order k.first k.is_first
          (places_same old.sums new.sums old.order k.places h.placed)
          (place_same marked_cmp old.sums new.sums k.places (first_series k.first)
          ∙ ap (place_by marked_cmp old.sums) k.series_is ∙ k.place_is));
      counted = k.counted ∙ ap (λ (n : ℕ). n + 1) h.counted ∙ sym (length-append now (part ∷ []));
    }

-- it counts, or it is left out
pub with_part_counts : (past now : List Content) (part : Content) (old new : Memory) → Keeps past now old
    → old.counted + 1 < 2 ^ 64 → does_count past now part ≡ true → Counts part old new
    → Keeps past (with_part past now part) new
with_part_counts past now part old new h few e k = rw e (counted_more past now part old new h few k)

-- ---- places

abbrev PlacesStay : {K V : Type 0} → (K → K → Ordering) → Table K V → Table K V → Type 0
PlacesStay {K = K} cmp old new = (k : K) (at : ℕ) → place_by cmp old k ≡ Some at → place_by cmp new k ≡ Some at

level_place_stays : (old new : Levels) → PlacesStay marked_cmp old new → (series : Series) (change : Change) (at : ℕ)
    → LevelPlace old series change at → LevelPlace new series change at
level_place_stays old new stays series (Sets n) at is = stays series at is
level_place_stays old new stays series (Moves n) at is = stays series at is
level_place_stays old new stays series (Adds n) at is = tt
level_place_stays old new stays series (Took n) at is = tt
level_place_stays old new stays series (Names text) at is = tt

member_place_stays : (old new : Members) → PlacesStay member_cmp old new → (member : Option Member) (at : Option ℕ)
    → MemberPlace old member at → MemberPlace new member at
member_place_stays old new stays None None is = tt
member_place_stays old new stays None (Some at) is = is
member_place_stays old new stays (Some member) None is = is
member_place_stays old new stays (Some member) (Some at) is = stays member at is

pub placed_stays : (old new : Memory) → PlacesStay marked_cmp old.sums new.sums
    → PlacesStay marked_cmp old.levels new.levels → PlacesStay member_cmp old.members new.members → (other : Placed)
    → IsPlaced old other → IsPlaced new other
placed_stays old new sums levels members other is =
    let s = other.part.series in
    let c = other.part.change in
    record {
      sum = sums s other.sum is.sum;
      level = level_place_stays old.levels new.levels levels s c other.level is.level;
      member = member_place_stays old.members new.members members (member_named s c) other.member is.member;
    }

pub firsts_stay : (old new : Sums) → PlacesStay marked_cmp old new → (order : List First)
    → AllByRecursion (HasPlace old) order → AllByRecursion (HasPlace new) order
firsts_stay old new stays [] h = tt
firsts_stay old new stays (first ∷ order) h =
    (stays (first_series first) first.sum h.0, firsts_stay old new stays order h.1)

-- where places were given, and nothing else
pub has_stayed : (old new : Memory) → ((q : Series) → sum_held new.sums q ≡ sum_held old.sums q)
    → PlacesStay marked_cmp old.sums new.sums → ((q : Series) → level_held new.levels q ≡ level_held old.levels q)
    → PlacesStay marked_cmp old.levels new.levels → ((m : Member) → is_named new.members m ≡ is_named old.members m)
    → PlacesStay member_cmp old.members new.members → new.order ≡ old.order → old.room ≤ new.room
    → new.counted ≡ old.counted → new.refused ≡ old.refused → HasStayed old new
has_stayed old new sums sums_stay levels levels_stay members members_stay order room counted refused = record {
  keeps = λ past now h. record {
    sums = λ q. sums q ∙ h.sums q;
    levels = λ q. levels q ∙ h.levels q;
    members = λ m. members m ∙ h.members m;
    ordered = ap (map first_series) order ∙ h.ordered;
    placed = subst (AllByRecursion (HasPlace new.sums)) (sym order)
        (firsts_stay old.sums new.sums sums_stay old.order h.placed);
    counted = counted ∙ h.counted;
  };
  placed = placed_stays old new sums_stay levels_stay members_stay;
  order = order;
  room = room;
  counted = counted;
  refused = refused;
}

pub stayed_both : (a b c : Memory) → HasStayed a b → HasStayed b c → HasStayed a c
stayed_both a b c h k = record {
  keeps = λ past now is. k.keeps past now (h.keeps past now is);
  placed = λ other is. k.placed other (h.placed other is);
  order = k.order ∙ h.order;
  room = let one = h.room in let two = k.room in omega (arith, one, two);
  counted = k.counted ∙ h.counted;
  refused = k.refused ∙ h.refused;
}

-- those of a list
pub all_stay : (P Q : Placed → Type 0) → ((p : Placed) → P p → Q p) → (ps : List Placed) → AllByRecursion P ps
    → AllByRecursion Q ps
all_stay P Q stays [] h = tt
all_stay P Q stays (p ∷ ps) h = (stays p h.0, all_stay P Q stays ps h.1)

pub all_more : (P : Placed → Type 0) (ps : List Placed) (p : Placed) → AllByRecursion P ps → P p
    → AllByRecursion P (ps ++ p ∷ [])
all_more P [] p h is = (is, tt)
all_more P (one ∷ ps) p h is = (h.0, all_more P ps p h.1 is)

-- a new group begins
pub begins : (past now : List Content) (old new : Memory) → Keeps past now old
    → ((q : Series) → sum_held new.sums q ≡ None) → ((m : Member) → held_by member_cmp new.members m ≡ None)
    → new.order ≡ [] → new.counted ≡ 0 → new.levels ≡ old.levels → Keeps (past ++ now) [] new
unfolding firsts
begins past now old new h sums members order counted levels = record {
  sums = sums;
  levels = λ q. ap (λ (table : Levels). level_held table q) levels ∙ h.levels q
      ∙ ap (λ (ms : List Content). level_of (changes_of q ms)) (sym (append-nil (past ++ now)));
  members = λ m. ap (λ (held : Option (Unit {0})). is_some held) (members m);
  ordered = ap (map first_series) order;
  placed = subst (AllByRecursion (HasPlace new.sums)) (sym order) tt;
  counted = counted;
}

-- nothing is kept of no part
pub none_kept : (memory : Memory) → memory.sums.places ≡ [] → memory.levels.places ≡ [] → memory.members.places ≡ []
    → memory.order ≡ [] → memory.counted ≡ 0 → Keeps [] [] memory
unfolding firsts
none_kept memory sums levels members order counted = record {
  sums = no_place marked_cmp memory.sums sums;
  levels = λ q. ap (λ (held : Option ℤ). unwrap_or held (pos 0)) (no_place marked_cmp memory.levels levels q);
  members = λ m. ap (λ (held : Option (Unit {0})). is_some held) (no_place member_cmp memory.members members m);
  ordered = ap (map first_series) order;
  placed = subst (AllByRecursion (HasPlace memory.sums)) (sym order) tt;
  counted = counted;
}

pub none_left : {X : Type 0} (xs : List X) → length xs ≡ 0 → xs ≡ []
none_left [] e = refl
none_left (x ∷ xs) e = absurd (omega arith)
