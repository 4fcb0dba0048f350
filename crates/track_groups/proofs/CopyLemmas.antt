-- How many copies wait as a list of copies is let go, and how many groups are told of.
use Rattle.std.proofs.Common.{◌≡◌, ℕ, ◌+◌, ◌-◌, ◌^◌, ◌<◌, ◌≤◌, ◌≢◌, Bool, true, false, cond, not, eqb}
use Rattle.std.proofs.Common.{List, [], ◌∷◌, ◌++◌, length, get_or, Option, Some, None, IsSome, refl, sym, ◌∙◌}
use Rattle.std.proofs.Common.{ap, subst, inl, inr, zero, suc, arith}
use mathlib.Core.Bool.{false≢true}
use Rattle.std.specs.Prelude.{find, filter, All, count_by}
use Rattle.std.specs.List.{sum_by}
use Rattle.std.proofs.lemmas.Bool.{cases_eq}
use Rattle.std.proofs.lemmas.Bool.Decides.{nat_tests}
use Rattle.std.proofs.lemmas.List.{length-map}
use Rattle.std.proofs.lemmas.List.Elements.{All-cons, All-head, All-tail, All-map, All-filter}
use Rattle.std.proofs.lemmas.List.Sums.{sum_by-cons, length-filter}
use Rattle.account.specs.declared.entry.Report.{Report}
use Rattle.track_groups.specs.declared.group.LiveGroup.{LiveGroup}
use Rattle.track_groups.specs.Tracker.{TrackerState, has_number, live_group, IsLive, copies_of, is_of}
use Rattle.track_groups.specs.Tracker.{Rises, IsTracker}
use Rattle.track_groups.specs.Settling.{Copy, is_copy_of, times, all_go, left_of, after_copies, report_with}
use Rattle.track_groups.specs.Settling.{reports_with, is_report_of, AllTold, StillTracks}
use Rattle.track_groups.proofs.PlaceLemmas.{has-true, find_none, find_at, rises-tail, none_behind}
use Rattle.track_groups.proofs.SettlingLemmas.{left, told, left_stays, left_goes, told_stays, told_goes, one, times_own}
use Rattle.track_groups.proofs.SettlingLemmas.{none_stay, behind_first, all_above, left_above, count_in, find_behind}

-- Each live group of an input is live still, or it is told of.
parts : (input : ℕ) (copies : List Copy) (groups : List LiveGroup) →
    count_by (is_of input) (left copies groups) + count_by (is_report_of input) (told copies groups)
    ≡ count_by (is_of input) groups
parts input copies [] = refl
parts input copies (x ∷ xs) = next (all_go copies x) refl (parts input copies xs)
  where
    whole : count_by (is_of input) (x ∷ xs) ≡ cond (is_of input x) 1 0 + count_by (is_of input) xs
    whole = sum_by-cons (λ (y : LiveGroup). cond (is_of input y) 1 0) x xs

    next : (b : Bool) → all_go copies x ≡ b →
        count_by (is_of input) (left copies xs) + count_by (is_report_of input) (told copies xs)
        ≡ count_by (is_of input) xs →
        count_by (is_of input) (left copies (x ∷ xs)) + count_by (is_report_of input) (told copies (x ∷ xs))
        ≡ count_by (is_of input) (x ∷ xs)
    next true is rest =
        let a : count_by (is_of input) (left copies (x ∷ xs)) ≡ count_by (is_of input) (left copies xs) =
        ap (count_by (is_of input)) (left_goes copies x xs is)
        in
        let b : count_by (is_report_of input) (told copies (x ∷ xs))
        ≡ cond (is_of input x) 1 0 + count_by (is_report_of input) (told copies xs) =
        ap (count_by (is_report_of input)) (told_goes copies x xs is)
        ∙ sum_by-cons (λ (r : Report). cond (is_report_of input r) 1 0) (report_with copies x) (told copies xs)
        in
        let c = whole in
        omega arith
    next false is rest =
        let a : count_by (is_of input) (left copies (x ∷ xs))
        ≡ cond (is_of input x) 1 0 + count_by (is_of input) (left copies xs) =
        ap (count_by (is_of input)) (left_stays copies x xs is)
        ∙ sum_by-cons (λ (y : LiveGroup). cond (is_of input y) 1 0) (left_of copies x) (left copies xs)
        in
        let b : count_by (is_report_of input) (told copies (x ∷ xs)) ≡ count_by (is_report_of input) (told copies xs) =
        ap (count_by (is_report_of input)) (told_stays copies x xs is)
        in
        let c = whole in
        omega arith

pub all_told : AllTold
all_told state copies input t = parts input copies state.live

-- Copies that wait and those that are let go are all that waited before.
count_left : (g : ℕ) (copies : List Copy) (groups : List LiveGroup) → Rises groups →
    times g copies ≤ count_in (find (has_number g) groups) →
    count_in (find (has_number g) (left copies groups)) + times g copies ≡ count_in (find (has_number g) groups)
count_left g copies [] rises few = omega arith
count_left g copies (x ∷ xs) rises few =
    elim (cases_eq x.number g) [
      | inl e ↦
          subst
          (λ h. times h copies ≤ count_in (find (has_number h) (x ∷ xs)) →
          count_in (find (has_number h) (left copies (x ∷ xs))) + times h copies
          ≡ count_in (find (has_number h) (x ∷ xs))) e (λ less. own (all_go copies x) refl less) few
      | inr n ↦
          (let f = behind_first g true copies x xs (all_go copies x) refl n in
          let b = find_behind g x xs n in
          let rest = count_left g copies xs (rises-tail x xs rises)
          (subst (λ (o : Option LiveGroup). times g copies ≤ count_in o) b few) in
          ap (λ (o : Option LiveGroup). count_in o + times g copies) f ∙ rest ∙ ap (λ (o : Option LiveGroup). count_in
          o) (sym b))
    ]
  where
    here : find (has_number x.number) (x ∷ xs) ≡ Some x
    here = let t : has_number x.number x ≡ true = has-true x.number x refl in rw t refl

    own : (b : Bool) → all_go copies x ≡ b → times x.number copies ≤ count_in (find (has_number x.number) (x ∷ xs)) →
        count_in (find (has_number x.number) (left copies (x ∷ xs))) + times x.number copies
        ≡ count_in (find (has_number x.number) (x ∷ xs))
    own true is less =
        let a : count_in (find (has_number x.number) (left copies (x ∷ xs))) ≡ 0 =
        ap (λ (ys : List LiveGroup). count_in (find (has_number x.number) ys)) (left_goes copies x xs is)
        ∙ ap (λ (o : Option LiveGroup). count_in o)
        (find_none x.number (left copies xs) (none_stay x.number copies xs (none_behind x xs rises)))
        in
        let b : count_in (find (has_number x.number) (x ∷ xs)) ≡ x.copies =
        ap (λ (o : Option LiveGroup). count_in o) here in
        let c : times x.number copies ≡ x.copies = grind (arith, nat_tests) in
        omega arith
    own false is less =
        let t : has_number x.number (left_of copies x) ≡ true = has-true x.number (left_of copies x) refl in
        let a : count_in (find (has_number x.number) (left copies (x ∷ xs))) ≡ x.copies - times x.number copies =
        ap (λ (ys : List LiveGroup). count_in (find (has_number x.number) ys)) (left_stays copies x xs is) ∙ rw t refl
        in
        let b : count_in (find (has_number x.number) (x ∷ xs)) ≡ x.copies =
        ap (λ (o : Option LiveGroup). count_in o) here in
        omega arith

pub copies_left : (state : TrackerState) (copies : List Copy) (g : ℕ) → IsTracker state →
    times g copies ≤ copies_of state g → copies_of (after_copies state copies) g + times g copies ≡ copies_of state g
copies_left state copies g t few = count_left g copies state.live t.rises few

some_waits : (o : Option LiveGroup) → 1 ≤ count_in o → IsSome o
some_waits None some = absurd (omega arith)
some_waits (Some x) some = refl

pub still_live : (state : TrackerState) (copies : List Copy) (g : ℕ) (dropped : Bool) → IsTracker state →
    times g (copies ++ one g dropped) ≤ copies_of state g → IsLive (after_copies state copies) g
still_live state copies g dropped t few =
    let more = times_own g dropped copies in
    let left = copies_left state copies g t (omega arith) in
    some_waits (live_group (after_copies state copies) g) (omega arith)

pub some_stand : (state : TrackerState) (g : ℕ) → IsLive state g → 0 < length state.live
some_stand state g live = listed state.live live
  where
    listed : (groups : List LiveGroup) → IsSome (find (has_number g) groups) → 0 < length groups
    listed [] here = absurd (false≢true here)
    listed (x ∷ xs) here = omega arith

-- what is left is a tracker's
cons_rises : (y : LiveGroup) (ys : List LiveGroup) → All (λ group. y.number < group.number) ys → Rises ys →
    Rises (y ∷ ys)
cons_rises y ys above up zero zero d l m = absurd (omega arith)
cons_rises y ys above up zero (suc j) d l m = above j d (omega arith)
cons_rises y ys above up (suc i) zero d l m = absurd (omega arith)
cons_rises y ys above up (suc i) (suc j) d l m = up i j d (omega arith) (omega arith)

left_rises : (copies : List Copy) (groups : List LiveGroup) → Rises groups → Rises (left copies groups)
left_rises copies [] rises = λ i j d l m. absurd (omega arith)
left_rises copies (x ∷ xs) rises = next (all_go copies x) refl (left_rises copies xs (rises-tail x xs rises))
  where
    next : (b : Bool) → all_go copies x ≡ b → Rises (left copies xs) → Rises (left copies (x ∷ xs))
    next true is up = subst Rises (sym (left_goes copies x xs is)) up
    next false is up =
        subst Rises (sym (left_stays copies x xs is))
        (cons_rises (left_of copies x) (left copies xs) (left_above x.number copies xs (all_above x xs rises)) up)

left_wait : (copies : List Copy) (groups : List LiveGroup) → All (λ group. times group.number copies ≤ group.copies)
    groups →
    All (λ group. 1 ≤ group.copies) (left copies groups)
left_wait copies [] few = λ k d l. absurd (omega arith)
left_wait copies (x ∷ xs) few =
    next (all_go copies x) refl
    (left_wait copies xs (All-tail (λ group. times group.number copies ≤ group.copies) x xs few))
  where
    next : (b : Bool) → all_go copies x ≡ b → All (λ group. 1 ≤ group.copies) (left copies xs) →
        All (λ group. 1 ≤ group.copies) (left copies (x ∷ xs))
    next true is rest =
        subst (λ (ys : List LiveGroup). All (λ group. 1 ≤ group.copies) ys) (sym (left_goes copies x xs is)) rest
    next false is rest =
        let less : times x.number copies ≤ x.copies =
        All-head (λ group. times group.number copies ≤ group.copies) x xs few
        in
        let differ : times x.number copies ≢ x.copies = λ e.
        (let t : all_go copies x ≡ true = grind (arith, nat_tests) in cc)
        in
        subst (λ (ys : List LiveGroup). All (λ group. 1 ≤ group.copies) ys) (sym (left_stays copies x xs is))
        (All-cons (λ group. 1 ≤ group.copies) (left_of copies x) (left copies xs) (omega (arith, differ)) rest)

-- of each group that is live no more copies go than wait
few_each : (state : TrackerState) (copies : List Copy) → IsTracker state →
    ((g : ℕ) → times g copies ≤ copies_of state g) → All (λ group. times group.number copies ≤ group.copies) state.live
few_each state copies t few k d l =
    let f = find_at state.live k d t.rises l in
    subst (λ (o : Option LiveGroup). times (get_or state.live k d).number copies ≤ count_in o) f
    (few (get_or state.live k d).number)

left_all : (P : LiveGroup → Type 0) (copies : List Copy) (groups : List LiveGroup) →
    All (λ group. P (left_of copies group)) groups → All P (left copies groups)
left_all P copies groups all =
    All-map P (left_of copies) (filter (λ group. not (all_go copies group)) groups)
    (All-filter (λ group. not (all_go copies group)) (λ group. P (left_of copies group)) groups all)

pub still_tracks : StillTracks
still_tracks state copies t few = record {
  rises = left_rises copies state.live t.rises;
  begun = left_all (λ group. group.number < state.started) copies state.live t.begun;
  inputs = left_all (λ group. group.input < length state.limits) copies state.live t.inputs;
  some = left_wait copies state.live (few_each state copies t few);
  few =
      left_all (λ group. group.copies < 2 ^ 40) copies state.live
      (λ k d l. (let below = t.few k d l in omega arith));
  limited = λ input. (let e = parts input copies state.live in omega (arith, t.limited input));
}

-- At most as many groups are told of as copies are let go.
named_once : (g : ℕ) (groups : List LiveGroup) → Rises groups →
    count_by (λ (x : LiveGroup). eqb g x.number) groups ≤ 1
named_once g [] rises = omega arith
named_once g (x ∷ xs) rises =
    let whole = sum_by-cons (λ (y : LiveGroup). cond (eqb g y.number) 1 0) x xs in
    elim (cases_eq g x.number) [
      | inl e ↦
          (let none = unnamed xs (subst (λ h. All (λ group. h < group.number) xs) (sym e) (all_above x xs rises)) in
          let t : eqb g x.number ≡ true = grind (arith, nat_tests) in
          let b : cond {A = ℕ} (eqb g x.number) 1 0 ≡ 1 = rw t refl in
          omega arith)
      | inr n ↦
          (let rest = named_once g xs (rises-tail x xs rises) in
          let f : eqb g x.number ≡ false = grind (arith, nat_tests, n) in
          let b : cond {A = ℕ} (eqb g x.number) 1 0 ≡ 0 = rw f refl in
          omega arith)
    ]
  where
    unnamed : (ys : List LiveGroup) → All (λ group. g < group.number) ys →
        count_by (λ (y : LiveGroup). eqb g y.number) ys ≡ 0
    unnamed [] above = refl
    unnamed (y ∷ ys) above =
        let first : g < y.number = All-head (λ group. g < group.number) y ys above in
        let whole = sum_by-cons (λ (z : LiveGroup). cond (eqb g z.number) 1 0) y ys in
        let f : eqb g y.number ≡ false = grind (arith, nat_tests) in
        let b : cond {A = ℕ} (eqb g y.number) 1 0 ≡ 0 = rw f refl in
        let rest = unnamed ys (All-tail (λ group. g < group.number) y ys above) in
        omega arith

times_first : (c : Copy) (cs : List Copy) (groups : List LiveGroup) →
    sum_by (λ (x : LiveGroup). times x.number (c ∷ cs)) groups
    ≡ count_by (λ (x : LiveGroup). eqb c.group x.number) groups + sum_by (λ (x : LiveGroup). times x.number cs) groups
times_first c cs [] = refl
times_first c cs (x ∷ xs) =
    let a = sum_by-cons (λ (y : LiveGroup). times y.number (c ∷ cs)) x xs in
    let b = sum_by-cons (λ (y : LiveGroup). cond (eqb c.group y.number) 1 0) x xs in
    let d = sum_by-cons (λ (y : LiveGroup). times y.number cs) x xs in
    let e : times x.number (c ∷ cs) ≡ cond (eqb c.group x.number) 1 0 + times x.number cs =
    sum_by-cons (λ (k : Copy). cond (is_copy_of x.number k) 1 0) c cs
    in
    let rest = times_first c cs xs in
    omega arith

times_all : (copies : List Copy) (groups : List LiveGroup) → Rises groups →
    sum_by (λ (x : LiveGroup). times x.number copies) groups ≤ length copies
times_all [] groups rises = none groups
  where
    none : (ys : List LiveGroup) → sum_by (λ (x : LiveGroup). times x.number []) ys ≤ 0
    none [] = omega arith
    none (y ∷ ys) =
        let a = sum_by-cons (λ (x : LiveGroup). times x.number []) y ys in
        let b = none ys in
        omega arith
times_all (c ∷ cs) groups rises =
    let a = times_first c cs groups in
    let b = named_once c.group groups rises in
    let rest = times_all cs groups rises in
    omega arith

go_few : (copies : List Copy) (groups : List LiveGroup) → All (λ group. 1 ≤ group.copies) groups →
    count_by (all_go copies) groups ≤ sum_by (λ (x : LiveGroup). times x.number copies) groups
go_few copies [] some = omega arith
go_few copies (x ∷ xs) some =
    let first : 1 ≤ x.copies = All-head (λ group. 1 ≤ group.copies) x xs some in
    let a = sum_by-cons (λ (y : LiveGroup). cond (all_go copies y) 1 0) x xs in
    let b = sum_by-cons (λ (y : LiveGroup). times y.number copies) x xs in
    let rest = go_few copies xs (All-tail (λ group. 1 ≤ group.copies) x xs some) in
    let here = one_goes (all_go copies x) refl first in
    omega arith
  where
    one_goes : (b : Bool) → all_go copies x ≡ b → 1 ≤ x.copies → cond (all_go copies x) 1 0 ≤ times x.number copies
    one_goes true is least =
        let e : times x.number copies ≡ x.copies = grind (arith, nat_tests) in
        let b : cond {A = ℕ} (all_go copies x) 1 0 ≡ 1 = rw is refl in
        omega arith
    one_goes false is least = let b : cond {A = ℕ} (all_go copies x) 1 0 ≡ 0 = rw is refl in omega arith

pub told_few : (state : TrackerState) (copies : List Copy) → IsTracker state →
    length (reports_with state copies) ≤ length copies
told_few state copies t =
    let a = length-map (filter (all_go copies) state.live) (report_with copies) in
    let b = length-filter (all_go copies) state.live in
    let c = go_few copies state.live t.some in
    let d = times_all copies state.live t.rises in
    omega arith
