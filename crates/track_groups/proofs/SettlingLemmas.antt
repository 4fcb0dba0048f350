-- What becomes of live groups as a list of copies is let go, and as one copy more is.
use Rattle.std.proofs.Common.{◌≡◌, ℕ, ◌+◌, ◌-◌, ◌<◌, ◌≤◌, ◌≢◌, Bool, true, false, cond, not, eqb, ltb, ◌||◌, ◌&&◌}
use Rattle.std.proofs.Common.{List, [], ◌∷◌, ◌++◌, map, length, Option, Some, None, IsSome, refl, sym, ◌∙◌}
use Rattle.std.proofs.Common.{ap, subst, inl, inr, zero, suc, arith}
use mathlib.Core.Bool.{false≢true}
use Rattle.std.specs.Prelude.{find, filter, All, insert}
use Rattle.std.specs.List.Sorted.{IsPartitionPoint}
use Rattle.std.specs.Option.{option_map_or}
use Rattle.std.proofs.lemmas.Bool.{cases_eq}
use Rattle.std.proofs.lemmas.Bool.Decides.{nat_tests}
use Rattle.std.proofs.lemmas.List.Elements.{All-head, All-tail, All-map, All-filter}
use Rattle.std.proofs.lemmas.List.Sums.{sum_by_push}
use Rattle.account.specs.declared.entry.Report.{Report}
use Rattle.track_groups.specs.declared.group.LiveGroup.{LiveGroup}
use Rattle.track_groups.specs.Tracker.{TrackerState, has_number, live_group, IsLive, copies_of, has_one, changed}
use Rattle.track_groups.specs.Tracker.{without, settled, after_settle, settle_report, Rises, IsTracker}
use Rattle.track_groups.specs.Settling.{Copy, is_copy_of, is_dropped_of, times, drops, all_go, is_marked, left_of}
use Rattle.track_groups.specs.Settling.{after_copies, report_with, reports_with, RiseTold, IsPlaceOf, PutsTold}
use Rattle.track_groups.specs.Settling.{NoneGoes, OneGoes}
use Rattle.track_groups.proofs.PlaceLemmas.{NoneHas, has-true, has-false, find_none, rises-tail, none_behind}
use Rattle.track_groups.proofs.PlaceLemmas.{changed_none, without_none}

-- the groups that stay, without these copies, and what is told of the others
abbrev pub left : List Copy → List LiveGroup → List LiveGroup
left copies groups = map (left_of copies) (filter (λ group. not (all_go copies group)) groups)

abbrev pub told : List Copy → List LiveGroup → List Report
told copies groups = map (report_with copies) (filter (all_go copies) groups)

-- one by one
pub left_stays : (copies : List Copy) (x : LiveGroup) (xs : List LiveGroup) → all_go copies x ≡ false →
    left copies (x ∷ xs) ≡ left_of copies x ∷ left copies xs
left_stays copies x xs f = rw f refl

pub left_goes : (copies : List Copy) (x : LiveGroup) (xs : List LiveGroup) → all_go copies x ≡ true →
    left copies (x ∷ xs) ≡ left copies xs
left_goes copies x xs t = rw t refl

pub told_stays : (copies : List Copy) (x : LiveGroup) (xs : List LiveGroup) → all_go copies x ≡ false →
    told copies (x ∷ xs) ≡ told copies xs
told_stays copies x xs f = rw f refl

pub told_goes : (copies : List Copy) (x : LiveGroup) (xs : List LiveGroup) → all_go copies x ≡ true →
    told copies (x ∷ xs) ≡ report_with copies x ∷ told copies xs
told_goes copies x xs t = rw t refl

-- a group is what is said of it
pub same_group : (x y : LiveGroup) → x.number ≡ y.number → x.copies ≡ y.copies → x.input ≡ y.input →
    x.rejected ≡ y.rejected → x ≡ y
same_group x y number copies input rejected = λ i.
    record { number = number i; copies = copies i; input = input i; rejected = rejected i }

-- Where no copy goes, all stays.
or_no : (b : Bool) → (b || false) ≡ b
or_no true = refl
or_no false = refl

left_none : (x : LiveGroup) → left_of [] x ≡ x
left_none x = same_group (left_of [] x) x refl (omega arith) refl (or_no x.rejected)

stays_none : (x : LiveGroup) → 1 ≤ x.copies → all_go [] x ≡ false
stays_none x some = grind (arith, nat_tests)

none_left : (groups : List LiveGroup) → All (λ group. 1 ≤ group.copies) groups → left [] groups ≡ groups
none_left [] some = refl
none_left (x ∷ xs) some =
    left_stays [] x xs (stays_none x (All-head (λ group. 1 ≤ group.copies) x xs some))
    ∙ (λ i. left_none x i ∷ none_left xs (All-tail (λ group. 1 ≤ group.copies) x xs some) i)

none_told : (groups : List LiveGroup) → All (λ group. 1 ≤ group.copies) groups → told [] groups ≡ []
none_told [] some = refl
none_told (x ∷ xs) some =
    told_stays [] x xs (stays_none x (All-head (λ group. 1 ≤ group.copies) x xs some))
    ∙ none_told xs (All-tail (λ group. 1 ≤ group.copies) x xs some)

pub after_none : (state : TrackerState) → IsTracker state → after_copies state [] ≡ state
after_none state t = ap (λ (groups : List LiveGroup). record state { live = groups }) (none_left state.live t.some)

pub reports_none : (state : TrackerState) → IsTracker state → reports_with state [] ≡ []
reports_none state t = none_told state.live t.some

-- one copy more
abbrev pub one : ℕ → Bool → List Copy
one g dropped = record { group = g; dropped = dropped } ∷ []

pub times_own : (g : ℕ) (dropped : Bool) (copies : List Copy) → times g (copies ++ one g dropped) ≡ times g copies + 1
times_own g dropped copies =
    let more = sum_by_push (λ (c : Copy). cond (is_copy_of g c) 1 0) copies (record { group = g; dropped = dropped }) in
    let t : eqb g g ≡ true = grind (arith, nat_tests) in
    more ∙ ap (λ (b : Bool). times g copies + cond b 1 0) t

times_other : (g h : ℕ) (dropped : Bool) (copies : List Copy) → h ≢ g →
    times h (copies ++ one g dropped) ≡ times h copies
times_other g h dropped copies n =
    let more = sum_by_push (λ (c : Copy). cond (is_copy_of h c) 1 0) copies (record { group = g; dropped = dropped }) in
    let f : eqb g h ≡ false = grind (arith, nat_tests) in
    let none : times h copies + 0 ≡ times h copies = omega arith in
    more ∙ ap (λ (b : Bool). times h copies + cond b 1 0) f ∙ none

drops_own : (g : ℕ) (dropped : Bool) (copies : List Copy) →
    drops g (copies ++ one g dropped) ≡ drops g copies + cond dropped 1 0
drops_own g dropped copies =
    let more = sum_by_push (λ (c : Copy). cond (is_dropped_of g c) 1 0) copies (record {
      group = g;
      dropped =
          dropped;
    }) in
    let t : eqb g g ≡ true = grind (arith, nat_tests) in
    more ∙ ap (λ (b : Bool). drops g copies + cond (b && dropped) 1 0) t

drops_other : (g h : ℕ) (dropped : Bool) (copies : List Copy) → h ≢ g →
    drops h (copies ++ one g dropped) ≡ drops h copies
drops_other g h dropped copies n =
    let more = sum_by_push (λ (c : Copy). cond (is_dropped_of h c) 1 0) copies (record {
      group = g;
      dropped =
          dropped;
    }) in
    let f : eqb g h ≡ false = grind (arith, nat_tests) in
    let none : drops h copies + 0 ≡ drops h copies = omega arith in
    more ∙ ap (λ (b : Bool). drops h copies + cond (b && dropped) 1 0) f ∙ none

go_other : (g : ℕ) (dropped : Bool) (copies : List Copy) (x : LiveGroup) → x.number ≢ g →
    all_go (copies ++ one g dropped) x ≡ all_go copies x
go_other g dropped copies x n = ap (λ k. eqb k x.copies) (times_other g x.number dropped copies n)

left_other : (g : ℕ) (dropped : Bool) (copies : List Copy) (x : LiveGroup) → x.number ≢ g →
    left_of (copies ++ one g dropped) x ≡ left_of copies x
left_other g dropped copies x n =
    same_group (left_of (copies ++ one g dropped) x) (left_of copies x) refl
    (ap (λ k. x.copies - k) (times_other g x.number dropped copies n)) refl
    (ap (λ k. x.rejected || not (eqb k 0)) (drops_other g x.number dropped copies n))

report_other : (g : ℕ) (dropped : Bool) (copies : List Copy) (x : LiveGroup) → x.number ≢ g →
    report_with (copies ++ one g dropped) x ≡ report_with copies x
report_other g dropped copies x n = λ i.
    record {
      group = x.number;
      input = x.input;
      delivered = not (x.rejected || not (eqb (drops_other g x.number dropped copies n i) 0));
    }

-- What is marked with one copy more: what was, or where that one was dropped.
some_more : (n m : ℕ) (dropped : Bool) → m ≡ n + cond dropped 1 0 → not (eqb m 0) ≡ (not (eqb n 0) || dropped)
some_more n m true e =
    let f : eqb m 0 ≡ false = grind (arith, nat_tests) in
    ap not f ∙ true_last (not (eqb n 0))
  where
    true_last : (b : Bool) → true ≡ (b || true)
    true_last true = refl
    true_last false = refl
some_more n m false e =
    let same : m ≡ n = omega arith in
    ap (λ k. not (eqb k 0)) same ∙ sym (or_no (not (eqb n 0)))

or_joins : (a b c : Bool) → (a || (b || c)) ≡ ((a || b) || c)
or_joins true b c = refl
or_joins false b c = refl

marked_own : (dropped : Bool) (copies : List Copy) (x : LiveGroup) →
    is_marked (copies ++ one x.number dropped) x ≡ (is_marked copies x || dropped)
marked_own dropped copies x =
    ap (λ b. x.rejected || b) (some_more _ _ dropped (drops_own x.number dropped copies))
    ∙ or_joins x.rejected (not (eqb (drops x.number copies) 0)) dropped

left_own : (dropped : Bool) (copies : List Copy) (x : LiveGroup) →
    left_of (copies ++ one x.number dropped) x ≡ settled dropped (left_of copies x)
left_own dropped copies x =
    let more = times_own x.number dropped copies in
    same_group (left_of (copies ++ one x.number dropped) x) (settled dropped (left_of copies x)) refl (omega arith) refl
    (marked_own dropped copies x)

-- whether the next copy is its last
last_goes : (dropped : Bool) (copies : List Copy) (x : LiveGroup) → (left_of copies x).copies ≡ 1 →
    all_go (copies ++ one x.number dropped) x ≡ true
last_goes dropped copies x e =
    let more = times_own x.number dropped copies in
    let same : times x.number (copies ++ one x.number dropped) ≡ x.copies = omega arith in
    ap (λ k. eqb k x.copies) same ∙ grind (arith, nat_tests)

more_stay : (dropped : Bool) (copies : List Copy) (x : LiveGroup) → (left_of copies x).copies ≢ 1 →
    all_go copies x ≡ false → all_go (copies ++ one x.number dropped) x ≡ false
more_stay dropped copies x n stays =
    let more = times_own x.number dropped copies in
    let other : times x.number copies ≢ x.copies = λ e. (let t : all_go copies x ≡ true = grind (arith, nat_tests) in
    cc) in
    let differ : times x.number (copies ++ one x.number dropped) ≢ x.copies = λ e. omega (arith, n, other) in
    grind (arith, nat_tests, differ)

-- the groups that have other numbers
pub none_stay : (g : ℕ) (copies : List Copy) (groups : List LiveGroup) → NoneHas g groups → NoneHas g (left copies
    groups)
none_stay g copies groups none =
    All-map (λ group. group.number ≢ g) (left_of copies) (filter (λ group. not (all_go copies group)) groups)
    (All-filter (λ group. not (all_go copies group)) (λ group. group.number ≢ g) groups none)

module _ (g : ℕ) (dropped : Bool) (copies : List Copy) where
  left_next : (x : LiveGroup) (xs ys : List LiveGroup) (b : Bool) → all_go copies x ≡ b → x.number ≢ g →
      left (copies ++ one g dropped) xs ≡ ys →
      left (copies ++ one g dropped) (x ∷ xs) ≡ cond b ys (left_of copies x ∷ ys)
  left_next x xs ys true is n e =
      left_goes (copies ++ one g dropped) x xs (go_other g dropped copies x n ∙ is) ∙ e
  left_next x xs ys false is n e =
      left_stays (copies ++ one g dropped) x xs (go_other g dropped copies x n ∙ is)
      ∙ (λ i. left_other g dropped copies x n i ∷ e i)

  told_next : (x : LiveGroup) (xs : List LiveGroup) (rs : List Report) (b : Bool) → all_go copies x ≡ b →
      x.number ≢ g → told (copies ++ one g dropped) xs ≡ rs →
      told (copies ++ one g dropped) (x ∷ xs) ≡ cond b (report_with copies x ∷ rs) rs
  told_next x xs rs true is n e =
      told_goes (copies ++ one g dropped) x xs (go_other g dropped copies x n ∙ is)
      ∙ (λ i. report_other g dropped copies x n i ∷ e i)
  told_next x xs rs false is n e =
      told_stays (copies ++ one g dropped) x xs (go_other g dropped copies x n ∙ is) ∙ e

  left_is : (x : LiveGroup) (xs : List LiveGroup) (b : Bool) → all_go copies x ≡ b →
      left copies (x ∷ xs) ≡ cond b (left copies xs) (left_of copies x ∷ left copies xs)
  left_is x xs true is = left_goes copies x xs is
  left_is x xs false is = left_stays copies x xs is

  told_is : (x : LiveGroup) (xs : List LiveGroup) (b : Bool) → all_go copies x ≡ b →
      told copies (x ∷ xs) ≡ cond b (report_with copies x ∷ told copies xs) (told copies xs)
  told_is x xs true is = told_goes copies x xs is
  told_is x xs false is = told_stays copies x xs is

  others_left : (groups : List LiveGroup) → NoneHas g groups →
      left (copies ++ one g dropped) groups ≡ left copies groups
  others_left [] none = refl
  others_left (x ∷ xs) none =
      left_next x xs (left copies xs) (all_go copies x) refl (All-head (λ group. group.number ≢ g) x xs none)
      (others_left xs (All-tail (λ group. group.number ≢ g) x xs none))
      ∙ sym (left_is x xs (all_go copies x) refl)

  others_told : (groups : List LiveGroup) → NoneHas g groups →
      told (copies ++ one g dropped) groups ≡ told copies groups
  others_told [] none = refl
  others_told (x ∷ xs) none =
      told_next x xs (told copies xs) (all_go copies x) refl (All-head (λ group. group.number ≢ g) x xs none)
      (others_told xs (All-tail (λ group. group.number ≢ g) x xs none))
      ∙ sym (told_is x xs (all_go copies x) refl)

-- one copy let go of a group in a list
abbrev copies_in : ℕ → List LiveGroup → ℕ
copies_in g groups = option_map_or (λ group. group.copies) (find (has_number g) groups) 0

abbrev settle_in : ℕ → Bool → List LiveGroup → List LiveGroup
settle_in g dropped groups = cond (eqb (copies_in g groups) 1) (without g groups) (changed g (settled dropped) groups)

cond_cons : {A : Type 0} (b : Bool) (x : A) (xs ys : List A) → cond b (x ∷ xs) (x ∷ ys) ≡ x ∷ cond b xs ys
cond_cons true x xs ys = refl
cond_cons false x xs ys = refl

settle_other : (g : ℕ) (dropped : Bool) (x : LiveGroup) (xs : List LiveGroup) → x.number ≢ g →
    settle_in g dropped (x ∷ xs) ≡ x ∷ settle_in g dropped xs
settle_other g dropped x xs n =
    let f : has_number g x ≡ false = has-false g x n in
    rw f (cond_cons (eqb (copies_in g xs) 1) x (without g xs) (changed g (settled dropped) xs))

settle_last : (dropped : Bool) (x : LiveGroup) (xs : List LiveGroup) → x.copies ≡ 1 → NoneHas x.number xs →
    settle_in x.number dropped (x ∷ xs) ≡ xs
settle_last dropped x xs e none =
    let t : has_number x.number x ≡ true = has-true x.number x refl in
    let u : eqb x.copies 1 ≡ true = grind (arith, nat_tests) in
    rw (t, u) (without_none x.number xs none)

settle_more : (dropped : Bool) (x : LiveGroup) (xs : List LiveGroup) → x.copies ≢ 1 → NoneHas x.number xs →
    settle_in x.number dropped (x ∷ xs) ≡ settled dropped x ∷ xs
settle_more dropped x xs n none =
    let t : has_number x.number x ≡ true = has-true x.number x refl in
    let f : eqb x.copies 1 ≡ false = grind (arith, nat_tests, n) in
    rw (t, f) (ap (λ (ys : List LiveGroup). settled dropped x ∷ ys) (changed_none x.number (settled dropped) xs none))

-- a group that is among these
not_among : (g : ℕ) (groups : List LiveGroup) → NoneHas g groups → IsSome (find (has_number g) groups) → ⊥
not_among g groups none live = grind (arith, find_none g groups none)

among_behind : (g : ℕ) (x : LiveGroup) (xs : List LiveGroup) → x.number ≢ g →
    IsSome (find (has_number g) (x ∷ xs)) → IsSome (find (has_number g) xs)
among_behind g x xs n live = let f : has_number g x ≡ false = has-false g x n in rw f at live

-- the next copy of a group, where others of it wait
settle_own : (dropped : Bool) (copies : List Copy) (x : LiveGroup) (xs : List LiveGroup) → NoneHas x.number xs →
    all_go copies x ≡ false →
    settle_in x.number dropped (left_of copies x ∷ left copies xs) ≡ left (copies ++ one x.number dropped) (x ∷ xs)
settle_own dropped copies x xs none stays =
    elim (cases_eq (left_of copies x).copies 1) [
      | inl e ↦
          settle_last dropped (left_of copies x) (left copies xs) e (none_stay x.number copies xs none)
          ∙ sym (others_left x.number dropped copies xs none)
          ∙ sym (left_goes (copies ++ one x.number dropped) x xs (last_goes dropped copies x e))
      | inr n ↦
          settle_more dropped (left_of copies x) (left copies xs) n (none_stay x.number copies xs none)
          ∙ ap (λ (y : LiveGroup). y ∷ left copies xs) (sym (left_own dropped copies x))
          ∙ ap (λ (ys : List LiveGroup). left_of (copies ++ one x.number dropped) x ∷ ys)
          (sym (others_left x.number dropped copies xs none))
          ∙ sym (left_stays (copies ++ one x.number dropped) x xs (more_stay dropped copies x n stays))
    ]

settles_with : (g : ℕ) (dropped : Bool) (copies : List Copy) (groups : List LiveGroup) → Rises groups →
    IsSome (find (has_number g) (left copies groups)) →
    settle_in g dropped (left copies groups) ≡ left (copies ++ one g dropped) groups
settles_with g dropped copies [] rises live = absurd (false≢true live)
settles_with g dropped copies (x ∷ xs) rises live =
    elim (cases_eq x.number g) [
      | inl e ↦
          subst
          (λ h. IsSome (find (has_number h) (left copies (x ∷ xs))) →
          settle_in h dropped (left copies (x ∷ xs)) ≡ left (copies ++ one h dropped) (x ∷ xs)) e
          (λ here. own (all_go copies x) refl (none_behind x xs rises) here) live
      | inr n ↦ other (all_go copies x) refl n (λ here. settles_with g dropped copies xs (rises-tail x xs rises) here)
          live
    ]
  where
    own : (b : Bool) → all_go copies x ≡ b → NoneHas x.number xs →
        IsSome (find (has_number x.number) (left copies (x ∷ xs))) →
        settle_in x.number dropped (left copies (x ∷ xs)) ≡ left (copies ++ one x.number dropped) (x ∷ xs)
    own true is none here =
        absurd (not_among x.number (left copies xs) (none_stay x.number copies xs none)
        (subst (λ (ys : List LiveGroup). IsSome (find (has_number x.number) ys)) (left_goes copies x xs is) here))
    own false is none here =
        ap (settle_in x.number dropped) (left_stays copies x xs is) ∙ settle_own dropped copies x xs none is

    other : (b : Bool) → all_go copies x ≡ b → x.number ≢ g →
        (IsSome (find (has_number g) (left copies xs)) →
        settle_in g dropped (left copies xs) ≡ left (copies ++ one g dropped) xs) →
        IsSome (find (has_number g) (left copies (x ∷ xs))) →
        settle_in g dropped (left copies (x ∷ xs)) ≡ left (copies ++ one g dropped) (x ∷ xs)
    other true is n rest here =
        ap (settle_in g dropped) (left_goes copies x xs is)
        ∙ rest (subst (λ (ys : List LiveGroup). IsSome (find (has_number g) ys)) (left_goes copies x xs is) here)
        ∙ sym (left_next g dropped copies x xs _ true is n refl)
    other false is n rest here =
        ap (settle_in g dropped) (left_stays copies x xs is)
        ∙ settle_other g dropped (left_of copies x) (left copies xs) n
        ∙ ap (λ (ys : List LiveGroup). left_of copies x ∷ ys)
        (rest (among_behind g (left_of copies x) (left copies xs) n
        (subst (λ (ys : List LiveGroup). IsSome (find (has_number g) ys)) (left_stays copies x xs is) here)))
        ∙ sym (left_next g dropped copies x xs _ false is n refl)

pub settled_one : (state : TrackerState) (copies : List Copy) (g : ℕ) (dropped : Bool) → IsTracker state →
    IsLive (after_copies state copies) g →
    after_settle (after_copies state copies) g dropped ≡ after_copies state (copies ++ one g dropped)
settled_one state copies g dropped t live =
    ap (λ (groups : List LiveGroup). record state {
      live =
          groups;
    }) (settles_with g dropped copies state.live t.rises live)

-- The place that a search for the first number that isn't smaller finds.
pub place_found : (number : ℕ) (reports : List Report) (at : ℕ) → at ≤ length reports →
    IsPartitionPoint (λ (r : Report). ltb r.group number ≡ true) (λ (r : Report). ltb r.group number ≡ false) reports
    at →
    IsPlaceOf number reports at
place_found number reports at within parted = record {
  within = within;
  before = λ k d l. (let below = parted.0 k d (omega arith) l in grind (arith, nat_tests));
  behind = λ k d l m. (let above = parted.1 k d l m in grind (arith, nat_tests));
}

-- What is told stands by rising number.
pub all_above : (x : LiveGroup) (xs : List LiveGroup) → Rises (x ∷ xs) → All (λ group. x.number < group.number) xs
all_above x xs rises k d l = rises 0 (suc k) d (omega arith) (omega arith)

told_above : (g : ℕ) (copies : List Copy) (groups : List LiveGroup) → All (λ group. g < group.number) groups →
    All (λ (report : Report). g < report.group) (told copies groups)
told_above g copies groups above =
    All-map (λ (report : Report). g < report.group) (report_with copies) (filter (all_go copies) groups)
    (All-filter (all_go copies) (λ group. g < group.number) groups above)

cons_up : (r : Report) (rs : List Report) → All (λ (report : Report). r.group < report.group) rs → RiseTold rs →
    RiseTold (r ∷ rs)
cons_up r rs above up zero zero d l m = omega arith
cons_up r rs above up zero (suc j) d l m = let a = above j d (omega arith) in omega arith
cons_up r rs above up (suc i) zero d l m = absurd (omega arith)
cons_up r rs above up (suc i) (suc j) d l m = up i j d (omega arith) (omega arith)

told_rises : (copies : List Copy) (groups : List LiveGroup) → Rises groups → RiseTold (told copies groups)
told_rises copies [] rises = λ i j d l m. absurd (omega arith)
told_rises copies (x ∷ xs) rises = next (all_go copies x) refl (told_rises copies xs (rises-tail x xs rises))
  where
    next : (b : Bool) → all_go copies x ≡ b → RiseTold (told copies xs) → RiseTold (told copies (x ∷ xs))
    next true is up =
        subst RiseTold (sym (told_goes copies x xs is))
        (cons_up (report_with copies x) (told copies xs) (told_above x.number copies xs (all_above x xs rises)) up)
    next false is up = subst RiseTold (sym (told_stays copies x xs is)) up

-- a live group is one of the list, and so its number is above what all are above
above_all : (low g : ℕ) (groups : List LiveGroup) → All (λ group. low < group.number) groups →
    IsSome (find (has_number g) groups) → low < g
above_all low g [] above live = absurd (false≢true live)
above_all low g (x ∷ xs) above live =
    elim (cases_eq x.number g) [
      | inl e ↦ (let a = All-head (λ group. low < group.number) x xs above in omega arith)
      | inr n ↦
          above_all low g xs (All-tail (λ group. low < group.number) x xs above) (among_behind g x xs n live)
    ]

pub left_above : (low : ℕ) (copies : List Copy) (groups : List LiveGroup) → All (λ group. low < group.number) groups →
    All (λ group. low < group.number) (left copies groups)
left_above low copies groups above =
    All-map (λ group. low < group.number) (left_of copies) (filter (λ group. not (all_go copies group)) groups)
    (All-filter (λ group. not (all_go copies group)) (λ group. low < group.number) groups above)

-- what is told with the last copy
last_told : ℕ → Bool → Option LiveGroup → Report
last_told g dropped o = record {
  group = g;
  input = option_map_or (λ group. group.input) o 0;
  delivered = not (option_map_or (λ group. group.rejected) o false || dropped);
}

last_own : (dropped : Bool) (copies : List Copy) (x : LiveGroup) (xs : List LiveGroup) →
    report_with (copies ++ one x.number dropped) x
    ≡ last_told x.number dropped (find (has_number x.number) (left_of copies x ∷ xs))
unfolding last_told
last_own dropped copies x xs =
    let t : has_number x.number x ≡ true = has-true x.number x refl in
    rw t (λ i. record {
      group = x.number;
      input = x.input;
      delivered = not (marked_own dropped copies x i);
    })

pub find_behind : (g : ℕ) (x : LiveGroup) (xs : List LiveGroup) → x.number ≢ g →
    find (has_number g) (x ∷ xs) ≡ find (has_number g) xs
find_behind g x xs n = let f : has_number g x ≡ false = has-false g x n in rw f refl

found_own : (x : LiveGroup) (xs : List LiveGroup) → copies_in x.number (x ∷ xs) ≡ x.copies
found_own x xs = let t : has_number x.number x ≡ true = has-true x.number x refl in rw t refl

-- the place among reports with one more in front
place_first : (g : ℕ) (rs : List Report) (at : ℕ) → All (λ (report : Report). g < report.group) rs →
    IsPlaceOf g rs at → at ≡ 0
place_first g rs zero above p = refl
place_first g [] (suc k) above p = absurd (let w = p.within in omega arith)
place_first g (r ∷ rs) (suc k) above p =
    let a = All-head (λ (report : Report). g < report.group) r rs above in
    let b = p.before 0 r (omega arith) in
    absurd (omega arith)

place_none : (g : ℕ) (r : Report) (rs : List Report) → r.group < g → IsPlaceOf g (r ∷ rs) 0 → ⊥
place_none g r rs low p = let b = p.behind 0 r (omega arith) (omega arith) in omega arith

place_next : (g : ℕ) (r : Report) (rs : List Report) (k : ℕ) → IsPlaceOf g (r ∷ rs) (suc k) → IsPlaceOf g rs k
place_next g r rs k p = record {
  within = (let w = p.within in omega arith);
  before = λ i d l. p.before (suc i) d (omega arith);
  behind = λ i d l m. p.behind (suc i) d (omega arith) (omega arith);
}

module _ (g : ℕ) (dropped : Bool) (copies : List Copy) where
  -- a group that is none of the first, of which all that is told is g's or above
  pub behind_first : (x : LiveGroup) (xs : List LiveGroup) (b : Bool) → all_go copies x ≡ b → x.number ≢ g →
      find (has_number g) (left copies (x ∷ xs)) ≡ find (has_number g) (left copies xs)
  behind_first x xs true is n = ap (find (has_number g)) (left_goes copies x xs is)
  behind_first x xs false is n =
      ap (find (has_number g)) (left_stays copies x xs is) ∙ find_behind g (left_of copies x) (left copies xs) n

  -- the first group, of which a copy waits
  first_found : (x : LiveGroup) (xs : List LiveGroup) → all_go copies x ≡ false →
      find (has_number x.number) (left copies (x ∷ xs)) ≡ Some (left_of copies x)
  first_found x xs is =
      let t : has_number x.number (left_of copies x) ≡ true = has-true x.number (left_of copies x) refl in
      ap (find (has_number x.number)) (left_stays copies x xs is) ∙ rw t refl

  first_stays : (x : LiveGroup) (xs : List LiveGroup) → NoneHas x.number xs →
      IsSome (find (has_number x.number) (left copies (x ∷ xs))) → (b : Bool) → all_go copies x ≡ b →
      all_go copies x ≡ false
  first_stays x xs none live true is =
      absurd (not_among x.number (left copies xs) (none_stay x.number copies xs none)
      (subst (λ (ys : List LiveGroup). IsSome (find (has_number x.number) ys)) (left_goes copies x xs is) live))
  first_stays x xs none live false is = is

abbrev pub count_in : Option LiveGroup → ℕ
count_in o = option_map_or (λ group. group.copies) o 0

-- where other copies of the group wait, nothing is told
same_own : (dropped : Bool) (copies : List Copy) (x : LiveGroup) (xs : List LiveGroup) → NoneHas x.number xs →
    all_go copies x ≡ false → (left_of copies x).copies ≢ 1 →
    told (copies ++ one x.number dropped) (x ∷ xs) ≡ told copies (x ∷ xs)
same_own dropped copies x xs none stays n =
    told_stays (copies ++ one x.number dropped) x xs (more_stay dropped copies x n stays)
    ∙ others_told x.number dropped copies xs none
    ∙ sym (told_stays copies x xs stays)

told_same : (g : ℕ) (dropped : Bool) (copies : List Copy) (groups : List LiveGroup) → Rises groups →
    IsSome (find (has_number g) (left copies groups)) → count_in (find (has_number g) (left copies groups)) ≢ 1 →
    told (copies ++ one g dropped) groups ≡ told copies groups
told_same g dropped copies [] rises live more = refl
told_same g dropped copies (x ∷ xs) rises live more =
    elim (cases_eq x.number g) [
      | inl e ↦
          subst
          (λ h. IsSome (find (has_number h) (left copies (x ∷ xs))) →
          count_in (find (has_number h) (left copies (x ∷ xs))) ≢ 1 →
          told (copies ++ one h dropped) (x ∷ xs) ≡ told copies (x ∷ xs)) e
          (λ here many. own (none_behind x xs rises) here many) live more
      | inr n ↦
          (let f = behind_first g dropped copies x xs (all_go copies x) refl n in
          told_next g dropped copies x xs (told copies xs) (all_go copies x) refl n
          (told_same g dropped copies xs (rises-tail x xs rises)
          (subst (λ (o : Option LiveGroup). IsSome o) f live)
          (subst (λ (o : Option LiveGroup). count_in o ≢ 1) f more))
          ∙ sym (told_is g dropped copies x xs (all_go copies x) refl))
    ]
  where
    own : NoneHas x.number xs → IsSome (find (has_number x.number) (left copies (x ∷ xs))) →
        count_in (find (has_number x.number) (left copies (x ∷ xs))) ≢ 1 →
        told (copies ++ one x.number dropped) (x ∷ xs) ≡ told copies (x ∷ xs)
    own none here many =
        let stays = first_stays x.number dropped copies x xs none here (all_go copies x) refl in
        same_own dropped copies x xs none stays
        (subst (λ (o : Option LiveGroup). count_in o ≢ 1) (first_found x.number dropped copies x xs stays) many)

-- with the last one the group is told of, in its place
put_own : (dropped : Bool) (copies : List Copy) (x : LiveGroup) (xs : List LiveGroup) → Rises (x ∷ xs) →
    all_go copies x ≡ false → (left_of copies x).copies ≡ 1 → (at : ℕ) → IsPlaceOf x.number (told copies (x ∷ xs)) at →
    told (copies ++ one x.number dropped) (x ∷ xs) ≡ insert (told copies (x ∷ xs)) at
    (last_told x.number dropped (find (has_number x.number) (left copies (x ∷ xs))))
put_own dropped copies x xs rises stays last at p =
    let same = told_stays copies x xs stays in
    let first : at ≡ 0 =
    place_first x.number (told copies xs) at (told_above x.number copies xs (all_above x xs rises))
    (subst (λ (rs : List Report). IsPlaceOf x.number rs at) same p)
    in
    told_goes (copies ++ one x.number dropped) x xs (last_goes dropped copies x last)
    ∙ (λ i. last_own dropped copies x (left copies xs) i
    ∷ others_told x.number dropped copies xs (none_behind x xs rises) i)
    ∙ ap (λ (ys : List LiveGroup). last_told x.number dropped (find (has_number x.number) ys) ∷ told copies xs)
    (sym (left_stays copies x xs stays))
    ∙ ap (λ (rs : List Report). insert rs 0
    (last_told x.number dropped (find (has_number x.number) (left copies (x ∷ xs))))) (sym same)
    ∙ ap (λ k. insert (told copies (x ∷ xs)) k
    (last_told x.number dropped (find (has_number x.number) (left copies (x ∷ xs))))) (sym first)

-- behind a first group of another number
put_behind : (g : ℕ) (dropped : Bool) (copies : List Copy) (x : LiveGroup) (xs : List LiveGroup) (b : Bool) →
    all_go copies x ≡ b → x.number < g → (at : ℕ) (r : Report) → IsPlaceOf g (told copies (x ∷ xs)) at →
    ((k : ℕ) → IsPlaceOf g (told copies xs) k → told (copies ++ one g dropped) xs ≡ insert (told copies xs) k r) →
    told (copies ++ one g dropped) (x ∷ xs) ≡ insert (told copies (x ∷ xs)) at r
put_behind g dropped copies x xs true is low zero r p rest =
    absurd (place_none g (report_with copies x) (told copies xs) low
    (subst (λ (rs : List Report). IsPlaceOf g rs 0) (told_goes copies x xs is) p))
put_behind g dropped copies x xs true is low (suc k) r p rest =
    told_next g dropped copies x xs (insert (told copies xs) k r) true is (λ e. omega arith)
    (rest k (place_next g (report_with copies x) (told copies xs) k
    (subst (λ (rs : List Report). IsPlaceOf g rs (suc k)) (told_goes copies x xs is) p)))
    ∙ ap (λ (rs : List Report). insert rs (suc k) r) (sym (told_goes copies x xs is))
put_behind g dropped copies x xs false is low at r p rest =
    told_next g dropped copies x xs (insert (told copies xs) at r) false is (λ e. omega arith)
    (rest at (subst (λ (rs : List Report). IsPlaceOf g rs at) (told_stays copies x xs is) p))
    ∙ ap (λ (rs : List Report). insert rs at r) (sym (told_stays copies x xs is))

told_put : (g : ℕ) (dropped : Bool) (copies : List Copy) (groups : List LiveGroup) → Rises groups →
    IsSome (find (has_number g) (left copies groups)) → count_in (find (has_number g) (left copies groups)) ≡ 1 →
    (at : ℕ) → IsPlaceOf g (told copies groups) at →
    told (copies ++ one g dropped) groups ≡ insert (told copies groups) at
    (last_told g dropped (find (has_number g) (left copies groups)))
told_put g dropped copies [] rises live last at p = absurd (false≢true live)
told_put g dropped copies (x ∷ xs) rises live last at p =
    elim (cases_eq x.number g) [
      | inl e ↦
          subst
          (λ h. IsSome (find (has_number h) (left copies (x ∷ xs))) →
          count_in (find (has_number h) (left copies (x ∷ xs))) ≡ 1 → IsPlaceOf h (told copies (x ∷ xs)) at →
          told (copies ++ one h dropped) (x ∷ xs) ≡ insert (told copies (x ∷ xs)) at
          (last_told h dropped (find (has_number h) (left copies (x ∷ xs))))) e own live last p
      | inr n ↦
          (let f = behind_first g dropped copies x xs (all_go copies x) refl n in
          let here : IsSome (find (has_number g) (left copies xs)) =
          subst (λ (o : Option LiveGroup). IsSome o) f live in
          let low : x.number < g =
          above_all x.number g (left copies xs) (left_above x.number copies xs (all_above x xs rises)) here
          in
          put_behind g dropped copies x xs (all_go copies x) refl low at _ p
          (λ k q. told_put g dropped copies xs (rises-tail x xs rises) here
          (subst (λ (o : Option LiveGroup). count_in o ≡ 1) f last) k q
          ∙ ap (λ (o : Option LiveGroup). insert (told copies xs) k (last_told g dropped o)) (sym f)))
    ]
  where
    own : IsSome (find (has_number x.number) (left copies (x ∷ xs))) →
        count_in (find (has_number x.number) (left copies (x ∷ xs))) ≡ 1 →
        IsPlaceOf x.number (told copies (x ∷ xs)) at →
        told (copies ++ one x.number dropped) (x ∷ xs) ≡ insert (told copies (x ∷ xs)) at
        (last_told x.number dropped (find (has_number x.number) (left copies (x ∷ xs))))
    own here alone q =
        let stays = first_stays x.number dropped copies x xs (none_behind x xs rises) here (all_go copies x) refl in
        put_own dropped copies x xs rises stays
        (subst (λ (o : Option LiveGroup). count_in o ≡ 1) (first_found x.number dropped copies x xs stays) alone) at q

-- One copy more of a live group: what is told is put among what was told.
pub told_one : (state : TrackerState) (copies : List Copy) (g : ℕ) (dropped : Bool) (news : List Report) →
    IsTracker state → IsLive (after_copies state copies) g →
    PutsTold (settle_report (after_copies state copies) g dropped) (reports_with state copies) news →
    news ≡ reports_with state (copies ++ one g dropped)
unfolding last_told
told_one state copies g dropped news t live puts =
    elim (cases_eq (copies_of (after_copies state copies) g) 1) [
      | inl e ↦
          (let b : has_one (after_copies state copies) g ≡ true = grind (arith, nat_tests, e) in
          let here = (as_told true b puts) (told_rises copies state.live t.rises) in
          here.2 ∙ sym (told_put g dropped copies state.live t.rises live e here.0 here.1))
      | inr n ↦
          (let b : has_one (after_copies state copies) g ≡ false = grind (arith, nat_tests, n) in
          as_told false b puts ∙ sym (told_same g dropped copies state.live t.rises live n))
    ]
  where
    as_told : (b : Bool) → has_one (after_copies state copies) g ≡ b →
        PutsTold (settle_report (after_copies state copies) g dropped) (reports_with state copies) news →
        PutsTold (cond b (Some (last_told g dropped (live_group (after_copies state copies) g))) None)
        (reports_with state copies) news
    as_told b e p =
        subst
        (λ (c : Bool). PutsTold (cond c (Some (last_told g dropped (live_group (after_copies state copies) g))) None)
        (reports_with state copies) news) e p

-- what a call of settle and its report make of a tracker and of what was told, as a list of copies
pub settled_among : (first seen new : TrackerState) (copies : List Copy) (g : ℕ) (dropped : Bool)
    (olds news : List Report) → IsLive seen g → new ≡ after_settle seen g dropped →
    PutsTold (settle_report seen g dropped) olds news → IsTracker first → seen ≡ after_copies first copies →
    olds ≡ reports_with first copies →
    (new ≡ after_copies first (copies ++ one g dropped)) × (news ≡ reports_with first (copies ++ one g dropped))
settled_among first seen new copies g dropped olds news live is puts t seen_is olds_are =
    let here : IsLive (after_copies first copies) g = subst (λ (s : TrackerState). IsLive s g) seen_is live in
    let put : PutsTold (settle_report (after_copies first copies) g dropped) (reports_with first copies) news =
    subst (λ (s : TrackerState). PutsTold (settle_report s g dropped) (reports_with first copies) news) seen_is
    (subst (λ (rs : List Report). PutsTold (settle_report seen g dropped) rs news) olds_are puts)
    in (
      is ∙ ap (λ (s : TrackerState). after_settle s g dropped) seen_is ∙ settled_one first copies g dropped t here,
      told_one first copies g dropped news t here put,
    )

pub one_goes : OneGoes
one_goes state copies g dropped t live = settled_one state copies g dropped t live

pub none_goes : NoneGoes
none_goes state t = (after_none state t, reports_none state t)
