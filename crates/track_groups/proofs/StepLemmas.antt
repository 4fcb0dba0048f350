-- What each call leaves of the live groups, by their numbers.
use Rattle.std.proofs.Common.{◌≡◌, ℕ, ◌+◌, ◌-◌, ◌^◌, ◌<◌, ◌≤◌, ◌≢◌, Bool, true, false, cond, not, eqb}
use Rattle.std.proofs.Common.{◌||◌, List, [], ◌∷◌, ◌++◌, set, Option, Some, None, IsSome, refl, sym}
use Rattle.std.proofs.Common.{◌∙◌, ap, subst, inl, inr, arith}
use mathlib.Core.Bool.{false≢true}
use Rattle.std.specs.Prelude.{find, remove, option_map}
use Rattle.std.specs.Option.{option_map_or}
use Rattle.std.proofs.lemmas.Bool.{cases_eq}
use Rattle.std.proofs.lemmas.Bool.Decides.{nat_tests}
use Rattle.account.specs.declared.entry.Report.{Report}
use Rattle.track_groups.specs.declared.group.LiveGroup.{LiveGroup}
use Rattle.track_groups.specs.Tracker.{TrackerState, has_number, live_group, IsLive, copies_of, has_one, changed}
use Rattle.track_groups.specs.Tracker.{without, new_group, after_start, held, settled, after_hold}
use Rattle.track_groups.specs.Tracker.{after_settle, settle_report, IsTracker, Keeps}
use Rattle.track_groups.proofs.PlaceLemmas.{has-true, has-false, find_none, find_at, changed_at, without_at}
use Rattle.track_groups.proofs.StateLemmas.{StandsAt, at_any, keeps_set}

-- The number of the next group is no live one's.
pub fresh_number : (state seen : TrackerState) (g : ℕ) → state ≡ seen → IsTracker state → g ≡ state.started →
    IsLive seen g → ⊥
fresh_number state seen g same t next live =
    let none : live_group state g ≡ None =
    find_none g state.live (λ k d l e. (let b = t.begun k d l in omega arith))
    in
    let here : IsLive state g = subst (λ (s : TrackerState). IsLive s g) (sym same) live in
    grind (arith, none)

-- what is looked up with one group more
find_push : (h : ℕ) (x : LiveGroup) (groups : List LiveGroup) → find (has_number h) groups ≡ None →
    x.number ≡ h → find (has_number h) (groups ++ x ∷ []) ≡ Some x
find_push h x [] none e = let t : has_number h x ≡ true = has-true h x e in rw t refl
find_push h x (y ∷ ys) none e =
    elim (cases_eq y.number h) [
      | inl same ↦
          (let t : has_number h y ≡ true = has-true h y same in
          let some : None ≡ Some y = sym none ∙ rw t refl in
          cc)
      | inr other ↦
          (let f : has_number h y ≡ false = has-false h y other in
          let rest : find (has_number h) ys ≡ None = rw f refl ∙ none in
          rw f (find_push h x ys rest e))
    ]

find_push_other : (h : ℕ) (x : LiveGroup) (groups : List LiveGroup) → x.number ≢ h →
    find (has_number h) (groups ++ x ∷ []) ≡ find (has_number h) groups
find_push_other h x [] n = let f : has_number h x ≡ false = has-false h x n in rw f refl
find_push_other h x (y ∷ ys) n = ap (cond (has_number h y) (Some y)) (find_push_other h x ys n)

pub start_group : (state : TrackerState) (g input copies : ℕ) → IsTracker state → g ≡ state.started →
    find (has_number g) (state.live ++ new_group state.started input copies ∷ []) ≡ Some (new_group g input copies)
start_group state g input copies t next =
    find_push g (new_group state.started input copies) state.live
    (find_none g state.live (λ k d l e. (let b = t.begun k d l in omega arith))) (sym next)
    ∙ ap (λ n. Some (new_group n input copies)) (sym next)

pub start_others : (state seen : TrackerState) (g h input copies : ℕ) → state ≡ seen → g ≡ state.started →
    h ≢ g →
    find (has_number h) (state.live ++ new_group state.started input copies ∷ []) ≡ live_group seen h
start_others state seen g h input copies same next n =
    find_push_other h (new_group state.started input copies) state.live (λ e. n (sym e ∙ sym next))
    ∙ ap (λ (s : TrackerState). live_group s h) same

pub after_start_others : (state : TrackerState) (h input copies : ℕ) → h ≢ state.started →
    live_group (after_start state input copies) h ≡ live_group state h
after_start_others state h input copies n =
    elim (cases_eq copies 0) [
      | inl none ↦ (let t : eqb copies 0 ≡ true = grind (arith, nat_tests) in rw t refl)
      | inr some ↦
          (let f : eqb copies 0 ≡ false = grind (arith, nat_tests, some) in
          rw f (start_others state state state.started h input copies refl refl n))
    ]

-- the state that a call sees, and the group that it found: at a place, with a number
pub record Found (state seen : TrackerState) (g at : ℕ) (x : LiveGroup) : Type 0 where
  pub same : state ≡ seen
  pub tracks : IsTracker state
  pub stands : StandsAt state.live at x
  pub number : x.number ≡ g

-- the group at a place is the live one of its number
live_is : (state : TrackerState) (at : ℕ) (x : LiveGroup) → IsTracker state → StandsAt state.live at x →
    live_group state x.number ≡ Some x
live_is state at x t s =
    subst (λ (y : LiveGroup). find (has_number y.number) state.live ≡ Some y) (at_any state.live at x x s)
    (find_at state.live at x t.rises s.within)

copies_is : (state : TrackerState) (at : ℕ) (x : LiveGroup) → IsTracker state → StandsAt state.live at x →
    copies_of state x.number ≡ x.copies
copies_is state at x t s =
    ap (λ (o : Option LiveGroup). option_map_or (λ group. group.copies) o 0) (live_is state at x t s)

pub found_copies : (state seen : TrackerState) (g at : ℕ) (x : LiveGroup) → Found state seen g at x →
    copies_of seen g ≡ x.copies
found_copies state seen g at x f =
    ap (λ (s : TrackerState). copies_of s g) (sym f.same)
    ∙ ap (λ h. copies_of state h) (sym f.number)
    ∙ copies_is state at x f.tracks f.stands

-- what is looked up after a change that keeps the numbers
module _ (g : ℕ) (change : LiveGroup → LiveGroup) (keeps : (x : LiveGroup) → (change x).number ≡ x.number) where
  has_changed : (h : ℕ) (x : LiveGroup) → has_number h (change x) ≡ has_number h x
  has_changed h x = ap (λ n. eqb n h) (keeps x)

  find_changed : (groups : List LiveGroup) →
      find (has_number g) (changed g change groups) ≡ option_map change (find (has_number g) groups)
  find_changed [] = refl
  find_changed (x ∷ xs) =
      elim (cases_eq x.number g) [
        | inl e ↦
            (let t : has_number g x ≡ true = has-true g x e in
            let u : has_number g (change x) ≡ true = has_changed g x ∙ t in
            rw (t, u) refl)
        | inr n ↦ (let f : has_number g x ≡ false = has-false g x n in rw (f, f) (find_changed xs))
      ]

  find_changed_other : (h : ℕ) (groups : List LiveGroup) → h ≢ g →
      find (has_number h) (changed g change groups) ≡ find (has_number h) groups
  find_changed_other h [] n = refl
  find_changed_other h (x ∷ xs) n =
      elim (cases_eq x.number g) [
        | inl e ↦
            (let t : has_number g x ≡ true = has-true g x e in
            let f : has_number h x ≡ false = has-false h x (λ i. n (sym i ∙ e)) in
            let u : has_number h (change x) ≡ false = has_changed h x ∙ f in
            rw (t, u, f) (find_changed_other h xs n))
        | inr m ↦
            (let f : has_number g x ≡ false = has-false g x m in
            rw f (ap (cond (has_number h x) (Some x)) (find_changed_other h xs n)))
      ]

-- what is looked up without a group
find_without : (g : ℕ) (groups : List LiveGroup) → find (has_number g) (without g groups) ≡ None
find_without g [] = refl
find_without g (x ∷ xs) =
    elim (cases_eq x.number g) [
      | inl e ↦ (let t : has_number g x ≡ true = has-true g x e in rw t (find_without g xs))
      | inr n ↦ (let f : has_number g x ≡ false = has-false g x n in rw (f, f) (find_without g xs))
    ]

find_without_other : (g h : ℕ) (groups : List LiveGroup) → h ≢ g →
    find (has_number h) (without g groups) ≡ find (has_number h) groups
find_without_other g h [] n = refl
find_without_other g h (x ∷ xs) n =
    elim (cases_eq x.number g) [
      | inl e ↦
          (let t : has_number g x ≡ true = has-true g x e in
          let f : has_number h x ≡ false = has-false h x (λ i. n (sym i ∙ e)) in
          rw (t, f) (find_without_other g h xs n))
      | inr m ↦
          (let f : has_number g x ≡ false = has-false g x m in
          rw f (ap (cond (has_number h x) (Some x)) (find_without_other g h xs n)))
    ]

-- Let more copies wait.
held_is : (state : TrackerState) (at more : ℕ) (x : LiveGroup) → IsTracker state → StandsAt state.live at x →
    record state { live = set state.live at (held more x) } ≡ after_hold state x.number more
held_is state at more x t s =
    ap (λ (groups : List LiveGroup). record state { live = groups })
    (sym (subst (λ (y : LiveGroup). changed y.number (held more) state.live ≡ set state.live at (held more y))
    (at_any state.live at x x s) (changed_at (held more) state.live at x t.rises s.within)))

pub hold_keeps : (state seen : TrackerState) (counts : List ℕ) (places g at more : ℕ) (x : LiveGroup) →
    Found state seen g at x → Keeps state counts places → copies_of seen g + more < 2 ^ 40 →
    Keeps (record state { live = set state.live at (held more x) }) counts places
hold_keeps state seen counts places g at more x f k few =
    let some : 1 ≤ x.copies =
    subst (λ (y : LiveGroup). 1 ≤ y.copies) (at_any state.live at x x f.stands)
    (f.tracks.some at x f.stands.within)
    in
    let known : copies_of seen g ≡ x.copies = found_copies state seen g at x f in
    keeps_set state counts places at x (held more x) k f.stands refl refl (omega arith) (omega arith)

pub hold_is : (state seen : TrackerState) (g at more : ℕ) (x : LiveGroup) → Found state seen g at x →
    record state { live = set state.live at (held more x) } ≡ after_hold seen g more
hold_is state seen g at more x f =
    held_is state at more x f.tracks f.stands
    ∙ ap (λ h. after_hold state h more) f.number
    ∙ ap (λ (s : TrackerState). after_hold s g more) f.same

copies_more : (more : ℕ) (o : Option LiveGroup) → IsSome o →
    option_map_or (λ group. group.copies) (option_map (held more) o) 0 ≡ option_map_or (λ group. group.copies) o
    0 + more
copies_more more (Some x) i = refl
copies_more more None i = absurd (false≢true i)

pub hold_copies : (state : TrackerState) (g more : ℕ) → IsLive state g →
    copies_of (after_hold state g more) g ≡ copies_of state g + more
hold_copies state g more live =
    ap (λ (o : Option LiveGroup). option_map_or (λ group. group.copies) o 0)
    (find_changed g (held more) (λ x. refl) state.live)
    ∙ copies_more more (live_group state g) live

pub hold_group : (state : TrackerState) (g more : ℕ) →
    live_group (after_hold state g more) g ≡ option_map (held more) (live_group state g)
hold_group state g more = find_changed g (held more) (λ x. refl) state.live

pub hold_others : (state : TrackerState) (g more h : ℕ) → h ≢ g →
    live_group (after_hold state g more) h ≡ live_group state h
hold_others state g more h n = find_changed_other g (held more) (λ x. refl) h state.live n

-- Let a copy go.
one_left : (state : TrackerState) (g : ℕ) → copies_of state g ≡ 1 → has_one state g ≡ true
one_left state g e = grind (arith, nat_tests, e)

more_left : (state : TrackerState) (g : ℕ) → copies_of state g ≢ 1 → has_one state g ≡ false
more_left state g n = grind (arith, nat_tests, n)

after_last : (state : TrackerState) (g : ℕ) (rejected : Bool) → copies_of state g ≡ 1 →
    after_settle state g rejected ≡ record state { live = without g state.live }
after_last state g rejected e =
    ap (λ (b : Bool). record state { live = cond b (without g state.live) (changed g (settled rejected) state.live) })
    (one_left state g e)

after_other : (state : TrackerState) (g : ℕ) (rejected : Bool) → copies_of state g ≢ 1 →
    after_settle state g rejected ≡ record state { live = changed g (settled rejected) state.live }
after_other state g rejected n =
    ap (λ (b : Bool). record state { live = cond b (without g state.live) (changed g (settled rejected) state.live) })
    (more_left state g n)

settled_is : (state : TrackerState) (at : ℕ) (x : LiveGroup) (rejected : Bool) → IsTracker state →
    StandsAt state.live at x → 1 < x.copies →
    record state { live = set state.live at (settled rejected x) } ≡ after_settle state x.number rejected
settled_is state at x rejected t s more =
    let c = copies_is state at x t s in
    ap (λ (groups : List LiveGroup). record state { live = groups })
    (sym (subst (λ (y : LiveGroup).
    changed y.number (settled rejected) state.live ≡ set state.live at (settled rejected y))
    (at_any state.live at x x s) (changed_at (settled rejected) state.live at x t.rises s.within)))
    ∙ sym (after_other state x.number rejected (λ e. omega arith))

gone_is : (state : TrackerState) (at : ℕ) (x : LiveGroup) (rejected : Bool) → IsTracker state →
    StandsAt state.live at x → x.copies ≡ 1 →
    record state { live = remove state.live at } ≡ after_settle state x.number rejected
gone_is state at x rejected t s one =
    ap (λ (groups : List LiveGroup). record state { live = groups })
    (sym (subst (λ (y : LiveGroup). without y.number state.live ≡ remove state.live at) (at_any state.live at x x s)
    (without_at state.live at x t.rises s.within)))
    ∙ sym (after_last state x.number rejected (copies_is state at x t s ∙ one))

report_none : (state : TrackerState) (at : ℕ) (x : LiveGroup) (rejected : Bool) → IsTracker state →
    StandsAt state.live at x → 1 < x.copies → None ≡ settle_report state x.number rejected
report_none state at x rejected t s more =
    let c = copies_is state at x t s in
    let f : has_one state x.number ≡ false = more_left state x.number (λ e. omega arith) in
    rw f refl

report_of : ℕ → Option LiveGroup → Bool → Report
report_of g o rejected =
    record {
      group = g;
      input = option_map_or (λ group. group.input) o 0;
      delivered = not (option_map_or (λ group. group.rejected) o false || rejected);
    }

report_last : (state : TrackerState) (at : ℕ) (x : LiveGroup) (rejected : Bool) → IsTracker state →
    StandsAt state.live at x → x.copies ≡ 1 →
    Some (record { group = x.number; input = x.input; delivered = not (x.rejected || rejected) }) ≡ settle_report state
    x.number rejected
unfolding report_of
report_last state at x rejected t s one =
    let y : has_one state x.number ≡ true = one_left state x.number (copies_is state at x t s ∙ one) in
    ap (λ (o : Option LiveGroup). Some (report_of x.number o rejected)) (sym (live_is state at x t s))
    ∙ ap (λ (b : Bool). cond b (Some (report_of x.number (live_group state x.number) rejected)) None) (sym y)

copies_less : (rejected : Bool) (o : Option LiveGroup) →
    option_map_or (λ group. group.copies) (option_map (settled rejected) o) 0 ≡ option_map_or (λ group. group.copies) o
    0 - 1
copies_less rejected (Some x) = refl
copies_less rejected None = refl

pub settle_group : (state : TrackerState) (g : ℕ) (rejected : Bool) → copies_of state g ≢ 1 →
    live_group (after_settle state g rejected) g ≡ option_map (settled rejected) (live_group state g)
settle_group state g rejected other =
    ap (λ (now : TrackerState). live_group now g) (after_other state g rejected other)
    ∙ find_changed g (settled rejected) (λ x. refl) state.live

pub settle_gone : (state : TrackerState) (g : ℕ) (rejected : Bool) → copies_of state g ≡ 1 →
    IsLive (after_settle state g rejected) g → ⊥
settle_gone state g rejected one live =
    let none : live_group (after_settle state g rejected) g ≡ None =
    ap (λ (now : TrackerState). live_group now g) (after_last state g rejected one) ∙ find_without g state.live
    in
    grind (arith, none)

pub settle_copies : (state : TrackerState) (g : ℕ) (rejected : Bool) → 1 ≤ copies_of state g →
    copies_of (after_settle state g rejected) g + 1 ≡ copies_of state g
settle_copies state g rejected some =
    elim (cases_eq (copies_of state g) 1) [
      | inl one ↦
          (let zero : copies_of (after_settle state g rejected) g ≡ 0 =
          ap (λ (now : TrackerState). copies_of now g) (after_last state g rejected one)
          ∙ ap (λ (o : Option LiveGroup). option_map_or (λ group. group.copies) o 0) (find_without g state.live)
          in
          omega arith)
      | inr other ↦
          (let less : copies_of (after_settle state g rejected) g ≡ copies_of state g - 1 =
          ap (λ (now : TrackerState). copies_of now g) (after_other state g rejected other)
          ∙ ap (λ (o : Option LiveGroup). option_map_or (λ group. group.copies) o 0)
          (find_changed g (settled rejected) (λ x. refl) state.live)
          ∙ copies_less rejected (live_group state g)
          in
          omega arith)
    ]

pub settle_others : (state : TrackerState) (g h : ℕ) (rejected : Bool) → h ≢ g →
    live_group (after_settle state g rejected) h ≡ live_group state h
settle_others state g h rejected n =
    elim (cases_eq (copies_of state g) 1) [
      | inl one ↦
          ap (λ (now : TrackerState). live_group now h) (after_last state g rejected one)
          ∙ find_without_other g h state.live n
      | inr other ↦
          ap (λ (now : TrackerState). live_group now h) (after_other state g rejected other)
          ∙ find_changed_other g (settled rejected) (λ x. refl) h state.live n
    ]

pub some_copies : (state seen : TrackerState) (g at : ℕ) (x : LiveGroup) → Found state seen g at x → 1 ≤ x.copies
some_copies state seen g at x f =
    subst (λ (y : LiveGroup). 1 ≤ y.copies) (at_any state.live at x x f.stands) (f.tracks.some at x f.stands.within)

pub settle_keeps : (state seen : TrackerState) (counts : List ℕ) (places g at : ℕ) (x : LiveGroup) (rejected : Bool) →
    Found state seen g at x → Keeps state counts places → 1 < x.copies →
    Keeps (record state { live = set state.live at (settled rejected x) }) counts places
settle_keeps state seen counts places g at x rejected f k more =
    let few : x.copies < 2 ^ 40 =
    subst (λ (y : LiveGroup). y.copies < 2 ^ 40) (at_any state.live at x x f.stands)
    (f.tracks.few at x f.stands.within)
    in
    keeps_set state counts places at x (settled rejected x) k f.stands refl refl (omega arith) (omega arith)

pub settle_is : (state seen : TrackerState) (g at : ℕ) (x : LiveGroup) (rejected : Bool) → Found state seen g at x →
    1 < x.copies → record state { live = set state.live at (settled rejected x) } ≡ after_settle seen g rejected
settle_is state seen g at x rejected f more =
    settled_is state at x rejected f.tracks f.stands more
    ∙ ap (λ h. after_settle state h rejected) f.number
    ∙ ap (λ (s : TrackerState). after_settle s g rejected) f.same

pub settle_none : (state seen : TrackerState) (g at : ℕ) (x : LiveGroup) (rejected : Bool) → Found state seen g at x →
    1 < x.copies → None ≡ settle_report seen g rejected
settle_none state seen g at x rejected f more =
    report_none state at x rejected f.tracks f.stands more
    ∙ ap (λ h. settle_report state h rejected) f.number
    ∙ ap (λ (s : TrackerState). settle_report s g rejected) f.same

pub last_is : (state seen : TrackerState) (g at : ℕ) (x : LiveGroup) (rejected : Bool) → Found state seen g at x →
    x.copies ≡ 1 → record state { live = remove state.live at } ≡ after_settle seen g rejected
last_is state seen g at x rejected f one =
    gone_is state at x rejected f.tracks f.stands one
    ∙ ap (λ h. after_settle state h rejected) f.number
    ∙ ap (λ (s : TrackerState). after_settle s g rejected) f.same

pub last_report : (state seen : TrackerState) (g at : ℕ) (x : LiveGroup) (rejected : Bool) → Found state seen g at x →
    x.copies ≡ 1 →
    Some (record { group = x.number; input = x.input; delivered = not (x.rejected || rejected) }) ≡ settle_report seen g
    rejected
last_report state seen g at x rejected f one =
    report_last state at x rejected f.tracks f.stands one
    ∙ ap (λ h. settle_report state h rejected) f.number
    ∙ ap (λ (s : TrackerState). settle_report s g rejected) f.same
