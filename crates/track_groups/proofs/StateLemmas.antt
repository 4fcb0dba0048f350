-- What holds of every tracker, and what it keeps: after a change of one group, without one, and with one more.
use Rattle.std.proofs.Common.{◌≡◌, ℕ, ◌+◌, ◌^◌, ◌<◌, ◌≤◌, ◌≢◌, cond, List, [], ◌∷◌, ◌++◌, length}
use Rattle.std.proofs.Common.{get_or, set, sum, suc, refl, sym, ◌∙◌, ap, subst, inl, inr, arith}
use Rattle.std.specs.Prelude.{All, remove, count_by}
use Rattle.std.proofs.lemmas.Bool.{cases_eq}
use Rattle.std.proofs.lemmas.Bool.Decides.{nat_tests}
use Rattle.std.proofs.lemmas.List.{length-set, length_push, get_or-set_same, get_or-set_other, get_or_default}
use Rattle.std.proofs.lemmas.List.Edits.{length-remove}
use Rattle.std.proofs.lemmas.List.Elements.{All-set, All-push, All-append, All-take, All-drop}
use Rattle.std.proofs.lemmas.List.Quantifiers.{all_pairs_push, all_pairs_remove}
use Rattle.std.proofs.lemmas.List.Sums.{sum_by-cons, sum_by-set, sum_by-remove, sum_by_push}
use Rattle.track_groups.specs.declared.group.LiveGroup.{LiveGroup}
use Rattle.track_groups.specs.Tracker.{TrackerState, is_of, live_of, new_group, Rises, IsTracker, Keeps}

-- a group stands at a place
pub record StandsAt (groups : List LiveGroup) (at : ℕ) (x : LiveGroup) : Type 0 where
  pub within : at < length groups
  pub is : x ≡ get_or groups at x

pub at_any : (groups : List LiveGroup) (at : ℕ) (x d : LiveGroup) → StandsAt groups at x → get_or groups at d ≡ x
at_any groups at x d s = get_or_default groups at d x s.within ∙ sym s.is

-- how often a group counts for an input: once for its own
abbrev times_of : ℕ → LiveGroup → ℕ
times_of input x = cond (is_of input x) 1 0

times-own : (input : ℕ) (x : LiveGroup) → x.input ≡ input → times_of input x ≡ 1
times-own input x e = grind (arith, nat_tests)

times-other : (input : ℕ) (x : LiveGroup) → x.input ≢ input → times_of input x ≡ 0
times-other input x n = grind (arith, nat_tests, n)

-- a change of a group that keeps its number and its input
number_set : (groups : List LiveGroup) (at : ℕ) (x v : LiveGroup) → StandsAt groups at x → v.number ≡ x.number →
    (k : ℕ) (d : LiveGroup) → (get_or (set groups at v) k d).number ≡ (get_or groups k d).number
number_set groups at x v s e k d =
    elim (cases_eq k at) [
      | inl same ↦
          ap (λ i. (get_or (set groups at v) i d).number) same
          ∙ ap (λ (y : LiveGroup). y.number) (get_or-set_same groups at v d s.within)
          ∙ e
          ∙ ap (λ (y : LiveGroup). y.number) (sym (at_any groups at x d s))
          ∙ ap (λ i. (get_or groups i d).number) (sym same)
      | inr other ↦ ap (λ (y : LiveGroup). y.number) (get_or-set_other groups at k v d other)
    ]

rises_set : (groups : List LiveGroup) (at : ℕ) (x v : LiveGroup) → StandsAt groups at x → v.number ≡ x.number →
    Rises groups → Rises (set groups at v)
rises_set groups at x v s e rises i j d l m =
    let a = number_set groups at x v s e i d in
    let b = number_set groups at x v s e j d in
    let up = rises i j d l (omega (arith, length-set groups at v)) in
    omega arith

count_set : (groups : List LiveGroup) (at : ℕ) (x v : LiveGroup) → StandsAt groups at x → v.input ≡ x.input →
    (input : ℕ) → count_by (is_of input) (set groups at v) ≡ count_by (is_of input) groups
count_set groups at x v s e input =
    let both = sum_by-set (times_of input) groups at v x s.within in
    let here : times_of input (get_or groups at x) ≡ times_of input x =
    ap (times_of input) (at_any groups at x x s)
    in
    let same : times_of input v ≡ times_of input x = rw e refl in
    omega arith

pub keeps_set : (state : TrackerState) (counts : List ℕ) (places at : ℕ) (x v : LiveGroup) →
    Keeps state counts places → StandsAt state.live at x → v.number ≡ x.number → v.input ≡ x.input →
    1 ≤ v.copies → v.copies < 2 ^ 40 → Keeps (record state { live = set state.live at v }) counts places
keeps_set state counts places at x v k s number input some few =
    let is : get_or state.live at x ≡ x = at_any state.live at x x s in
    let low : x.number < state.started =
    subst (λ (y : LiveGroup). y.number < state.started) is (k.stands.begun at x s.within) in
    let known : x.input < length state.limits =
    subst (λ (y : LiveGroup). y.input < length state.limits) is (k.stands.inputs at x s.within) in
    record {
      stands = record {
        rises = rises_set state.live at x v s number k.stands.rises;
        begun = All-set (λ group. group.number < state.started) state.live at v (omega arith) k.stands.begun;
        inputs = All-set (λ group. group.input < length state.limits) state.live at v (omega arith) k.stands.inputs;
        some = All-set (λ group. 1 ≤ group.copies) state.live at v some k.stands.some;
        few = All-set (λ group. group.copies < 2 ^ 40) state.live at v few k.stands.few;
        limited = λ i. (let e = count_set state.live at x v s input i in omega (arith, k.stands.limited i));
      };
      long = k.long;
      counted = λ i. k.counted i ∙ sym (count_set state.live at x v s input i);
      all = k.all ∙ sym (length-set state.live at v);
      room = k.room;
    }

-- without one group
All-remove : (P : LiveGroup → Type 0) (groups : List LiveGroup) (at : ℕ) → All P groups → All P (remove groups at)
All-remove P groups at a = All-append P _ _ (All-take P at groups a) (All-drop P (suc at) groups a)

count_remove : (groups : List LiveGroup) (at : ℕ) (x : LiveGroup) → StandsAt groups at x → (input : ℕ) →
    count_by (is_of input) (remove groups at) + times_of input x ≡ count_by (is_of input) groups
count_remove groups at x s input =
    let both = sum_by-remove (times_of input) groups at x s.within in
    let here : times_of input (get_or groups at x) ≡ times_of input x =
    ap (times_of input) (at_any groups at x x s)
    in
    omega arith

-- The input of a live group is a known one, and has a group that is live.
pub known_input : (state : TrackerState) (at : ℕ) (x : LiveGroup) → IsTracker state → StandsAt state.live at x →
    x.input < length state.limits
known_input state at x t s =
    subst (λ (y : LiveGroup). y.input < length state.limits) (at_any state.live at x x s) (t.inputs at x s.within)

pub some_live : (state : TrackerState) (at : ℕ) (x : LiveGroup) → StandsAt state.live at x →
    1 ≤ live_of state x.input
some_live state at x s =
    let e = count_remove state.live at x s x.input in
    let one = times-own x.input x refl in
    omega arith

pub keeps_remove : (state : TrackerState) (counts : List ℕ) (places at less : ℕ) (x : LiveGroup) →
    Keeps state counts places → StandsAt state.live at x → less + 1 ≡ get_or counts x.input 0 →
    Keeps (record state { live = remove state.live at }) (set counts x.input less) places
keeps_remove state counts places at less x k s e =
    let known : x.input < length counts =
    (let l = known_input state at x k.stands s in let m = k.long in omega arith) in
    record {
      stands = record {
        rises = all_pairs_remove (λ a b. a.number < b.number) state.live at s.within k.stands.rises;
        begun = All-remove (λ group. group.number < state.started) state.live at k.stands.begun;
        inputs = All-remove (λ group. group.input < length state.limits) state.live at k.stands.inputs;
        some = All-remove (λ group. 1 ≤ group.copies) state.live at k.stands.some;
        few = All-remove (λ group. group.copies < 2 ^ 40) state.live at k.stands.few;
        limited = λ i. (let e = count_remove state.live at x s i in omega (arith, k.stands.limited i));
      };
      long = length-set counts x.input less ∙ k.long;
      counted = λ i.
          elim (cases_eq i x.input) [
            | inl same ↦
                (let here : get_or (set counts x.input less) i 0 ≡ less =
                ap (λ j. get_or (set counts x.input less) j 0) same
                ∙ get_or-set_same counts x.input less 0 known
                in
                let was : get_or counts i 0 ≡ get_or counts x.input 0 = ap (λ j. get_or counts j 0) same in
                let both = count_remove state.live at x s i in
                let one = times-own i x (sym same) in
                omega (arith, k.counted i))
            | inr other ↦
                (let there = get_or-set_other counts x.input i less 0 other in
                let both = count_remove state.live at x s i in
                let none = times-other i x (λ e. other (sym e)) in
                omega (arith, k.counted i))
          ];
      all =
          (let both = sum_by-set (λ n. n) counts x.input less 0 known in
          let shorter = length-remove state.live at s.within in
          let were = k.all in
          omega arith);
      room = k.room;
    }

-- with one group more
count_push : (groups : List LiveGroup) (x : LiveGroup) (input : ℕ) →
    count_by (is_of input) (groups ++ x ∷ []) ≡ count_by (is_of input) groups + times_of input x
count_push groups x input = sum_by_push (times_of input) groups x

pub keeps_push : (state : TrackerState) (counts : List ℕ) (places input copies more : ℕ) → Keeps state counts places →
    input < length state.limits → live_of state input < get_or state.limits input 0 →
    more ≡ get_or counts input 0 + 1 → 1 ≤ copies → copies < 2 ^ 40 →
    Keeps (record state {
      started = state.started + 1;
      live = state.live ++ new_group state.started input copies ∷ [];
    }) (set counts input more) places
keeps_push state counts places input copies more k known below e some few =
    let x : LiveGroup = new_group state.started input copies in
    let here : input < length counts = (let m = k.long in omega arith) in
    record {
      stands = record {
        rises = all_pairs_push (λ a b. a.number < b.number) state.live x k.stands.rises k.stands.begun;
        begun =
            All-push (λ group. group.number < state.started + 1) state.live x
            (λ i d l. (let b = k.stands.begun i d l in omega arith)) (omega arith);
        inputs = All-push (λ group. group.input < length state.limits) state.live x k.stands.inputs known;
        some = All-push (λ group. 1 ≤ group.copies) state.live x k.stands.some some;
        few = All-push (λ group. group.copies < 2 ^ 40) state.live x k.stands.few few;
        limited = λ i.
            elim (cases_eq i input) [
              | inl same ↦
                  (let both = count_push state.live x i in
                  let one = times-own i x (sym same) in
                  let was : live_of state i ≡ live_of state input = ap (λ j. live_of state j) same in
                  let limit : get_or state.limits i 0 ≡ get_or state.limits input 0 =
                  ap (λ j. get_or state.limits j 0) same
                  in
                  omega arith)
              | inr other ↦
                  (let both = count_push state.live x i in
                  let none = times-other i x (λ e. other (sym e)) in
                  omega (arith, k.stands.limited i))
            ];
      };
      long = length-set counts input more ∙ k.long;
      counted = λ i.
          elim (cases_eq i input) [
            | inl same ↦
                (let there : get_or (set counts input more) i 0 ≡ more =
                ap (λ j. get_or (set counts input more) j 0) same
                ∙ get_or-set_same counts input more 0 here
                in
                let was : get_or counts i 0 ≡ get_or counts input 0 = ap (λ j. get_or counts j 0) same in
                let both = count_push state.live x i in
                let one = times-own i x (sym same) in
                omega (arith, k.counted i))
            | inr other ↦
                (let there = get_or-set_other counts input i more 0 other in
                let both = count_push state.live x i in
                let none = times-other i x (λ e. other (sym e)) in
                omega (arith, k.counted i))
          ];
      all =
          (let both = sum_by-set (λ n. n) counts input more 0 here in
          let longer = length_push state.live x in
          let were = k.all in
          omega arith);
      room = k.room;
    }

-- Where an input has a group less than its limit says, there is room for one more.
sum_up : (xs ys : List ℕ) → length xs ≡ length ys → ((i : ℕ) → get_or xs i 0 ≤ get_or ys i 0) → sum xs ≤ sum ys
sum_up [] [] l h = omega arith
sum_up [] (y ∷ ys) l h = absurd (omega arith)
sum_up (x ∷ xs) [] l h = absurd (omega arith)
sum_up (x ∷ xs) (y ∷ ys) l h =
    let a = sum_by-cons (λ n. n) x xs in
    let b = sum_by-cons (λ n. n) y ys in
    let first = h 0 in
    let rest = sum_up xs ys (omega arith) (λ i. h (suc i)) in
    omega arith

pub room_left : (state : TrackerState) (counts : List ℕ) (places input : ℕ) → Keeps state counts places →
    input < length state.limits → live_of state input < get_or state.limits input 0 → length state.live < places
room_left state counts places input k known below =
    let here : input < length counts = (let m = k.long in omega arith) in
    let more : ℕ = get_or counts input 0 + 1 in
    let each : (i : ℕ) → get_or (set counts input more) i 0 ≤ get_or state.limits i 0 = λ i.
    elim (cases_eq i input) [
      | inl same ↦
          (let there : get_or (set counts input more) i 0 ≡ more =
          ap (λ j. get_or (set counts input more) j 0) same
          ∙ get_or-set_same counts input more 0 here
          in
          let limit : get_or state.limits i 0 ≡ get_or state.limits input 0 =
          ap (λ j. get_or state.limits j 0) same
          in
          omega (arith, k.counted input))
      | inr other ↦
          (let there = get_or-set_other counts input i more 0 other in
          omega (arith, k.counted i, k.stands.limited i))
    ]
    in
    let both = sum_by-set (λ n. n) counts input more 0 here in
    let up = sum_up (set counts input more) state.limits (length-set counts input more ∙ k.long) each in
    let were = k.all in
    let room = k.room in
    omega arith
