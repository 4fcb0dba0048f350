-- What a tracker says after a journal, as an entry more lets copies go, or begins a group.
use Rattle.std.proofs.Common.{◌≡◌, ℕ, ◌+◌, ◌<◌, ◌≤◌, ◌≢◌, ◌⊎◌, Bool, true, false, cond, not, eqb, ◌||◌, ◌&&◌}
use Rattle.std.proofs.Common.{List, [], ◌∷◌, ◌++◌, map, length, get_or, Option, Some, None, IsSome, refl, sym, ◌∙◌}
use Rattle.std.proofs.Common.{ap, subst, inl, inr, zero, suc, arith}
use mathlib.Core.Bool.{false≢true}
use Rattle.std.specs.Prelude.{find, option_map, All, count_by, nat_le, ◌↔◌, if◌then◌else◌}
use Rattle.std.specs.List.{enumerate_from, filter}
use Rattle.std.specs.Option.{option_map_or, option_to_list}
use Rattle.std.proofs.lemmas.Bool.{cases_eq, cases_lt}
use Rattle.std.proofs.lemmas.Bool.Decides.{nat_tests}
use Rattle.std.proofs.lemmas.List.{append-nil, map-append, length_push}
use Rattle.std.proofs.lemmas.List.Elements.{All-cons, All-head, All-tail, filter-append}
use Rattle.std.proofs.lemmas.List.Sums.{sum_by-cons}
use Rattle.account.specs.Setup.{Setup}
use Rattle.account.specs.Origins.{is_number, group_inputs, groups, input_of}
use Rattle.account.specs.declared.entry.Entry.{Entry}
use Rattle.account.specs.declared.entry.Report.{Report}
use Rattle.track_groups.specs.declared.group.LiveGroup.{LiveGroup}
use Rattle.track_groups.specs.Settling.{Copy, times, drops, all_go, left_of, after_copies, report_with}
use Rattle.track_groups.specs.Settling.{reports_with}
use Rattle.track_groups.specs.Tracker.{TrackerState, has_number, live_group, IsLive, copies_of, is_of, live_of}
use Rattle.track_groups.specs.Tracker.{tracker_of, changed, held, new_group, after_start, start_report}
use Rattle.track_groups.specs.Tracker.{after_hold}
use Rattle.track_groups.proofs.StepLemmas.{hold_group, hold_copies, hold_others}
use Rattle.track_groups.proofs.PlaceLemmas.{has-true, has-false}
use Rattle.track_groups.proofs.SettlingLemmas.{left, told, left_stays, left_goes, told_stays, told_goes, same_group}
use Rattle.pipeline_core.specs.Fates.{is_dropped}
use Rattle.pipeline_core.specs.Groups.{copies, count_of_fate, is_live, live_count, settles, report_of, reports_at}
use Rattle.pipeline_core.specs.Tracked.{group_after, most_live, tracker_after, hold_more}

-- the live groups among numbered inputs, by how many copies each group has, and how many were dropped
abbrev row : (ℕ → ℕ) → (ℕ → ℕ) → ℕ × ℕ → LiveGroup
row c d p = record { number = p.0; copies = c p.0; input = p.1; rejected = not (eqb (d p.0) 0) }

abbrev rows : (ℕ → ℕ) → (ℕ → ℕ) → List (ℕ × ℕ) → List LiveGroup
rows c d xs = map (row c d) (filter (λ (p : ℕ × ℕ). not (eqb (c p.0) 0)) xs)

zero_eqb : (n : ℕ) → n ≡ 0 → eqb n 0 ≡ true
zero_eqb n e = ap (λ k. eqb k 0) e

some_eqb : (n : ℕ) → n ≢ 0 → eqb n 0 ≡ false
some_eqb n ne = grind (arith, nat_tests, ne)

rows_pass : (c d : ℕ → ℕ) (p : ℕ × ℕ) (xs : List (ℕ × ℕ)) → c p.0 ≡ 0 → rows c d (p ∷ xs) ≡ rows c d xs
rows_pass c d p xs e = let t : eqb (c p.0) 0 ≡ true = zero_eqb (c p.0) e in rw t refl

rows_more : (c d : ℕ → ℕ) (p : ℕ × ℕ) (xs : List (ℕ × ℕ)) → c p.0 ≢ 0 → rows c d (p ∷ xs) ≡ row c d p ∷ rows c d xs
rows_more c d p xs n = let f : eqb (c p.0) 0 ≡ false = some_eqb (c p.0) n in rw f refl

-- more copies of a group are held, if there is one
abbrev holds_one : Option ℕ → ℕ → LiveGroup → LiveGroup
holds_one None more x = x
holds_one (Some g) more x = cond (has_number g x) (held more x) x

abbrev holds : Option ℕ → ℕ → List LiveGroup → List LiveGroup
holds None more xs = xs
holds (Some g) more xs = changed g (held more) xs

holds_nil : (grp : Option ℕ) (more : ℕ) → holds grp more [] ≡ []
holds_nil None more = refl
holds_nil (Some g) more = refl

holds_cons : (grp : Option ℕ) (more : ℕ) (x : LiveGroup) (xs : List LiveGroup) →
    holds grp more (x ∷ xs) ≡ holds_one grp more x ∷ holds grp more xs
holds_cons None more x xs = refl
holds_cons (Some g) more x xs = refl

holds_state : (state : TrackerState) (grp : Option ℕ) (more : ℕ) →
    hold_more state grp more ≡ record state { live = holds grp more state.live }
holds_state state None more = refl
holds_state state (Some g) more = refl

abbrev held_row : (ℕ → ℕ) → (ℕ → ℕ) → Option ℕ → ℕ → ℕ × ℕ → LiveGroup
held_row c d grp more p = record {
  number = p.0;
  copies = c p.0 + cond (is_number p.0 grp) more 0;
  input = p.1;
  rejected = not (eqb (d p.0) 0);
}

held_is : (c d : ℕ → ℕ) (grp : Option ℕ) (more : ℕ) (p : ℕ × ℕ) →
    holds_one grp more (row c d p) ≡ held_row c d grp more p
held_is c d None more p = same_group (row c d p) (held_row c d None more p) refl (omega arith) refl refl
held_is c d (Some g) more p =
    elim (cases_eq p.0 g) [
      | inl e ↦
          (let t : eqb p.0 g ≡ true = grind (arith, nat_tests) in
          let u : eqb g p.0 ≡ true = grind (arith, nat_tests) in
          ap (λ (b : Bool). cond b (held more (row c d p)) (row c d p)) t
          ∙ same_group (held more (row c d p)) (held_row c d (Some g) more p) refl
          (ap (λ (b : Bool). c p.0 + cond b more 0) (sym u)) refl refl)
      | inr n ↦
          (let f : eqb p.0 g ≡ false = grind (arith, nat_tests) in
          let u : eqb g p.0 ≡ false = grind (arith, nat_tests) in
          let none : c p.0 ≡ c p.0 + 0 = omega arith in
          ap (λ (b : Bool). cond b (held more (row c d p)) (row c d p)) f
          ∙ same_group (row c d p) (held_row c d (Some g) more p) refl
          (none ∙ ap (λ (b : Bool). c p.0 + cond b more 0) (sym u)) refl refl)
    ]

-- of a group without copies none are held
none_held : (c : ℕ → ℕ) (grp : Option ℕ) (more g : ℕ) →
    ((h : ℕ) → grp ≡ Some h → (not (eqb (c h) 0) ≡ true) ⊎ (more ≡ 0)) → c g ≡ 0 →
    cond (is_number g grp) more 0 ≡ 0
none_held c None more g known none = refl
none_held c (Some h) more g known none =
    elim (cases_eq h g) [
      | inl e ↦
          elim (known h refl) [
            | inl live ↦
                (let zero_h : c h ≡ 0 = ap c e ∙ none in
                let t : eqb (c h) 0 ≡ true = zero_eqb (c h) zero_h in
                absurd (false≢true (sym (ap not t) ∙ live)))
            | inr z ↦ ap (λ k. cond (eqb h g) k 0) z ∙ same (eqb h g)
          ]
      | inr n ↦ (let f : eqb h g ≡ false = grind (arith, nat_tests) in ap (λ (b : Bool). cond b more 0) f)
    ]
  where
    same : (b : Bool) → cond {A = ℕ} b 0 0 ≡ 0
    same true = refl
    same false = refl

-- what is said of a mark with more copies
some_sum : (n m k : ℕ) → k ≡ n + m → not (eqb k 0) ≡ (not (eqb n 0) || not (eqb m 0))
some_sum n m k e =
    elim (cases_eq n 0) [
      | inl z ↦
          (let same : k ≡ m = omega arith in
          ap (λ i. not (eqb i 0)) same ∙ sym (ap (λ (t : Bool). not t || not (eqb m 0)) (zero_eqb n z)))
      | inr s ↦
          (let more : k ≢ 0 = λ z. omega (arith, s) in
          ap not (some_eqb k more) ∙ sym (ap (λ (t : Bool). not t || not (eqb m 0)) (some_eqb n s)))
    ]

-- what is told of groups, by how many of their items were dropped
abbrev told_row : (ℕ → ℕ) → ℕ × ℕ → Report
told_row marked p = record { group = p.0; input = p.1; delivered = eqb (marked p.0) 0 }

told_pass : (marked : ℕ → ℕ) (test : ℕ → Bool) (p : ℕ × ℕ) (xs : List (ℕ × ℕ)) → test p.0 ≡ false →
    map (told_row marked) (filter (λ (q : ℕ × ℕ). test q.0) (p ∷ xs))
    ≡ map (told_row marked) (filter (λ (q : ℕ × ℕ). test q.0) xs)
told_pass marked test p xs f = rw f refl

told_more : (marked : ℕ → ℕ) (test : ℕ → Bool) (p : ℕ × ℕ) (xs : List (ℕ × ℕ)) → test p.0 ≡ true →
    map (told_row marked) (filter (λ (q : ℕ × ℕ). test q.0) (p ∷ xs))
    ≡ told_row marked p ∷ map (told_row marked) (filter (λ (q : ℕ × ℕ). test q.0) xs)
told_more marked test p xs t = rw t refl

and_no : (b : Bool) → (b && false) ≡ false
and_no true = refl
and_no false = refl

and_yes : (b : Bool) → (b && true) ≡ b
and_yes true = refl
and_yes false = refl

twice_not : (b : Bool) → b ≡ not (not b)
twice_not true = refl
twice_not false = refl

-- An entry that lets copies go, and by which more of one group wait.
module _
    (c after d marked : ℕ → ℕ)
    (gone : List Copy)
    (grp : Option ℕ)
    (more : ℕ)
    (counts : (g : ℕ) → after g + times g gone ≡ c g + cond (is_number g grp) more 0)
    (marks : (g : ℕ) → marked g ≡ d g + drops g gone)
    (known : (g : ℕ) → grp ≡ Some g → (not (eqb (c g) 0) ≡ true) ⊎ (more ≡ 0))
  where
    none_after : (g : ℕ) → c g ≡ 0 → after g ≡ 0
    none_after g e = let none = none_held c grp more g known e in let all = counts g in omega arith

    -- what becomes of one group
    left_row : (p : ℕ × ℕ) → left_of gone (held_row c d grp more p) ≡ row after marked p
    left_row p =
        let all = counts p.0 in
        same_group (left_of gone (held_row c d grp more p)) (row after marked p) refl (omega arith) refl
        (sym (some_sum (d p.0) (drops p.0 gone) (marked p.0) (marks p.0)))

    goes_row : (p : ℕ × ℕ) → after p.0 ≡ 0 → all_go gone (held_row c d grp more p) ≡ true
    goes_row p e =
        let all = counts p.0 in
        let same : times p.0 gone ≡ c p.0 + cond (is_number p.0 grp) more 0 = omega arith in
        grind (arith, nat_tests)

    stays_row : (p : ℕ × ℕ) → after p.0 ≢ 0 → all_go gone (held_row c d grp more p) ≡ false
    stays_row p n =
        let all = counts p.0 in
        let differ : times p.0 gone ≢ c p.0 + cond (is_number p.0 grp) more 0 = λ e. omega (arith, n) in
        grind (arith, nat_tests, differ)

    -- the list of the live groups before, with one in front
    before_pass : (p : ℕ × ℕ) (xs : List (ℕ × ℕ)) → c p.0 ≡ 0 →
        holds grp more (rows c d (p ∷ xs)) ≡ holds grp more (rows c d xs)
    before_pass p xs e = ap (holds grp more) (rows_pass c d p xs e)

    before_more : (p : ℕ × ℕ) (xs : List (ℕ × ℕ)) → c p.0 ≢ 0 →
        holds grp more (rows c d (p ∷ xs)) ≡ held_row c d grp more p ∷ holds grp more (rows c d xs)
    before_more p xs n =
        ap (holds grp more) (rows_more c d p xs n)
        ∙ holds_cons grp more (row c d p) (rows c d xs)
        ∙ ap (λ (x : LiveGroup). x ∷ holds grp more (rows c d xs)) (held_is c d grp more p)

    pub rows_after : (xs : List (ℕ × ℕ)) → rows after marked xs ≡ left gone (holds grp more (rows c d xs))
    rows_after [] = sym (ap (left gone) (holds_nil grp more))
    rows_after (p ∷ xs) =
        elim (cases_eq (c p.0) 0) [
          | inl e ↦
              rows_pass after marked p xs (none_after p.0 e)
              ∙ rows_after xs
              ∙ ap (left gone) (sym (before_pass p xs e))
          | inr n ↦
              elim (cases_eq (after p.0) 0) [
                | inl e ↦
                    rows_pass after marked p xs e
                    ∙ rows_after xs
                    ∙ sym (left_goes gone (held_row c d grp more p) (holds grp more (rows c d xs)) (goes_row p e))
                    ∙ ap (left gone) (sym (before_more p xs n))
                | inr m ↦
                    rows_more after marked p xs m
                    ∙ ap (λ (x : LiveGroup). x ∷ rows after marked xs) (sym (left_row p))
                    ∙ ap (λ (ys : List LiveGroup). left_of gone (held_row c d grp more p) ∷ ys) (rows_after xs)
                    ∙ sym (left_stays gone (held_row c d grp more p) (holds grp more (rows c d xs)) (stays_row p m))
                    ∙ ap (left gone) (sym (before_more p xs n))
              ]
        ]

    -- what is told of one group
    told_is : (p : ℕ × ℕ) → told_row marked p ≡ report_with gone (held_row c d grp more p)
    told_is p = λ i. record {
      group = p.0;
      input = p.1;
      delivered = (twice_not (eqb (marked p.0) 0)
          ∙ ap not (some_sum (d p.0) (drops p.0 gone) (marked p.0) (marks p.0))) i;
    }

    reports_after : (test : ℕ → Bool) (xs : List (ℕ × ℕ)) →
        All (λ (p : ℕ × ℕ). test p.0 ≡ (not (not (eqb (after p.0) 0)) && not (eqb (c p.0) 0))) xs →
        map (told_row marked) (filter (λ (p : ℕ × ℕ). test p.0) xs) ≡ told gone (holds grp more (rows c d xs))
    reports_after test [] says = sym (ap (told gone) (holds_nil grp more))
    reports_after test (p ∷ xs) says =
        let P : ℕ × ℕ → Type 0 = λ p. test p.0 ≡ (not (not (eqb (after p.0) 0)) && not (eqb (c p.0) 0)) in
        let rest = reports_after test xs (All-tail P p xs says) in
        let first = All-head P p xs says in
        elim (cases_eq (c p.0) 0) [
          | inl e ↦
              (let f : test p.0 ≡ false =
              first ∙ ap (λ (b : Bool). not (not (eqb (after p.0) 0)) && not b) (zero_eqb (c p.0) e)
              ∙ and_no (not (not (eqb (after p.0) 0)))
              in
              told_pass marked test p xs f ∙ rest ∙ ap (told gone) (sym (before_pass p xs e)))
          | inr n ↦
              elim (cases_eq (after p.0) 0) [
                | inl e ↦
                    (let t : test p.0 ≡ true =
                    first
                    ∙ ap (λ (b : Bool). not (not b) && not (eqb (c p.0) 0)) (zero_eqb (after p.0) e)
                    ∙ ap not (some_eqb (c p.0) n)
                    in
                    told_more marked test p xs t
                    ∙ (λ i. told_is p i ∷ rest i)
                    ∙ sym (told_goes gone (held_row c d grp more p) (holds grp more (rows c d xs)) (goes_row p e))
                    ∙ ap (told gone) (sym (before_more p xs n)))
                | inr m ↦
                    (let f : test p.0 ≡ false =
                    first ∙ ap (λ (b : Bool). not (not b) && not (eqb (c p.0) 0)) (some_eqb (after p.0) m)
                    in
                    told_pass marked test p xs f
                    ∙ rest
                    ∙ sym (told_stays gone (held_row c d grp more p) (holds grp more (rows c d xs)) (stays_row p m))
                    ∙ ap (told gone) (sym (before_more p xs n)))
              ]
        ]

-- the numbers of inputs are below how many there are
numbers_below : (k n : ℕ) (inputs : List ℕ) → k + length inputs ≤ n →
    All (λ (p : ℕ × ℕ). p.0 < n) (enumerate_from k inputs)
numbers_below k n [] few = λ i d l. absurd (omega arith)
numbers_below k n (x ∷ xs) few =
    All-cons (λ (p : ℕ × ℕ). p.0 < n) (k, x) (enumerate_from (k + 1) xs) (omega arith)
    (numbers_below (k + 1) n xs (omega arith))

settles_old : (setup : Setup) (es : List Entry) (e : Entry) (g : ℕ) → g < groups es →
    settles setup es e g ≡ (not (is_live setup (es ++ e ∷ []) g) && is_live setup es g)
settles_old setup es e g low =
    let f : nat_le (groups es) g ≡ false = grind (arith, nat_tests) in
    ap (λ (b : Bool). not (is_live setup (es ++ e ∷ []) g) && (b || is_live setup es g)) f

module _
    (setup : Setup)
    (es : List Entry)
    (e : Entry)
    (grp : Option ℕ)
    (more : ℕ)
    (gone : List Copy)
    (same : group_inputs (es ++ e ∷ []) ≡ group_inputs es)
    (counts : (g : ℕ) →
    copies setup (es ++ e ∷ []) g + times g gone ≡ copies setup es g + (if is_number g grp then more else 0))
    (marks : (g : ℕ) →
    count_of_fate is_dropped setup (es ++ e ∷ []) g ≡ count_of_fate is_dropped setup es g + drops g gone)
    (known : (g : ℕ) → grp ≡ Some g → (is_live setup es g ≡ true) ⊎ (more ≡ 0))
  where
    pub tracker_goes :
        tracker_after setup (es ++ e ∷ []) ≡ after_copies (hold_more (tracker_after setup es) grp more) gone
    unfolding tracker_after
    tracker_goes =
        let c : ℕ → ℕ = copies setup es in
        let after : ℕ → ℕ = copies setup (es ++ e ∷ []) in
        let d : ℕ → ℕ = count_of_fate is_dropped setup es in
        let marked : ℕ → ℕ = count_of_fate is_dropped setup (es ++ e ∷ []) in
        let state_of = λ (inputs : List ℕ) (live : List LiveGroup).
        tracker_of (map most_live setup.inputs) (length inputs) live
        in
        ap (λ (inputs : List ℕ). state_of inputs (rows after marked (enumerate_from 0 inputs))) same
        ∙ ap (λ (live : List LiveGroup). state_of (group_inputs es) live)
        (rows_after c after d marked gone grp more counts marks known (enumerate_from 0 (group_inputs es)))
        ∙ ap (λ (s : TrackerState). after_copies s gone) (sym (holds_state (tracker_after setup es) grp more))

    pub reports_go : reports_at setup es e ≡ reports_with (hold_more (tracker_after setup es) grp more) gone
    unfolding tracker_after reports_at
    reports_go =
        let c : ℕ → ℕ = copies setup es in
        let after : ℕ → ℕ = copies setup (es ++ e ∷ []) in
        let d : ℕ → ℕ = count_of_fate is_dropped setup es in
        let marked : ℕ → ℕ = count_of_fate is_dropped setup (es ++ e ∷ []) in
        let below = numbers_below 0 (groups es) (group_inputs es) (omega arith) in
        ap (λ (inputs : List ℕ). map (report_of setup (es ++ e ∷ []))
        (filter (λ (group : ℕ × ℕ). settles setup es e group.0) (enumerate_from 0 inputs))) same
        ∙ reports_after c after d marked gone grp more counts marks known (settles setup es e)
        (enumerate_from 0 (group_inputs es))
        (λ k p l. settles_old setup es e (get_or (enumerate_from 0 (group_inputs es)) k p).0 (below k p l))
        ∙ ap (λ (s : TrackerState). reports_with s gone) (sym (holds_state (tracker_after setup es) grp more))

-- A group more begins.
number_push : (k : ℕ) (inputs : List ℕ) (input : ℕ) →
    enumerate_from k (inputs ++ input ∷ []) ≡ enumerate_from k inputs ++ (k + length inputs, input) ∷ []
number_push k [] input =
    let same : k ≡ k + 0 = omega arith in
    ap (λ i. enumerate_from i (input ∷ [])) same ∙ here
  where
    here : enumerate_from (k + 0) (input ∷ []) ≡ (k + 0, input) ∷ []
    here = refl
number_push k (x ∷ xs) input =
    let same : k + 1 + length xs ≡ k + length (x ∷ xs) = omega arith in
    ap (λ (ps : List (ℕ × ℕ)). (k, x) ∷ ps) (number_push (k + 1) xs input)
    ∙ ap (pushed (k, x) (enumerate_from (k + 1) xs) input) same
  where
    pushed : ℕ × ℕ → List (ℕ × ℕ) → ℕ → ℕ → List (ℕ × ℕ)
    pushed first ps i n = first ∷ (ps ++ (n, i) ∷ [])

-- what is as before of each group
record SameOf (c after d marked : ℕ → ℕ) (g : ℕ) : Type 0 where
  counted : after g ≡ c g
  dropped : marked g ≡ d g

rows_same : (c after d marked : ℕ → ℕ) (xs : List (ℕ × ℕ)) → All (λ (p : ℕ × ℕ). SameOf c after d marked p.0) xs →
    rows after marked xs ≡ rows c d xs
rows_same c after d marked [] same = refl
rows_same c after d marked (p ∷ xs) same =
    let rest = rows_same c after d marked xs (All-tail (λ (q : ℕ × ℕ). SameOf c after d marked q.0) p xs same) in
    let first = All-head (λ (q : ℕ × ℕ). SameOf c after d marked q.0) p xs same in
    elim (cases_eq (c p.0) 0) [
      | inl e ↦ rows_pass after marked p xs (first.counted ∙ e) ∙ rest ∙ sym (rows_pass c d p xs e)
      | inr n ↦
          rows_more after marked p xs (λ e. n (sym first.counted ∙ e))
          ∙ ap (λ (x : LiveGroup). x ∷ rows after marked xs)
          (same_group (row after marked p) (row c d p) refl first.counted refl
          (ap (λ k. not (eqb k 0)) first.dropped))
          ∙ ap (λ (ys : List LiveGroup). row c d p ∷ ys) rest
          ∙ sym (rows_more c d p xs n)
    ]

rows_push : (c d : ℕ → ℕ) (xs : List (ℕ × ℕ)) (p : ℕ × ℕ) →
    rows c d (xs ++ p ∷ []) ≡ rows c d xs ++ rows c d (p ∷ [])
rows_push c d xs p =
    ap (map (row c d)) (filter-append (λ (q : ℕ × ℕ). not (eqb (c q.0) 0)) xs (p ∷ []))
    ∙ map-append (row c d) (filter (λ (q : ℕ × ℕ). not (eqb (c q.0) 0)) xs)
    (filter (λ (q : ℕ × ℕ). not (eqb (c q.0) 0)) (p ∷ []))

rows_begun : (after marked : ℕ → ℕ) (live : List LiveGroup) (n input m : ℕ) → after n ≡ m → marked n ≡ 0 →
    live ++ rows after marked ((n, input) ∷ []) ≡ cond (eqb m 0) live (live ++ new_group n input m ∷ [])
rows_begun after marked live n input m here unmarked =
    elim (cases_eq m 0) [
      | inl e ↦
          ap (λ (ys : List LiveGroup). live ++ ys) (rows_pass after marked (n, input) [] (here ∙ e))
          ∙ append-nil live
          ∙ sym (ap (λ (b : Bool). cond b live (live ++ new_group n input m ∷ [])) (zero_eqb m e))
      | inr s ↦
          ap (λ (ys : List LiveGroup). live ++ ys)
          (rows_more after marked (n, input) [] (λ e. s (sym here ∙ e))
          ∙ ap (λ (x : LiveGroup). x ∷ [])
          (same_group (row after marked (n, input)) (new_group n input m) refl here refl
          (ap not (zero_eqb (marked n) unmarked))))
          ∙ sym (ap (λ (b : Bool). cond b live (live ++ new_group n input m ∷ [])) (some_eqb m s))
    ]

none_pass : (test : ℕ → Bool) (xs : List (ℕ × ℕ)) → All (λ (p : ℕ × ℕ). test p.0 ≡ false) xs →
    filter (λ (p : ℕ × ℕ). test p.0) xs ≡ []
none_pass test [] none = refl
none_pass test (p ∷ xs) none =
    let f : test p.0 ≡ false = All-head (λ (q : ℕ × ℕ). test q.0 ≡ false) p xs none in
    rw f (none_pass test xs (All-tail (λ (q : ℕ × ℕ). test q.0 ≡ false) p xs none))

begun_told : (marked : ℕ → ℕ) (test : ℕ → Bool) (n input m : ℕ) → test n ≡ eqb m 0 → marked n ≡ 0 →
    map (told_row marked) (filter (λ (p : ℕ × ℕ). test p.0) ((n, input) ∷ []))
    ≡ option_to_list (cond (eqb m 0) (Some (record { group = n; input = input; delivered = true })) None)
begun_told marked test n input m settles unmarked =
    elim (cases_eq m 0) [
      | inl e ↦
          (let t = zero_eqb m e in
          told_more marked test (n, input) [] (settles ∙ t)
          ∙ (λ i. record { group = n; input = input; delivered = zero_eqb (marked n) unmarked i } ∷ [])
          ∙ sym (ap (λ (b : Bool).
          option_to_list (cond b (Some (record { group = n; input = input; delivered = true })) None)) t))
      | inr s ↦
          (let f = some_eqb m s in
          told_pass marked test (n, input) [] (settles ∙ f)
          ∙ sym (ap (λ (b : Bool).
          option_to_list (cond b (Some (record { group = n; input = input; delivered = true })) None)) f))
    ]

no_more_settles : (live : Bool) → (not live && live) ≡ false
no_more_settles true = refl
no_more_settles false = refl

module _
    (setup : Setup)
    (es : List Entry)
    (e : Entry)
    (input m : ℕ)
    (begins : group_inputs (es ++ e ∷ []) ≡ group_inputs es ++ input ∷ [])
    (counts : (g : ℕ) → g < groups es → copies setup (es ++ e ∷ []) g ≡ copies setup es g)
    (marks : (g : ℕ) → g < groups es →
    count_of_fate is_dropped setup (es ++ e ∷ []) g ≡ count_of_fate is_dropped setup es g)
    (here : copies setup (es ++ e ∷ []) (groups es) ≡ m)
    (unmarked : count_of_fate is_dropped setup (es ++ e ∷ []) (groups es) ≡ 0)
  where
    numbered : enumerate_from 0 (group_inputs (es ++ e ∷ []))
        ≡ enumerate_from 0 (group_inputs es) ++ (groups es, input) ∷ []
    numbered =
        ap (enumerate_from 0) begins
        ∙ number_push 0 (group_inputs es) input
        ∙ ap (λ (n : ℕ). enumerate_from 0 (group_inputs es) ++ (n, input) ∷ []) none
      where
        none : 0 + length (group_inputs es) ≡ groups es
        none = omega arith

    pub tracker_starts : tracker_after setup (es ++ e ∷ []) ≡ after_start (tracker_after setup es) input m
    unfolding tracker_after
    tracker_starts =
        let c : ℕ → ℕ = copies setup es in
        let after : ℕ → ℕ = copies setup (es ++ e ∷ []) in
        let d : ℕ → ℕ = count_of_fate is_dropped setup es in
        let marked : ℕ → ℕ = count_of_fate is_dropped setup (es ++ e ∷ []) in
        let below = numbers_below 0 (groups es) (group_inputs es) (omega arith) in
        let longer : groups (es ++ e ∷ []) ≡ groups es + 1 =
        ap length begins ∙ length_push (group_inputs es) input
        in
        let same = rows_same c after d marked (enumerate_from 0 (group_inputs es)) (λ k p l. record {
          counted = counts (get_or (enumerate_from 0 (group_inputs es)) k p).0 (below k p l);
          dropped = marks (get_or (enumerate_from 0 (group_inputs es)) k p).0 (below k p l);
        })
        in
        let live : rows after marked (enumerate_from 0 (group_inputs (es ++ e ∷ [])))
        ≡ cond (eqb m 0) (rows c d (enumerate_from 0 (group_inputs es)))
        (rows c d (enumerate_from 0 (group_inputs es)) ++ new_group (groups es) input m ∷ []) =
        ap (rows after marked) numbered
        ∙ rows_push after marked (enumerate_from 0 (group_inputs es)) (groups es, input)
        ∙ ap (λ (ys : List LiveGroup). ys ++ rows after marked ((groups es, input) ∷ [])) same
        ∙ rows_begun after marked (rows c d (enumerate_from 0 (group_inputs es))) (groups es) input m here unmarked
        in λ i. record { limits = map most_live setup.inputs; started = longer i; live = live i }

    pub reports_start : reports_at setup es e ≡ option_to_list (start_report (tracker_after setup es) input m)
    unfolding tracker_after reports_at
    reports_start =
        let marked : ℕ → ℕ = count_of_fate is_dropped setup (es ++ e ∷ []) in
        let test : ℕ → Bool = settles setup es e in
        let old : List (ℕ × ℕ) = enumerate_from 0 (group_inputs es) in
        let below = numbers_below 0 (groups es) (group_inputs es) (omega arith) in
        let still : (g : ℕ) → g < groups es → test g ≡ false = λ g l.
        settles_old setup es e g l
        ∙ ap (λ k. not (not (eqb k 0)) && is_live setup es g) (counts g l)
        ∙ no_more_settles (is_live setup es g)
        in
        let least : nat_le (groups es) (groups es) ≡ true = grind (arith, nat_tests) in
        let settled : test (groups es) ≡ eqb m 0 =
        ap (λ (b : Bool). not (is_live setup (es ++ e ∷ []) (groups es)) && (b || is_live setup es (groups es))) least
        ∙ and_yes (not (is_live setup (es ++ e ∷ []) (groups es)))
        ∙ sym (twice_not (eqb (copies setup (es ++ e ∷ []) (groups es)) 0))
        ∙ ap (λ k. eqb k 0) here
        in
        ap (λ (ps : List (ℕ × ℕ)). map (told_row marked) (filter (λ (p : ℕ × ℕ). test p.0) ps)) numbered
        ∙ ap (map (told_row marked))
        (filter-append (λ (p : ℕ × ℕ). test p.0) old ((groups es, input) ∷ [])
        ∙ ap (λ (ps : List (ℕ × ℕ)). ps ++ filter (λ (p : ℕ × ℕ). test p.0) ((groups es, input) ∷ []))
        (none_pass test old (λ k p l. still (get_or old k p).0 (below k p l))))
        ∙ begun_told marked test (groups es) input m settled unmarked

-- How many groups of an input are live.
count_rows : (c d : ℕ → ℕ) (input : ℕ) (xs : List (ℕ × ℕ)) →
    count_by (is_of input) (rows c d xs) ≡ count_by (λ (p : ℕ × ℕ). eqb p.1 input && not (eqb (c p.0) 0)) xs
count_rows c d input [] = refl
count_rows c d input (p ∷ xs) =
    let rest = count_rows c d input xs in
    let whole = sum_by-cons (λ (q : ℕ × ℕ). cond (eqb q.1 input && not (eqb (c q.0) 0)) 1 0) p xs in
    elim (cases_eq (c p.0) 0) [
      | inl e ↦
          (let none : cond {A = ℕ} (eqb p.1 input && not (eqb (c p.0) 0)) 1 0 ≡ 0 =
          ap (λ (b : Bool). cond {A = ℕ} (eqb p.1 input && not b) 1 0) (zero_eqb (c p.0) e)
          ∙ ap (λ (b : Bool). cond {A = ℕ} b 1 0) (and_no (eqb p.1 input))
          in
          let same : count_by (is_of input) (rows c d (p ∷ xs)) ≡ count_by (is_of input) (rows c d xs) =
          ap (count_by (is_of input)) (rows_pass c d p xs e)
          in
          omega arith)
      | inr n ↦
          (let one : cond {A = ℕ} (eqb p.1 input && not (eqb (c p.0) 0)) 1 0 ≡ cond {A = ℕ} (eqb p.1 input) 1 0 =
          ap (λ (b : Bool). cond {A = ℕ} (eqb p.1 input && not b) 1 0) (some_eqb (c p.0) n)
          ∙ ap (λ (b : Bool). cond {A = ℕ} b 1 0) (and_yes (eqb p.1 input))
          in
          let more : count_by (is_of input) (rows c d (p ∷ xs))
          ≡ cond {A = ℕ} (eqb p.1 input) 1 0 + count_by (is_of input) (rows c d xs) =
          ap (count_by (is_of input)) (rows_more c d p xs n)
          ∙ sum_by-cons (λ (x : LiveGroup). cond (is_of input x) 1 0) (row c d p) (rows c d xs)
          in
          omega arith)
    ]

pub live_of_tracker : (setup : Setup) (es : List Entry) (input : ℕ) →
    live_of (tracker_after setup es) input ≡ live_count setup es input
unfolding tracker_after
live_of_tracker setup es input =
    count_rows (copies setup es) (count_of_fate is_dropped setup es) input (enumerate_from 0 (group_inputs es))

-- The live group of a number.
find_pass : (c d : ℕ → ℕ) (g : ℕ) (p : ℕ × ℕ) (xs : List (ℕ × ℕ)) → p.0 ≢ g →
    find (has_number g) (rows c d (p ∷ xs)) ≡ find (has_number g) (rows c d xs)
find_pass c d g p xs n =
    elim (cases_eq (c p.0) 0) [
      | inl e ↦ ap (find (has_number g)) (rows_pass c d p xs e)
      | inr m ↦
          (let f : has_number g (row c d p) ≡ false = has-false g (row c d p) n in
          ap (find (has_number g)) (rows_more c d p xs m)
          ∙ ap (λ (b : Bool). cond b (Some (row c d p)) (find (has_number g) (rows c d xs))) f)
    ]

find_none_of : (c d : ℕ → ℕ) (g : ℕ) (xs : List (ℕ × ℕ)) → All (λ (p : ℕ × ℕ). p.0 ≢ g ⊎ (c p.0 ≡ 0)) xs →
    find (has_number g) (rows c d xs) ≡ None
find_none_of c d g [] none = refl
find_none_of c d g (p ∷ xs) none =
    let rest = find_none_of c d g xs (All-tail (λ (q : ℕ × ℕ). q.0 ≢ g ⊎ (c q.0 ≡ 0)) p xs none) in
    elim (All-head (λ (q : ℕ × ℕ). q.0 ≢ g ⊎ (c q.0 ≡ 0)) p xs none) [
      | inl n ↦ find_pass c d g p xs n ∙ rest
      | inr e ↦ ap (find (has_number g)) (rows_pass c d p xs e) ∙ rest
    ]

find_row : (c d : ℕ → ℕ) (g : ℕ) (k j : ℕ) (inputs : List ℕ) → j + k ≡ g → j < length inputs → c g ≢ 0 →
    find (has_number g) (rows c d (enumerate_from k inputs)) ≡ Some (row c d (g, get_or inputs j 0))
find_row c d g k j [] is low live = absurd (omega arith)
find_row c d g k zero (x ∷ xs) is low live =
    subst (λ h. c h ≢ 0 →
    find (has_number h) (rows c d (enumerate_from k (x ∷ xs))) ≡ Some (row c d (h, x))) same first live
  where
    same : k ≡ g
    same = omega arith

    first : c k ≢ 0 → find (has_number k) (rows c d (enumerate_from k (x ∷ xs))) ≡ Some (row c d (k, x))
    first here =
        ap (find (has_number k)) (rows_more c d (k, x) (enumerate_from (k + 1) xs) here)
        ∙ ap (λ (b : Bool). cond b (Some (row c d (k, x)))
        (find (has_number k) (rows c d (enumerate_from (k + 1) xs))))
        (has-true k (row c d (k, x)) refl)
find_row c d g k (suc j) (x ∷ xs) is low live =
    find_pass c d g (k, x) (enumerate_from (k + 1) xs) (λ e. omega arith)
    ∙ find_row c d g (k + 1) j xs (omega arith) (omega arith) live

-- a group that is live is the one that it should be
pub live_group_is : (setup : Setup) (es : List Entry) (g : ℕ) → g < groups es → is_live setup es g ≡ true →
    live_group (tracker_after setup es) g ≡ Some (group_after setup es (g, input_of es g))
unfolding tracker_after
live_group_is setup es g low live =
    find_row (copies setup es) (count_of_fate is_dropped setup es) g 0 g (group_inputs es) (omega arith) low
    (λ e. false≢true (sym (ap not (zero_eqb (copies setup es g) e)) ∙ live))

-- and no other is
pub no_group : (setup : Setup) (es : List Entry) (g : ℕ) → copies setup es g ≡ 0 →
    live_group (tracker_after setup es) g ≡ None
unfolding tracker_after
no_group setup es g none =
    find_none_of (copies setup es) (count_of_fate is_dropped setup es) g (enumerate_from 0 (group_inputs es))
    (λ k p l. elsewhere (get_or (enumerate_from 0 (group_inputs es)) k p).0)
  where
    elsewhere : (h : ℕ) → (h ≢ g) ⊎ (copies setup es h ≡ 0)
    elsewhere h = elim (cases_eq h g) [ inl e ↦ inr (ap (copies setup es) e ∙ none) | inr n ↦ inl n ]

pub not_begun : (setup : Setup) (es : List Entry) (g : ℕ) → groups es ≤ g →
    live_group (tracker_after setup es) g ≡ None
unfolding tracker_after
not_begun setup es g high =
    let below = numbers_below 0 (groups es) (group_inputs es) (omega arith) in
    find_none_of (copies setup es) (count_of_fate is_dropped setup es) g (enumerate_from 0 (group_inputs es))
    (λ k p l. inl (λ e. (let low = below k p l in omega arith)))

not_none : (o : Option LiveGroup) → o ≡ None → IsSome o → ⊥
not_none o none some = grind (arith, none)

pub live_in_tracker : (setup : Setup) (es : List Entry) (g : ℕ) →
    IsLive (tracker_after setup es) g ↔ ((g < groups es) × (is_live setup es g ≡ true))
live_in_tracker setup es g = (
  λ live. (
    elim (cases_lt g (groups es)) [
      | inl low ↦ low
      | inr high ↦ absurd (not_none (live_group (tracker_after setup es) g) (not_begun setup es g high) live)
    ],
    elim (cases_eq (copies setup es g) 0) [
      | inl e ↦ absurd (not_none (live_group (tracker_after setup es) g) (no_group setup es g e) live)
      | inr n ↦ ap not (some_eqb (copies setup es g) n)
    ],
  ),
  λ both. subst (λ (o : Option LiveGroup). IsSome o) (sym (live_group_is setup es g both.0 both.1)) refl,
)

pub copies_in_tracker : (setup : Setup) (es : List Entry) (g : ℕ) → g < groups es →
    copies_of (tracker_after setup es) g ≡ copies setup es g
copies_in_tracker setup es g low =
    elim (cases_eq (copies setup es g) 0) [
      | inl e ↦
          ap (λ (o : Option LiveGroup). option_map_or (λ group. group.copies) o 0) (no_group setup es g e) ∙ sym e
      | inr n ↦
          ap (λ (o : Option LiveGroup). option_map_or (λ group. group.copies) o 0)
          (live_group_is setup es g low (ap not (some_eqb (copies setup es g) n)))
    ]

-- No more copies of a group go than wait, where no number is above those of the groups.
copies_known : (setup : Setup) (es : List Entry) → ((g : ℕ) → groups es ≤ g → copies setup es g ≡ 0) → (g : ℕ) →
    copies_of (tracker_after setup es) g ≡ copies setup es g
copies_known setup es none g =
    elim (cases_lt g (groups es)) [
      | inl low ↦ copies_in_tracker setup es g low
      | inr high ↦
          ap (λ (o : Option LiveGroup). option_map_or (λ group. group.copies) o 0) (not_begun setup es g high)
          ∙ sym (none g high)
    ]

live_known : (setup : Setup) (es : List Entry) → ((g : ℕ) → groups es ≤ g → copies setup es g ≡ 0) → (g : ℕ) →
    copies setup es g ≢ 0 → IsLive (tracker_after setup es) g
live_known setup es none g some =
    (live_in_tracker setup es g).1 (
      elim (cases_lt g (groups es)) [ inl low ↦ low | inr high ↦ absurd (some (none g high)) ],
      ap not (some_eqb (copies setup es g) some),
    )

pub copies_held : (setup : Setup) (es : List Entry) (grp : Option ℕ) (more : ℕ) →
    ((g : ℕ) → grp ≡ Some g → (is_live setup es g ≡ true) ⊎ (more ≡ 0)) →
    ((g : ℕ) → groups es ≤ g → copies setup es g ≡ 0) → (g : ℕ) →
    copies_of (hold_more (tracker_after setup es) grp more) g
    ≡ copies setup es g + (if is_number g grp then more else 0)
copies_held setup es None more known none g =
    let same = copies_known setup es none g in omega arith
copies_held setup es (Some h) more known none g =
    elim (cases_eq g h) [
      | inl e ↦
          (let t : eqb h g ≡ true = grind (arith, nat_tests) in
          let sum : copies_of (after_hold (tracker_after setup es) h more) g ≡ copies setup es g + more =
          subst (λ k. copies_of (after_hold (tracker_after setup es) k more) g ≡ copies setup es g + more) e
          (own (cases_eq (copies setup es g) 0) (known g (ap (λ (k : ℕ). Some k) (sym e))))
          in
          sum ∙ ap (λ (b : Bool). copies setup es g + cond b more 0) (sym t))
      | inr n ↦
          (let f : eqb h g ≡ false = grind (arith, nat_tests) in
          let same = copies_known setup es none g in
          let zero_more : copies setup es g ≡ copies setup es g + 0 = omega arith in
          ap (λ (o : Option LiveGroup). option_map_or (λ group. group.copies) o 0)
          (hold_others (tracker_after setup es) h more g n)
          ∙ same
          ∙ zero_more
          ∙ ap (λ (b : Bool). copies setup es g + cond b more 0) (sym f))
    ]
  where
    gone_too : copies setup es g ≡ 0 → copies_of (after_hold (tracker_after setup es) g more) g ≡ 0
    gone_too e =
        ap (λ (o : Option LiveGroup). option_map_or (λ group. group.copies) o 0)
        (hold_group (tracker_after setup es) g more)
        ∙ ap (λ (o : Option LiveGroup). option_map_or (λ group. group.copies) (option_map (held more) o) 0)
        (no_group setup es g e)

    own : (copies setup es g ≡ 0) ⊎ (copies setup es g ≢ 0) → (is_live setup es g ≡ true) ⊎ (more ≡ 0) →
        copies_of (after_hold (tracker_after setup es) g more) g ≡ copies setup es g + more
    own (inl e) (inl live) = absurd (false≢true (sym (ap not (zero_eqb (copies setup es g) e)) ∙ live))
    own (inl e) (inr z) = let none_left = gone_too e in omega arith
    own (inr n) is =
        let same = copies_known setup es none g in
        let sum = hold_copies (tracker_after setup es) g more (live_known setup es none g n) in
        omega arith

pub goes_few : (setup : Setup) (es : List Entry) (e : Entry) (grp : Option ℕ) (more : ℕ) (gone : List Copy) →
    ((g : ℕ) →
    copies setup (es ++ e ∷ []) g + times g gone ≡ copies setup es g + (if is_number g grp then more else 0)) →
    ((g : ℕ) → grp ≡ Some g → (is_live setup es g ≡ true) ⊎ (more ≡ 0)) →
    ((g : ℕ) → groups es ≤ g → copies setup es g ≡ 0) → (g : ℕ) →
    times g gone ≤ copies_of (hold_more (tracker_after setup es) grp more) g
goes_few setup es e grp more gone counts known none g =
    let all = counts g in let here = copies_held setup es grp more known none g in omega arith
