-- What stays of a group as one entry more comes, and induction over legal journals.
use Rattle.std.proofs.Common.{◌≡◌, ◌<◌, ◌≤◌, ℕ, ◌&&◌, if◌then◌else◌, Bool, true, false, List, [], ◌∷◌, ◌++◌}
use Rattle.std.proofs.Common.{length, refl, ap, sym, ◌∙◌, arith, subst, append-nil, append_assoc, inl, inr}
use Rattle.std.proofs.lemmas.Bool.{cases_eq}
use Rattle.std.specs.declared.option.Option.{Option}
use Rattle.std.specs.declared.option.Option.TheVariants.{Some, None}
use Rattle.account.specs.Setup.{Setup}
use Rattle.account.specs.Origins.{groups, is_number, origin_at}
use Rattle.account.specs.declared.entry.Entry.{Entry}
use Rattle.account.specs.declared.entry.Entry.TheVariants.{Gather, Ended, Take, Route, Tick, Stop, Begin, Done}
use Rattle.out_lane.specs.Lane.{LaneState}
use Rattle.track_groups.specs.Settling.{Copy, drops, is_copy_of, is_dropped_of, times}
use Rattle.pipeline_core.specs.CoreState.{CoreState, IsCore, marked_at}
use Rattle.pipeline_core.specs.Fates.{is_dropped}
use Rattle.pipeline_core.specs.GroupLaws.{HasSizes}
use Rattle.pipeline_core.specs.Groups.{copies, count_of_fate, next_group}
use Rattle.pipeline_core.specs.Legal.{AreLegal, IsLegal, Meets, MeetsLine}
use Rattle.pipeline_core.specs.Tracked.{copy_of, done_copies, routed_copies}
use Rattle.pipeline_core.proofs.CopyCounts.{count-append, count-cons}
use Rattle.pipeline_core.proofs.CopyGroups.{begin_copies, done_copies_all, gather_copies, hand_copies, quiet_copies}
use Rattle.pipeline_core.proofs.CopyGroups.{quiet_fates, route_copies}
use Rattle.pipeline_core.proofs.CopySteps.{one_if}
use Rattle.pipeline_core.proofs.CopySums.{AreMarked, begin_all, done_dropped_all, plain_all, comers}
use Rattle.pipeline_core.proofs.CopySums.{route_all}
use Rattle.pipeline_core.proofs.JournalPush.{IsLegal-push}
use Rattle.pipeline_core.proofs.MarkedLanes.{are_marked}
use Rattle.pipeline_core.proofs.Keeping.{differs}

-- ---- induction over legal journals

-- what each entry keeps is so behind more of them
pub legal_onward : (setup : Setup) (P : List Entry → Type 0)
    → ((es : List Entry) (e : Entry) → IsLegal setup es → Meets setup es e → P es → P (es ++ e ∷ []))
    → (before es : List Entry) → IsLegal setup before → AreLegal setup before es → P before → P (before ++ es)
unfolding AreLegal
legal_onward setup P step before [] h more p = subst P (sym (append-nil before)) p
legal_onward setup P step before (e ∷ es) h more p =
    subst P (append_assoc before (e ∷ []) es)
    (legal_onward setup P step (before ++ e ∷ []) es (IsLegal-push setup before e h more.0) more.1
    (step before e h more.0 p))

-- what is so before all entries, and what each one keeps, is so of a legal journal
pub legal_induction : (setup : Setup) (P : List Entry → Type 0) → P []
    → ((es : List Entry) (e : Entry) → IsLegal setup es → Meets setup es e → P es → P (es ++ e ∷ []))
    → (journal : List Entry) → IsLegal setup journal → P journal
unfolding AreLegal
legal_induction setup P first step journal h = legal_onward setup P step [] journal tt h first

legal_parts : (setup : Setup) (before xs ys : List Entry) → AreLegal setup before (xs ++ ys)
    → AreLegal setup before xs × AreLegal setup (before ++ xs) ys
unfolding AreLegal
legal_parts setup before [] ys h = (tt, subst (λ (p : List Entry). AreLegal setup p ys) (sym (append-nil before)) h)
legal_parts setup before (x ∷ xs) ys h =
    let rest : AreLegal setup (before ++ x ∷ []) xs × AreLegal setup ((before ++ x ∷ []) ++ xs) ys =
    legal_parts setup (before ++ x ∷ []) xs ys h.1 in
    ((h.0, rest.0), subst (λ (p : List Entry). AreLegal setup p ys) (append_assoc before (x ∷ []) xs) rest.1)

-- a front of a legal journal is legal, and what is behind it may come
pub legal_front : (setup : Setup) (before more : List Entry) → IsLegal setup (before ++ more)
    → IsLegal setup before × AreLegal setup before more
legal_front setup before more h = legal_parts setup [] before more h

-- ---- a group that has settled

-- no more copies are dropped than are let go
pub drops_few : (g : ℕ) (all : List Copy) → drops g all ≤ times g all
drops_few g [] = omega arith
drops_few g (x ∷ xs) =
    omega (
      arith,
      count-cons (is_dropped_of g) x xs,
      count-cons (is_copy_of g) x xs,
      one_less (is_copy_of g x) x.dropped,
      drops_few g xs,
    )
  where
    one_less : (a b : Bool) → one_if (a && b) ≤ one_if a
    one_less true true = omega arith
    one_less true false = omega arith
    one_less false b = omega arith

-- with one entry more it has no copy, and as many of its items are dropped as before
pub record StaysSettled (setup : Setup) (es : List Entry) (e : Entry) (g : ℕ) : Type 0 where
  pub none : copies setup (es ++ e ∷ []) g ≡ 0
  pub marks : count_of_fate is_dropped setup (es ++ e ∷ []) g ≡ count_of_fate is_dropped setup es g

-- a group that began before isn't the next one
other_group : (es : List Entry) (most group : Option ℕ) (g n : ℕ) → group ≡ next_group most es → g < groups es
    → (if is_number g group then n else 0) ≡ 0
other_group es most None g n is low = refl
other_group es None (Some k) g n is low = absurd (let x : Some k ≡ None = is in cc)
other_group es (Some m) (Some k) g n is low =
    let x : Some k ≡ Some (groups es) = is in
    let y : k ≡ groups es = cc in
    ap (λ (b : Bool). if b then n else 0) (differs k g (omega (arith, y, low)))

-- a group without copies isn't that of the item in hand
other_hand : (setup : Setup) (es : List Entry) (group : Option ℕ) (g n : ℕ)
    → ((k : ℕ) → group ≡ Some k → 1 ≤ copies setup es k) → copies setup es g ≡ 0
    → (if is_number g group then n else 0) ≡ 0
other_hand setup es None g n live none = refl
other_hand setup es (Some k) g n live none =
    elim (cases_eq k g) [
      | inl e ↦ (let some : 1 ≤ copies setup es k = live k refl in
          let same : copies setup es k ≡ copies setup es g = ap (copies setup es) e in
          absurd (omega arith))
      | inr d ↦ ap (λ (b : Bool). if b then n else 0) (differs k g d)
    ]

quietly : (setup : Setup) (es : List Entry) (e : Entry) (g : ℕ)
    → copies setup (es ++ e ∷ []) g ≡ copies setup es g
    → count_of_fate is_dropped setup (es ++ e ∷ []) g ≡ count_of_fate is_dropped setup es g
    → copies setup es g ≡ 0 → StaysSettled setup es e g
quietly setup es e g same marks none = record { none = same ∙ none; marks = marks }

pub stays_settled : (setup : Setup) (es : List Entry) (e : Entry) (g : ℕ) → HasSizes setup → IsLegal setup es
    → MeetsLine setup es e → g < groups es → copies setup es g ≡ 0 → StaysSettled setup es e g
stays_settled setup es (Gather input moment pieces refused passed filtered metrics group reports) g sizes h m low
    none =
    quietly setup es _ g
    (omega (
      arith,
      gather_copies setup es input moment pieces refused passed filtered metrics group reports g h m,
      other_group es m.most group g (length metrics) m.group low,
    )) (plain_all setup is_dropped es _ g h m tt) none
stays_settled setup es (Ended input) g sizes h m low none =
    quietly setup es _ g (quiet_copies setup es _ g h m tt) (quiet_fates setup is_dropped es _ g h m tt) none
stays_settled setup es (Take item) g sizes h m low none =
    quietly setup es _ g (quiet_copies setup es _ g h m tt) (quiet_fates setup is_dropped es _ g h m tt) none
stays_settled setup es (Route item whole verdict aggs outs reports) g sizes h m low none =
    let are : (all : List (LaneState (Option ℕ))) × AreMarked setup es all = are_marked setup es sizes h in
    let grp : Option ℕ = (origin_at es item).group in
    let gone : List Copy = routed_copies verdict outs are.0 in
    let counts = route_copies verdict setup es item whole aggs outs reports g are.0 h m are.1 in
    let parts = count-append (is_copy_of g) gone (copy_of false grp) in
    let held = other_hand setup es grp g (comers verdict outs) (λ k of. hand_copies setup es item k h m.held of) none in
    record {
      none = omega (arith, counts, parts, held, none);
      marks = omega (
        arith,
        counts,
        parts,
        held,
        none,
        drops_few g gone,
        (route_all verdict setup es item whole aggs outs reports g are.0 h m are.1).1,
      );
    }
stays_settled setup es (Tick moment all) g sizes h m low none =
    quietly setup es _ g (quiet_copies setup es _ g h m tt) (quiet_fates setup is_dropped es _ g h m tt) none
stays_settled setup es (Stop moment all) g sizes h m low none =
    quietly setup es _ g (quiet_copies setup es _ g h m tt) (quiet_fates setup is_dropped es _ g h m tt) none
stays_settled setup es (Begin output from to) g sizes h m low none =
    let are : (all : List (LaneState (Option ℕ))) × AreMarked setup es all = are_marked setup es sizes h in
    quietly setup es _ g (begin_copies setup es output from to g are.0 h m are.1)
    (begin_all setup is_dropped es output from to g are.0 h m are.1) none
stays_settled setup es (Done output ok reports) g sizes h m low none =
    let are : (all : List (LaneState (Option ℕ))) × AreMarked setup es all = are_marked setup es sizes h in
    let gone : List Copy = done_copies ok (marked_at are.0 output) in
    let counts = done_copies_all setup es output ok reports g are.0 h m are.1 in
    record {
      none = omega (arith, counts, none);
      marks = omega (
        arith,
        counts,
        none,
        drops_few g gone,
        done_dropped_all setup es output ok reports g are.0 h m are.1,
      );
    }

-- ---- sizes

-- a core's outputs have sizes
pub core_has_sizes : (s : CoreState) → IsCore s → HasSizes s.setup
core_has_sizes s core = λ output low.
    let at = core.outputs.each output low in
    (omega (arith, at.batch, at.some), omega (arith, at.batch, at.limit, at.fits))
