-- What a core that stands for a journal knows of groups, with one entry more.
use Rattle.std.proofs.Common.{◌≡◌, ◌⊎◌, ℕ, zero, suc, ◌+◌, Bool, true, false, List, [], ◌∷◌, ◌++◌, length}
use Rattle.std.proofs.Common.{is_some, refl, sym, ap, ◌∙◌, subst, inl, inr, arith, append-nil}
use Rattle.std.proofs.Common.{if◌then◌else◌, cond, ◌&&◌, ◌==◌}
use Rattle.std.specs.List.{All, list_any}
use Rattle.std.specs.Prelude.{slice_get}
use mathlib.Core.Bool.{false≢true}
use Rattle.std.proofs.lemmas.List.{nil_from_length}
use Rattle.std.proofs.lemmas.Option.{get_or_from_slice_get}
use Rattle.std.specs.declared.option.Option.{Option}
use Rattle.std.specs.declared.option.Option.TheVariants.{Some, None}
use Rattle.metric.specs.declared.metric.Content.{Content}
use Rattle.account.specs.Setup.{Setup}
use Rattle.account.specs.Items.{in_hand}
use Rattle.account.specs.Says.{gather_of}
use Rattle.account.specs.Origins.{group_inputs, group_inputs_said, is_number, origin_at}
use Rattle.account.proofs.OriginLemmas.{group_inputs-push}
use Rattle.account.specs.declared.entry.Entry.{Entry}
use Rattle.account.specs.declared.entry.Entry.TheVariants.{Begin, Done, Route}
use Rattle.account.specs.declared.entry.Report.{Report}
use Rattle.account.specs.declared.entry.Verdict.{Verdict}
use Rattle.account.specs.declared.entry.Verdict.TheVariants as verdicts
use Rattle.out_lane.specs.Lane.{LaneState}
use Rattle.track_groups.specs.Settling.{Copy, after_copies, drops, is_dropped_of, reports_with, times}
use Rattle.track_groups.specs.Tracker.{IsTracker, TrackerState}
use Rattle.track_groups.proofs.SettlingLemmas.{after_none, reports_none}
use Rattle.pipeline_core.specs.Fates.{is_dropped}
use Rattle.pipeline_core.specs.Groups.{copies, count_of_fate, is_live, reports_at}
use Rattle.pipeline_core.specs.GroupLaws.{HasSizes}
use Rattle.pipeline_core.specs.Legal.{IsLegal, MeetsLine}
use Rattle.pipeline_core.specs.Tracked.{copy_of, done_copies, held_routed, hold_more, is_tracking, routed_copies}
use Rattle.pipeline_core.specs.Tracked.{tracker_after}
use Rattle.pipeline_core.specs.CoreState.{CoreState, GroupsAgree, IsCore, marked_at}
use Rattle.pipeline_core.specs.Steps.{held_group}
use Rattle.pipeline_core.specs.Stands.{Stands, group_in}
use Rattle.pipeline_core.proofs.GroupLemmas.{no_groups}
use Rattle.pipeline_core.proofs.CopyBounds.{no_copies}
use Rattle.pipeline_core.proofs.CopyCounts.{count-append, count-cons, none_or}
use Rattle.pipeline_core.proofs.CopyGroups.{IsQuiet, begin_copies, done_copies_all, hand_copies, hand_live}
use Rattle.pipeline_core.proofs.CopyGroups.{kept_in_hand, quiet_copies, quiet_fates, route_copies}
use Rattle.pipeline_core.proofs.CopyLanes.{and_false}
use Rattle.pipeline_core.proofs.CopySums.{AreMarked, begin_all, comers, done_dropped_all, route_all}
use Rattle.pipeline_core.proofs.GroupSteps.{core_has_sizes, drops_few}
use Rattle.pipeline_core.proofs.MarkedLanes.{are_marked}
use Rattle.pipeline_core.proofs.MarkingLemmas.{nothing_pushed}
use Rattle.pipeline_core.proofs.TrackerLemmas.{reports_go, tracker_goes}

-- the tracker of a journal is one
pub journal_tracks : (s : CoreState) (journal : List Entry) → GroupsAgree s → Stands s journal →
    IsTracker (tracker_after s.setup journal)
journal_tracks s journal agree h = subst IsTracker h.tracker agree.tracks

any_none : (inputs : List (Option ℕ)) → list_any is_some inputs ≡ false → All (λ (x : Option ℕ). x ≡ None) inputs
any_none [] none k d b = absurd (omega (arith, b))
any_none (None ∷ inputs) none zero d b = refl
any_none (None ∷ inputs) none (suc k) d b = any_none inputs none k d (omega (arith, b))
any_none (Some most ∷ inputs) none k d b = absurd (false≢true (sym none))

-- where no input is tracked there are no groups
pub none_begun : (setup : Setup) (journal : List Entry) → IsLegal setup journal → is_tracking setup ≡ false →
    group_inputs journal ≡ []
none_begun setup journal legal none = no_groups setup [] journal (any_none setup.inputs none) legal

-- the groups at the outputs are known, or there are none
pub known_marks : (s : CoreState) (journal : List Entry) → Stands s journal →
    AreMarked s.setup journal s.marked ⊎ ((s.marked ≡ []) × (group_inputs journal ≡ []))
known_marks s journal h = go (is_tracking s.setup) refl
  where
    go : (b : Bool) → is_tracking s.setup ≡ b →
        AreMarked s.setup journal s.marked ⊎ ((s.marked ≡ []) × (group_inputs journal ≡ []))
    go true e =
        let many : length s.marked ≡ length s.setup.outputs =
        h.mark_count ∙ ap (λ (t : Bool). if t then length s.setup.outputs else 0) e in
        inl (record { as_many = many; each = λ o b. h.marked o (omega (arith, b, many)) })
    go false e =
        inr (
          nil_from_length s.marked (h.mark_count ∙ ap (λ (t : Bool). if t then length s.setup.outputs else 0) e),
          none_begun s.setup journal h.legal e,
        )

-- an entry by which these copies are held and those are let go
pub record Lets (setup : Setup) (es : List Entry) (e : Entry) (grp : Option ℕ) (more : ℕ) (gone : List Copy)
    : Type 0 where
  pub same : group_inputs (es ++ e ∷ []) ≡ group_inputs es
  pub counts : (g : ℕ) → copies setup (es ++ e ∷ []) g + times g gone ≡ copies setup es g
      + (if is_number g grp then more else 0)
  pub dropped : (g : ℕ) → count_of_fate is_dropped setup (es ++ e ∷ []) g ≡ count_of_fate is_dropped setup es g
      + drops g gone
  pub known : (g : ℕ) → grp ≡ Some g → (is_live setup es g ≡ true) ⊎ (more ≡ 0)

pub lets_tracker : (setup : Setup) (es : List Entry) (e : Entry) (grp : Option ℕ) (more : ℕ) (gone : List Copy) →
    Lets setup es e grp more gone →
    tracker_after setup (es ++ e ∷ []) ≡ after_copies (hold_more (tracker_after setup es) grp more) gone
lets_tracker setup es e grp more gone l = tracker_goes setup es e grp more gone l.same l.counts l.dropped l.known

pub lets_reports : (setup : Setup) (es : List Entry) (e : Entry) (grp : Option ℕ) (more : ℕ) (gone : List Copy) →
    Lets setup es e grp more gone →
    reports_at setup es e ≡ reports_with (hold_more (tracker_after setup es) grp more) gone
lets_reports setup es e grp more gone l = reports_go setup es e grp more gone l.same l.counts l.dropped l.known

-- an entry that begins no group
pub begins_none : (es : List Entry) (e : Entry) → group_inputs_said (gather_of e) ≡ [] →
    group_inputs (es ++ e ∷ []) ≡ group_inputs es
begins_none es e none =
    group_inputs-push es e ∙ ap (λ (xs : List ℕ). group_inputs es ++ xs) none ∙ append-nil (group_inputs es)

-- one that has no part in items and outputs
pub quiet_lets : (setup : Setup) (es : List Entry) (e : Entry) → IsLegal setup es → MeetsLine setup es e →
    IsQuiet e → group_inputs_said (gather_of e) ≡ [] → Lets setup es e None 0 []
quiet_lets setup es e legal line quiet none = record {
  same = begins_none es e none;
  counts = λ g. omega (arith, quiet_copies setup es e g legal line quiet);
  dropped = λ g. omega (arith, quiet_fates setup is_dropped es e g legal line quiet);
  known = λ g is. inr refl;
}

pub begin_lets : (setup : Setup) (es : List Entry) (o from to : ℕ) → HasSizes setup → IsLegal setup es →
    MeetsLine setup es (Begin o from to) → Lets setup es (Begin o from to) None 0 []
begin_lets setup es o from to sizes legal line =
    let lanes = are_marked setup es sizes legal in
    record {
      same = begins_none es (Begin o from to) refl;
      counts = λ g. omega (arith, begin_copies setup es o from to g lanes.0 legal line lanes.1);
      dropped = λ g. omega (arith, begin_all setup is_dropped es o from to g lanes.0 legal line lanes.1);
      known = λ g is. inr refl;
    }

-- nothing is told by an entry that holds nothing and lets nothing go
pub stays_tracker : (s : CoreState) (journal : List Entry) (e : Entry) → GroupsAgree s → Stands s journal →
    Lets s.setup journal e None 0 [] → s.tracker ≡ tracker_after s.setup (journal ++ e ∷ [])
stays_tracker s journal e agree h l =
    h.tracker ∙ sym (after_none (tracker_after s.setup journal) (journal_tracks s journal agree h))
    ∙ sym (lets_tracker s.setup journal e None 0 [] l)

pub stays_silent : (s : CoreState) (journal : List Entry) (e : Entry) → GroupsAgree s → Stands s journal →
    Lets s.setup journal e None 0 [] → [] ≡ reports_at s.setup journal e
stays_silent s journal e agree h l =
    sym (reports_none (tracker_after s.setup journal) (journal_tracks s journal agree h))
    ∙ sym (lets_reports s.setup journal e None 0 [] l)

-- the group of the item in hand
pub hand_group : (s : CoreState) (journal : List Entry) (item : ℕ) → Stands s journal → s.held ≡ Some item →
    held_group s ≡ (origin_at journal item).group
hand_group s journal item h held =
    get_or_from_slice_get s.groups 0 (origin_at journal item).group None
    (ap (λ (xs : List (Option ℕ)). slice_get xs 0) h.groups
    ∙ kept_in_hand group_in s.setup journal item h.legal (sym h.held ∙ held))

-- where there are no groups the item in hand has none
no_hand : (setup : Setup) (es : List Entry) (item : ℕ) → IsLegal setup es → in_hand es ≡ Some item →
    group_inputs es ≡ [] → (origin_at es item).group ≡ None
no_hand setup es item legal held none = go (origin_at es item).group refl
  where
    go : (o : Option ℕ) → (origin_at es item).group ≡ o → o ≡ None
    go None e = refl
    go (Some g) e =
        absurd (omega (
          arith,
          hand_copies setup es item g legal held e,
          no_copies setup es g legal (omega (arith, ap length none)),
        ))

-- the group whose copies a routed item's views are
abbrev pub shown_group : Verdict → Option ℕ → Option ℕ
shown_group verdicts.Passes grp = grp
shown_group _ grp = None

pub held_so : (verdict : Verdict) (state : TrackerState) (grp : Option ℕ) (outs : List (Option Content)) →
    hold_more state (shown_group verdict grp) (comers verdict outs) ≡ held_routed state grp verdict outs
held_so verdicts.Passes state grp outs = refl
held_so verdicts.Consumed state grp outs = refl
held_so verdicts.Late state grp outs = refl
held_so verdicts.Removed state grp outs = refl

shown_counts : (verdict : Verdict) (g : ℕ) (grp : Option ℕ) (outs : List (Option Content)) →
    (if is_number g grp then comers verdict outs else 0) ≡ (if is_number g (shown_group verdict grp) then comers verdict
    outs else 0)
shown_counts verdicts.Passes g grp outs = refl
shown_counts verdicts.Consumed g grp outs = none_or (is_number g grp) 0
shown_counts verdicts.Late g grp outs = none_or (is_number g grp) 0
shown_counts verdicts.Removed g grp outs = none_or (is_number g grp) 0

shown_known : (verdict : Verdict) (P : ℕ → Type 0) (grp : Option ℕ) (outs : List (Option Content)) →
    ((g : ℕ) → grp ≡ Some g → P g) → (g : ℕ) → shown_group verdict grp ≡ Some g → P g ⊎ (comers verdict outs ≡ 0)
shown_known verdicts.Passes P grp outs h g is = inl (h g is)
shown_known verdicts.Consumed P grp outs h g is = inr refl
shown_known verdicts.Late P grp outs h g is = inr refl
shown_known verdicts.Removed P grp outs h g is = inr refl

none_pushed : (verdict : Verdict) (outs : List (Option Content)) → routed_copies verdict outs [] ≡ []
none_pushed verdicts.Passes outs = nothing_pushed outs
none_pushed verdicts.Consumed outs = refl
none_pushed verdicts.Late outs = refl
none_pushed verdicts.Removed outs = refl

drops-append : (g : ℕ) (xs ys : List Copy) → drops g (xs ++ ys) ≡ drops g xs + drops g ys
drops-append g xs ys = count-append (is_dropped_of g) xs ys

-- a copy that is let go and wasn't dropped
kept_one : (g : ℕ) (grp : Option ℕ) → drops g (copy_of false grp) ≡ 0
kept_one g None = refl
kept_one g (Some h) =
    let none : cond {A = ℕ} (h == g && false) 1 0 ≡ 0 = ap (λ (b : Bool). cond {A = ℕ} b 1 0) (and_false (h == g)) in
    omega (arith, count-cons (is_dropped_of g) (record { group = h; dropped = false }) [])

module _ (verdict : Verdict) (setup : Setup) (es : List Entry) (item : ℕ) (whole : Option Content)
    (aggs outs : List (Option Content)) (reports : List Report) (legal : IsLegal setup es)
    (line : MeetsLine setup es (Route item whole verdict aggs outs reports)) where
  -- an item is routed where the groups at the outputs are known
  pub route_known : (all : List (LaneState (Option ℕ))) → AreMarked setup es all →
      Lets setup es (Route item whole verdict aggs outs reports) (shown_group verdict (origin_at es item).group)
      (comers verdict outs) (routed_copies verdict outs all ++ copy_of false (origin_at es item).group)
  route_known all marked = record {
    same = begins_none es (Route item whole verdict aggs outs reports) refl;
    counts =
        λ g. route_copies verdict setup es item whole aggs outs reports g all legal line marked
        ∙ ap (λ (n : ℕ). copies setup es g + n) (shown_counts verdict g (origin_at es item).group outs);
    dropped = λ g. omega (
      arith,
      (route_all verdict setup es item whole aggs outs reports g all legal line marked).1,
      drops-append g (routed_copies verdict outs all) (copy_of false (origin_at es item).group),
      kept_one g (origin_at es item).group,
    );
    known = shown_known verdict (λ g. is_live setup es g ≡ true) (origin_at es item).group outs
        (λ g is. hand_live setup es item g legal line.held is);
  }

  -- and where there are none
  pub route_none : HasSizes setup → group_inputs es ≡ [] →
      Lets setup es (Route item whole verdict aggs outs reports) (shown_group verdict (origin_at es item).group)
      (comers verdict outs) (routed_copies verdict outs [] ++ copy_of false (origin_at es item).group)
  route_none sizes none =
      let lanes = are_marked setup es sizes legal in
      let known = route_known lanes.0 lanes.1 in
      let no_grp : (origin_at es item).group ≡ None = no_hand setup es item legal line.held none in
      let gone : routed_copies verdict outs [] ++ copy_of false (origin_at es item).group ≡ [] =
      ap (λ (xs : List Copy). xs ++ copy_of false (origin_at es item).group) (none_pushed verdict outs)
      ∙ ap (copy_of false) no_grp in
      let all : List Copy = routed_copies verdict outs lanes.0 ++ copy_of false (origin_at es item).group in
      record {
        same = known.same;
        counts = λ g. (let zero_if : (if is_number g (shown_group verdict (origin_at es item).group)
            then comers verdict outs else 0) ≡ 0 = sym (shown_counts verdict g (origin_at es item).group outs)
            ∙ ap (λ (o : Option ℕ). if is_number g o then comers verdict outs else 0) no_grp in
            omega (
              arith,
              known.counts g,
              no_copies setup es g legal (omega (arith, ap length none)),
              ap
                  (times g) gone,
            ));
        dropped = λ g. (let zero_if : (if is_number g (shown_group verdict (origin_at es item).group)
            then comers verdict outs else 0) ≡ 0 = sym (shown_counts verdict g (origin_at es item).group outs)
            ∙ ap (λ (o : Option ℕ). if is_number g o then comers verdict outs else 0) no_grp in
            omega (
              arith,
              known.counts g,
              known.dropped g,
              no_copies setup es g legal (omega (arith, ap length none)),
              drops_few g all,
              ap (drops g) gone,
            ));
        known = known.known;
      }

-- and of a batch that is done
pub done_known : (setup : Setup) (es : List Entry) (o : ℕ) (ok : Bool) (reports : List Report)
    (all : List (LaneState (Option ℕ))) → IsLegal setup es → MeetsLine setup es (Done o ok reports) →
    AreMarked setup es all → Lets setup es (Done o ok reports) None 0 (done_copies ok (marked_at all o))
done_known setup es o ok reports all legal line marked = record {
  same = begins_none es (Done o ok reports) refl;
  counts = λ g. omega (arith, done_copies_all setup es o ok reports g all legal line marked);
  dropped = λ g. done_dropped_all setup es o ok reports g all legal line marked;
  known = λ g is. inr refl;
}

none_leaves : (ok : Bool) (o : ℕ) → done_copies ok (marked_at [] o) ≡ []
none_leaves true o = refl
none_leaves false o = refl

pub done_none : (setup : Setup) (es : List Entry) (o : ℕ) (ok : Bool) (reports : List Report) → HasSizes setup →
    IsLegal setup es → MeetsLine setup es (Done o ok reports) → group_inputs es ≡ [] →
    Lets setup es (Done o ok reports) None 0 (done_copies ok (marked_at [] o))
done_none setup es o ok reports sizes legal line none =
    let lanes = are_marked setup es sizes legal in
    let known = done_known setup es o ok reports lanes.0 legal line lanes.1 in
    record {
      same = known.same;
      counts = λ g. omega (
        arith,
        known.counts g,
        no_copies setup es g legal (omega (arith, ap length none)),
        ap (times g) (none_leaves ok o),
      );
      dropped = λ g. omega (
        arith,
        known.counts g,
        known.dropped g,
        no_copies setup es g legal (omega (arith, ap length none)),
        drops_few g (done_copies ok (marked_at lanes.0 o)),
        ap (drops g) (none_leaves ok o),
      );
      known = λ g is. inr refl;
    }

-- a core that stands for a journal routes an item
pub route_lets : (s : CoreState) (journal : List Entry) (item : ℕ) (whole : Option Content) (verdict : Verdict)
    (aggs outs : List (Option Content)) (reports : List Report) → IsCore s → Stands s journal →
    MeetsLine s.setup journal (Route item whole verdict aggs outs reports) → s.held ≡ Some item →
    Lets s.setup journal (Route item whole verdict aggs outs reports) (shown_group verdict (held_group s))
    (comers verdict outs) (routed_copies verdict outs s.marked ++ copy_of false (held_group s))
route_lets s journal item whole verdict aggs outs reports core h line held =
    subst (λ (grp : Option ℕ). Lets s.setup journal (Route item whole verdict aggs outs reports)
    (shown_group verdict grp) (comers verdict outs) (routed_copies verdict outs s.marked ++ copy_of false grp))
    (sym (hand_group s journal item h held))
    (elim (known_marks s journal h) [
      | inl all ↦ route_known verdict s.setup journal item whole aggs outs reports h.legal line s.marked all
      | inr none ↦ subst (λ (all : List (LaneState (Option ℕ))). Lets s.setup journal
          (Route item whole verdict aggs outs reports) (shown_group verdict (origin_at journal item).group)
          (comers verdict outs) (routed_copies verdict outs all ++ copy_of false (origin_at journal item).group))
          (sym none.0)
          (route_none verdict s.setup journal item whole aggs outs reports h.legal line (core_has_sizes s core) none.1)
    ])

-- and ends a batch
pub done_lets : (s : CoreState) (journal : List Entry) (o : ℕ) (ok : Bool) (reports : List Report) → IsCore s →
    Stands s journal → MeetsLine s.setup journal (Done o ok reports) →
    Lets s.setup journal (Done o ok reports) None 0 (done_copies ok (marked_at s.marked o))
done_lets s journal o ok reports core h line =
    elim (known_marks s journal h) [
      | inl all ↦ done_known s.setup journal o ok reports s.marked h.legal line all
      | inr none ↦ subst (λ (all : List (LaneState (Option ℕ))). Lets s.setup journal (Done o ok reports) None 0
          (done_copies ok (marked_at all o))) (sym none.0)
          (done_none s.setup journal o ok reports (core_has_sizes s core) h.legal line none.1)
    ]
