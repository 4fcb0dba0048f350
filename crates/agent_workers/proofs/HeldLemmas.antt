-- Since a journal last came on: how many batches failed, and how many groups of an input are live.
use Rattle.std.proofs.Common.{◌≡◌, ◌<◌, ◌≤◌, ℕ, zero, suc, ℤ, ◌+◌, ◌-◌, ◌&&◌, Bool, true, false, not, List, [], ◌∷◌}
use Rattle.std.proofs.Common.{◌++◌, length, map, take, drop, get_or, if◌then◌else◌, refl, ap, sym, ◌∙◌, arith, subst}
use Rattle.std.proofs.Common.{append-nil, append_assoc, inl, inr, length-drop}
use mathlib.Core.Bool.{false≢true}
use Rattle.std.specs.Prelude.{◌==◌, IfSome, slice_get, slice_set}
use Rattle.std.specs.List.{count_by, enumerate_from, sum_by}
use Rattle.std.proofs.lemmas.Bool.{cases_eq, cases_lt}
use Rattle.std.proofs.lemmas.List.{get_or-set_same, get_or_past, nil_from_length, set_past, take-append-drop}
use Rattle.std.proofs.lemmas.List.Sums.{sum_by-cons}
use Rattle.std.specs.declared.option.Option.{Option}
use Rattle.std.specs.declared.option.Option.TheVariants.{Some, None}
use Rattle.metric.specs.declared.metric.Content.{Content}
use Rattle.account.specs.Items.{in_hand, items, raw_items, routes, taken}
use Rattle.account.specs.Numbers.{Numbers, output_numbers}
use Rattle.account.specs.Origins.{group_inputs, is_of_group, origin_at, origins, unrouted}
use Rattle.account.specs.Says.{GatherSays, gather_of}
use Rattle.account.specs.Setup.{Setup}
use Rattle.account.specs.declared.entry.Entry.{Entry}
use Rattle.account.specs.declared.entry.Entry.TheVariants.{Gather, Ended, Take, Route, Tick, Stop, Begin, Done}
use Rattle.account.specs.declared.entry.Report.{Report}
use Rattle.account.specs.declared.numbers.OutputNumbers.{OutputNumbers}
use Rattle.account.proofs.OriginLemmas.{origins-match}
use Rattle.out_lane.specs.Lane.{LaneState, empty_lane, failed_out}
use Rattle.out_lane.specs.Lane as lane
use Rattle.out_lane.specs.LaneEvents.{Ranges, ranges_of}
use Rattle.out_lane.specs.LaneLaws.{IsLaneAt, oldest_waiting}
use Rattle.track_groups.specs.Settling.{after_copies}
use Rattle.track_groups.specs.Tracker.{TrackerState, live_of}
use Rattle.track_groups.specs.declared.group.LiveGroup.{LiveGroup}
use Rattle.pipeline_core.specs.CoreState.{CoreState, marked_at, sizes_at}
use Rattle.pipeline_core.specs.Fates.{Fate, ItemFate, is_buffered, is_dropped, item_fates}
use Rattle.pipeline_core.specs.GroupLaws.{HasSizes}
use Rattle.pipeline_core.specs.Groups.{copies, count_of_fate, is_live, is_of_fate, live_count}
use Rattle.pipeline_core.specs.Legal.{AreLegal, IsLegal, Meets, MeetsGather, MeetsLine}
use Rattle.pipeline_core.specs.Offers.{lane_events}
use Rattle.pipeline_core.specs.Stands.{HasJournal, Stands}
use Rattle.pipeline_core.specs.Steps.{after_begin, after_done}
use Rattle.pipeline_core.specs.Totals.{group_count, totals}
use Rattle.pipeline_core.specs.Tracked.{copies_in, marks, tracker_after}
use Rattle.pipeline_core.proofs.CopyCounts.{count-append, count-cons}
use Rattle.pipeline_core.proofs.CopyLanes.{and_false}
use Rattle.pipeline_core.proofs.CopySteps.{one_if}
use Rattle.pipeline_core.proofs.GroupSteps.{legal_front, legal_induction}
use Rattle.pipeline_core.proofs.GroupTotals.{begun_by, begun_said, reports_counted}
use Rattle.pipeline_core.proofs.JournalPush.{IsLegal-push}
use Rattle.pipeline_core.proofs.Keeping.{differs}
use Rattle.pipeline_core.proofs.RouteLemmas.{hand_fits, HandFits}
use Rattle.pipeline_core.proofs.TotalPush.{outputs-at}
use Rattle.pipeline_core.proofs.TrackerLemmas.{live_of_tracker, rows_after}
use Rattle.agent_workers.specs.Held.{AreStill, comes_on, has_failed, HasFailed, IsHeldBack}
use Rattle.agent_workers.specs.Running.{IsAtLimit}

-- ---- how many batches failed

-- none, at least, failed since now
pub failed_none : (journal : List Entry) → HasFailed 0 journal
failed_none journal = record {
  before = journal;
  stretch = [];
  are = sym (append-nil journal);
  still = tt;
  failed = omega arith;
}

-- where so many failed, fewer did
pub failed_fewer : (few many : ℕ) (journal : List Entry) → few ≤ many → HasFailed many journal → HasFailed few journal
failed_fewer few many journal less h = record {
  before = h.before;
  stretch = h.stretch;
  are = h.are;
  still = h.still;
  failed = omega (arith, h.failed, less);
}

still-push : (es : List Entry) (e : Entry) → comes_on e ≡ false → AreStill es → AreStill (es ++ e ∷ [])
still-push [] e none h = (none, tt)
still-push (x ∷ es) e none h = (h.0, still-push es e none h.1)

longer : (journal before stretch : List Entry) (e : Entry) → journal ≡ before ++ stretch
    → journal ++ e ∷ [] ≡ before ++ (stretch ++ e ∷ [])
longer journal before stretch e are =
    ap (λ (es : List Entry). es ++ e ∷ []) are ∙ append_assoc before stretch (e ∷ [])

-- as many failed with an entry more, with which nothing comes on
pub failed_quiet : (count : ℕ) (journal : List Entry) (e : Entry) → comes_on e ≡ false → has_failed e ≡ false
    → HasFailed count journal → HasFailed count (journal ++ e ∷ [])
failed_quiet count journal e still none h = record {
  before = h.before;
  stretch = h.stretch ++ e ∷ [];
  are = longer journal h.before h.stretch e h.are;
  still = still-push h.stretch e still h.still;
  failed = omega (arith, h.failed, count-append has_failed h.stretch (e ∷ []));
}

-- and one more with a batch that failed
pub failed_more : (count : ℕ) (journal : List Entry) (output : ℕ) (reports : List Report) → HasFailed count journal
    → HasFailed (count + 1) (journal ++ Done output false reports ∷ [])
failed_more count journal output reports h =
    let e : Entry = Done output false reports in
    record {
      before = h.before;
      stretch = h.stretch ++ e ∷ [];
      are = longer journal h.before h.stretch e h.are;
      still = still-push h.stretch e refl h.still;
      failed = omega (
        arith,
        h.failed,
        count-append has_failed h.stretch (e ∷ []),
        count-cons has_failed e [],
      );
    }

-- ---- sizes

-- a core that stands for a journal has sizes at each output
pub sizes_of : (core : CoreState) (journal : List Entry) → Stands core journal → HasSizes core.setup
sizes_of core journal stands = λ output low. let at = stands.lanes output low in (at.some, at.fits)

-- ---- a batch that fails at once

-- where no copies go the groups of a journal stay
none_gone : (setup : Setup) (es : List Entry) → after_copies (tracker_after setup es) [] ≡ tracker_after setup es
unfolding tracker_after
none_gone setup es =
    let c : ℕ → ℕ = copies setup es in
    let d : ℕ → ℕ = count_of_fate is_dropped setup es in
    ap (λ (live : List LiveGroup). record (tracker_after setup es) { live = live })
    (sym (rows_after c c d d [] None 0 (λ g. refl) (λ g. omega arith)
    (λ g is. absurd (let x : None ≡ Some g = is in cc)) (enumerate_from 0 (group_inputs es))))

-- a lane that stands has no more waiting than may wait
waits_few : {X : Type 0} (batch limit : ℕ) (ranges : Ranges) (xs : List X) (x : LaneState X)
    → IsLaneAt batch limit ranges xs x → length x.waiting ≤ x.limit
waits_few batch limit ranges xs x at =
    omega (
      arith,
      at.limit,
      ap length at.waiting,
      length-drop (oldest_waiting limit ranges) xs,
      at.offered,
    )

-- the batch that such a lane begins leaves it room for what fails
begun_out : {X : Type 0} (x : LaneState X) → length x.waiting ≤ x.limit → failed_out (lane.after_begin x) ≡ []
begun_out {X} x few =
    let none : length x.waiting - x.limit ≡ 0 = omega (arith, few) in
    ap (λ (all : List X). take (length all - x.limit) all) (take-append-drop x.batch x.waiting)
    ∙ ap (λ (n : ℕ). take n x.waiting) none

-- a batch that fails, as it was begun, lets nothing leave its output
none_out : (core : CoreState) (output : ℕ) → HasJournal core →
    failed_out (marked_at (slice_set core.marked output (lane.after_begin (marked_at core.marked output))) output) ≡ []
none_out core output h =
    let old : LaneState (Option ℕ) = marked_at core.marked output in
    let new : LaneState (Option ℕ) = lane.after_begin old in
    elim (cases_lt output (length core.marked)) [
      | inl low ↦
          ap failed_out (get_or-set_same core.marked output new (empty_lane 0 0) low)
          ∙ begun_out old (waits_few (sizes_at core.setup output).0 (sizes_at core.setup output).1
          (ranges_of (lane_events output h.journal)) (marks output h.journal) old (h.stands.marked output low).state)
      | inr high ↦
          ap (λ (all : List (LaneState (Option ℕ))). failed_out (marked_at all output))
          (set_past core.marked output new high)
          ∙ ap failed_out (get_or_past core.marked output (empty_lane 0 0) high)
    ]

-- as a batch fails that was begun just now, no copy of a group goes
pub nothing_dropped : (core mid next : CoreState) (output from to : ℕ) → HasJournal core
    → mid ≡ after_begin core output from to → next ≡ after_done mid output false → next.tracker ≡ core.tracker
nothing_dropped core mid next output from to h begun done =
    ap (λ (s : CoreState). s.tracker) done
    ∙ ap (λ (s : CoreState). after_copies s.tracker (copies_in true (failed_out (marked_at s.marked output)))) begun
    ∙ ap (λ (all : List (Option ℕ)). after_copies core.tracker (copies_in true all)) (none_out core output h)
    ∙ ap (λ (tracker : TrackerState). after_copies tracker []) h.stands.tracker
    ∙ none_gone core.setup h.journal
    ∙ sym h.stands.tracker

-- ---- how many groups are live

-- with an entry that is no Gather no more are live than before
pub never_rises : (setup : Setup) (es : List Entry) (e : Entry) (input : ℕ) → HasSizes setup → IsLegal setup es
    → Meets setup es e → gather_of e ≡ None → live_count setup (es ++ e ∷ []) input ≤ live_count setup es input
never_rises setup es e input sizes h m none =
    let begun : begun_by input e ≡ 0 = ap (begun_said input) none in
    omega (arith, reports_counted setup es e input sizes h m.line, begun)

few_begun : (group : Option ℕ) → group_count group ≤ 1
few_begun None = omega arith
few_begun (Some number) = omega arith

-- a Gather begins a group only where fewer are live than may be
gather_few : (setup : Setup) (es : List Entry) (input most : ℕ) (says : GatherSays)
    → slice_get setup.inputs input ≡ Some (Some most) → MeetsGather setup es says → live_count setup es input ≤ most
    → live_count setup es input + begun_said input (Some says) ≤ most
gather_few setup es input most says tracked m low =
    elim (cases_eq says.input input) [
      | inl e ↦
          (let known : slice_get setup.inputs input ≡ Some m.most =
          subst (λ (k : ℕ). slice_get setup.inputs k ≡ Some m.most) e m.known in
          let same : m.most ≡ Some most = cc in
          let few : live_count setup es says.input < most =
          subst (λ (o : Option ℕ). IfSome o (λ k. live_count setup es says.input < k)) same m.few in
          let here : live_count setup es says.input ≡ live_count setup es input = ap (live_count setup es) e in
          omega (arith, few, here, few_if (says.input == input) says.group))
      | inr d ↦
          (let none : begun_said input (Some says) ≡ 0 =
          ap (λ (b : Bool). if b then group_count says.group else 0) (differs says.input input d) in
          omega (arith, low, none))
    ]
  where
    few_if : (b : Bool) (group : Option ℕ) → (if b then group_count group else 0) ≤ 1
    few_if true group = few_begun group
    few_if false group = omega arith

begins_few : (setup : Setup) (es : List Entry) (e : Entry) (input most : ℕ)
    → slice_get setup.inputs input ≡ Some (Some most) → MeetsLine setup es e → live_count setup es input ≤ most
    → live_count setup es input + begun_by input e ≤ most
begins_few setup es (Gather number moment pieces refused passed filtered metrics group reports) input most tracked m
    low = gather_few setup es input most _ tracked m low
begins_few setup es (Ended number) input most tracked m low = omega (arith, low)
begins_few setup es (Take item) input most tracked m low = omega (arith, low)
begins_few setup es (Route item whole verdict aggs outs reports) input most tracked m low = omega (arith, low)
begins_few setup es (Tick moment made) input most tracked m low = omega (arith, low)
begins_few setup es (Stop moment made) input most tracked m low = omega (arith, low)
begins_few setup es (Begin output from to) input most tracked m low = omega (arith, low)
begins_few setup es (Done output ok reports) input most tracked m low = omega (arith, low)

none_first : (setup : Setup) (input most : ℕ) → live_count setup [] input ≤ most
unfolding group_inputs
none_first setup input most = omega arith

-- in a legal journal no more groups of an input are live than may be
pub stays_below : (setup : Setup) (journal : List Entry) (input most : ℕ) → HasSizes setup → IsLegal setup journal
    → slice_get setup.inputs input ≡ Some (Some most) → live_count setup journal input ≤ most
stays_below setup journal input most sizes legal tracked =
    legal_induction setup (λ (es : List Entry). live_count setup es input ≤ most) (none_first setup input most)
    (λ es e h m low. omega (
      arith,
      reports_counted setup es e input sizes h m.line,
      begins_few setup es e input most tracked m.line low,
    )) journal legal

-- an entry with which nothing comes on is no Gather
still_none : (e : Entry) → comes_on e ≡ false → gather_of e ≡ None
still_none (Gather input moment pieces refused passed filtered metrics group reports) still =
    absurd (false≢true (sym still))
still_none (Ended input) still = refl
still_none (Take item) still = refl
still_none (Route item whole verdict aggs outs reports) still = refl
still_none (Tick moment made) still = refl
still_none (Stop moment made) still = refl
still_none (Begin output from to) still = refl
still_none (Done output ok reports) still = refl

-- behind entries with which nothing comes on no more groups are live than before them
falls : (setup : Setup) (before stretch : List Entry) (input : ℕ) → HasSizes setup → IsLegal setup before
    → AreLegal setup before stretch → AreStill stretch
    → live_count setup (before ++ stretch) input ≤ live_count setup before input
unfolding AreLegal
falls setup before [] input sizes h more still =
    omega (arith, ap (λ (es : List Entry). live_count setup es input) (append-nil before))
falls setup before (e ∷ stretch) input sizes h more still =
    omega (
      arith,
      ap (λ (es : List Entry). live_count setup es input) (append_assoc before (e ∷ []) stretch),
      never_rises setup before e input sizes h more.0 (still_none e still.0),
      falls setup (before ++ e ∷ []) stretch input sizes (IsLegal-push setup before e h more.0) more.1 still.1,
    )

still-drop : (n : ℕ) (es : List Entry) → AreStill es → AreStill (drop n es)
still-drop zero es still = still
still-drop (suc n) [] still = still
still-drop (suc n) (e ∷ es) still = still-drop n es still.1

-- where as many groups are live at the end of such entries as may be, as many are all along
pub all_along : (setup : Setup) (before stretch : List Entry) (input most : ℕ) → HasSizes setup
    → IsLegal setup (before ++ stretch) → slice_get setup.inputs input ≡ Some (Some most) → AreStill stretch
    → most ≤ live_count setup (before ++ stretch) input → (n : ℕ) → n ≤ length stretch
    → live_count setup (before ++ take n stretch) input ≡ most
all_along setup before stretch input most sizes legal tracked still full n within =
    let front : List Entry = before ++ take n stretch in
    let whole : before ++ stretch ≡ front ++ drop n stretch =
    ap (λ (es : List Entry). before ++ es) (sym (take-append-drop n stretch))
    ∙ sym (append_assoc before (take n stretch) (drop n stretch)) in
    let parts : IsLegal setup front × AreLegal setup front (drop n stretch) =
    legal_front setup front (drop n stretch) (subst (IsLegal setup) whole legal) in
    omega (
      arith,
      full,
      ap (λ (es : List Entry). live_count setup es input) whole,
      falls setup front (drop n stretch) input sizes parts.0 parts.1 (still-drop n stretch still),
      stays_below setup front input most sizes parts.0 tracked,
    )

-- ---- why a run stops

-- Where so many batches failed since a journal came on, and an input has as many live groups as may be, its Stop finds
-- the input held back.
pub held_back : (tries count : ℕ) (core : CoreState) (journal : List Entry) (input : ℕ) (moment : ℤ)
    (made : List Content) (behind : List Entry) → Stands core journal → IsAtLimit core input → HasFailed count journal
    → tries ≤ count → IsHeldBack tries core.setup (journal ++ Stop moment made ∷ behind) input
held_back tries count core journal input moment made behind stands at h many =
    let live : live_of core.tracker input ≡ live_count core.setup journal input =
    ap (λ (tracker : TrackerState). live_of tracker input) stands.tracker ∙ live_of_tracker core.setup journal input in
    let same : live_count core.setup journal input ≡ live_count core.setup (h.before ++ h.stretch) input =
    ap (λ (es : List Entry). live_count core.setup es input) h.are in
    record {
      most = at.most;
      tracked = at.tracked;
      before = h.before;
      stretch = h.stretch;
      moment = moment;
      made = made;
      behind = behind;
      are = ap (λ (es : List Entry). es ++ Stop moment made ∷ behind) h.are
          ∙ append_assoc h.before h.stretch (Stop moment made ∷ behind);
      still = h.still;
      failed = omega (arith, h.failed, many);
      full = all_along core.setup h.before h.stretch input at.most (sizes_of core journal stands)
          (subst (IsLegal core.setup) h.are stands.legal) at.tracked h.still (omega (arith, at.full, live, same));
    }

-- ---- where nothing waits anywhere

as_many : (held : Option ℕ) (routed fetched : ℕ) → HandFits held routed fetched → held ≡ None → routed ≡ fetched
as_many None routed fetched h is = h
as_many (Some item) routed fetched h is = absurd (let x : Some item ≡ None = is in cc)

-- where nothing is raw or in hand no item is without a Route
pub none_unrouted : (setup : Setup) (journal : List Entry) → IsLegal setup journal → raw_items journal ≡ []
    → in_hand journal ≡ None → unrouted journal ≡ []
none_unrouted setup journal legal raw held =
    let routed : routes journal ≡ taken journal = as_many (in_hand journal) (routes journal) (taken journal)
    (hand_fits setup journal legal) held in
    let none : length (raw_items journal) ≡ 0 = ap (λ (xs : List Content). length xs) raw in
    nil_from_length (unrouted journal) (omega (
      arith,
      length-drop (routes journal) (origins journal),
      length-drop (taken journal) (items journal),
      origins-match journal,
      routed,
      none,
    ))

-- no more items of a group have such a fate than items do
few_of : (test : Fate → Bool) (es : List Entry) (g : ℕ) (all : List ItemFate)
    → count_by (is_of_fate test es g) all ≤ count_by test (map (λ (x : ItemFate). x.fate) all)
few_of test es g [] = omega arith
few_of test es g (x ∷ all) =
    omega (
      arith,
      count-cons (is_of_fate test es g) x all,
      count-cons test x.fate (map (λ (y : ItemFate). y.fate) all),
      one_less (test x.fate) (is_of_group g (origin_at es x.item)),
      few_of test es g all,
    )
  where
    one_less : (a b : Bool) → one_if (a && b) ≤ one_if a
    one_less true true = omega arith
    one_less true false = omega arith
    one_less false b = omega arith

-- where each output has none there are none in all
none_summed : (f : ℕ × (ℕ × ℕ) → ℕ) (k : ℕ) (sizes : List (ℕ × ℕ))
    → ((i n : ℕ) → n ≡ k + i → i < length sizes → f (n, get_or sizes i (0, 0)) ≡ 0)
    → sum_by f (enumerate_from k sizes) ≡ 0
none_summed f k [] h = refl
none_summed f k (x ∷ sizes) h =
    let first : f (k, x) ≡ 0 = h 0 k (omega arith) (omega arith) in
    omega (
      arith,
      sum_by-cons f (k, x) (enumerate_from (k + 1) sizes),
      none_summed f (k + 1) sizes (λ i n e l. h (suc i) n (omega (arith, e)) (omega (arith, l))),
    )

none_counted : {X : Type 0} (w : X → Bool) (xs : List X) → ((x : X) → w x ≡ false) → count_by w xs ≡ 0
none_counted w [] h = refl
none_counted w (x ∷ xs) h = omega (arith, count-cons w x xs, ap one_if (h x), none_counted w xs h)

-- where nothing is raw, in hand or buffered no group has a copy
none_left : (setup : Setup) (journal : List Entry) → IsLegal setup journal → raw_items journal ≡ []
    → in_hand journal ≡ None
    → ((output : ℕ) → output < length setup.outputs → (output_numbers (totals setup journal) output).buffered ≡ 0)
    → (g : ℕ) → copies setup journal g ≡ 0
none_left setup journal legal raw held empty g =
    let waiting : ℕ × (ℕ × ℕ) → ℕ = λ (output : ℕ × (ℕ × ℕ)).
    count_by (is_of_fate is_buffered journal g) (item_fates output.1.1 output.0 journal) in
    let here : (o : ℕ) → o < length setup.outputs → waiting (o, sizes_at setup o) ≡ 0 = λ o low.
    omega (
      arith,
      few_of is_buffered journal g (item_fates (sizes_at setup o).1 o journal),
      ap (λ (x : OutputNumbers). x.buffered) (outputs-at setup journal o low),
      empty o low,
    ) in
    let fates : count_of_fate is_buffered setup journal g ≡ 0 =
    none_summed waiting 0 setup.outputs
    (λ i n e l. subst (λ (k : ℕ). waiting (k, sizes_at setup i) ≡ 0) (omega (arith, e)) (here i l)) in
    omega (
      arith,
      ap (count_by (is_of_group g)) (none_unrouted setup journal legal raw held),
      fates,
    )

-- then no group is live
pub none_living : (setup : Setup) (journal : List Entry) → IsLegal setup journal → raw_items journal ≡ []
    → in_hand journal ≡ None
    → ((output : ℕ) → output < length setup.outputs → (output_numbers (totals setup journal) output).buffered ≡ 0)
    → (input : ℕ) → live_count setup journal input ≡ 0
none_living setup journal legal raw held empty input =
    none_counted (λ (group : ℕ × ℕ). group.1 == input && is_live setup journal group.0)
    (enumerate_from 0 (group_inputs journal))
    (λ group. ap (λ (n : ℕ). group.1 == input && not (n == 0))
    (none_left setup journal legal raw held empty group.0)
    ∙ and_false (group.1 == input))

-- nor is one at a core
pub none_live : (core : CoreState) (journal : List Entry) → Stands core journal → core.raw ≡ [] → core.held ≡ None
    → ((output : ℕ) → output < length core.setup.outputs → (output_numbers core.numbers output).buffered ≡ 0)
    → (input : ℕ) → live_of core.tracker input ≡ 0
none_live core journal stands raw held empty input =
    ap (λ (tracker : TrackerState). live_of tracker input) stands.tracker
    ∙ live_of_tracker core.setup journal input
    ∙ none_living core.setup journal stands.legal (sym stands.raw ∙ raw) (sym stands.held ∙ held)
    (λ output low. ap (λ (numbers : Numbers). (output_numbers numbers output).buffered) (sym stands.numbers)
    ∙ empty output low) input
