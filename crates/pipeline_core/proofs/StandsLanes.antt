-- A core that stands for a journal stands for it once an item was routed, or a batch was begun or done.
use Rattle.std.proofs.Common.{◌≡◌, ◌≢◌, ◌<◌, ◌≤◌, ℕ, ◌+◌, Bool, true, false, List, [], ◌∷◌, ◌++◌, length, drop, min}
use Rattle.std.proofs.Common.{inl, inr, refl, sym, ap, ◌∙◌, subst, arith, append-nil, set, get_or, map, IsSome}
use Rattle.std.proofs.Common.{if◌then◌else◌}
use Rattle.std.proofs.Math.Nat.{eq-or-lt_of_le}
use Rattle.std.proofs.lemmas.Bool.{cases_lt}
use Rattle.std.proofs.lemmas.Option.{slice_get-get_or}
use Rattle.std.proofs.lemmas.List.{get_or-set_same, get_or-set_other, length-set, length-map, get_or-map}
use Rattle.std.specs.Prelude.{slice_get}
use Rattle.std.specs.List.{AllByRecursion}
use Rattle.account.specs.Origins.{is_made}
use Rattle.std.specs.declared.option.Option.{Option}
use Rattle.std.specs.declared.option.Option.TheVariants.{Some, None}
use Rattle.metric.specs.declared.metric.Content.{Content}
use Rattle.account.specs.Numbers.{Numbers, output_numbers, unread_input, unreached_output, with_output}
use Rattle.account.specs.declared.numbers.OutputNumbers.{OutputNumbers}
use Rattle.account.specs.declared.entry.Entry.{Entry}
use Rattle.account.specs.declared.entry.Entry.TheVariants.{Route, Begin, Done}
use Rattle.account.specs.declared.entry.Report.{Report}
use Rattle.track_groups.specs.Settling.{after_copies, reports_with}
use Rattle.track_groups.specs.Tracker.{TrackerState}
use Rattle.pipeline_core.specs.Legal.{MeetsLine}
use Rattle.pipeline_core.specs.Tracked.{held_routed, hold_more, marks, tracker_after}
use Rattle.out_lane.specs.LaneEvents.{LaneEvent, Ranges, ranges_of, IsOpen}
use Rattle.out_lane.specs.LaneEvents as events
use Rattle.out_lane.specs.Lane.{LaneState, empty_lane, waiting_from, begin_answer}
use Rattle.out_lane.specs.Lane as lane
use Rattle.out_lane.specs.LaneLaws.{IsLaneOf, Answers, Begins, Becomes}
use Rattle.out_lane.proofs.LaneLemmas.{begun_answer, push_meets, begin_meets, accept_meets, fail_meets}
use Rattle.pipeline_core.specs.Fates.{Fate}
use Rattle.pipeline_core.specs.Offers.{offers, offer_of, offered_by, lane_events, lane_events_by, view_at}
use Rattle.pipeline_core.specs.Offers.{pushes}
use Rattle.pipeline_core.specs.declared.output.Offer.{Offer}
use Rattle.account.specs.Views.{HasViews}
use Rattle.agg_bank.specs.Bank.{BankStands}
use Rattle.pipeline_core.specs.Windows.{bank_events, judged, offered_to}
use Rattle.pipeline_core.specs.Totals.{totals, output_total}
use Rattle.pipeline_core.specs.CoreState.{CoreState, GroupsAgree, IsCore, lane_at, marked_at, sizes_at}
use Rattle.pipeline_core.specs.Stands.{Stands, Continues}
use Rattle.pipeline_core.specs.Steps.{after_begin, after_done, after_route, route_entry, lane_with}
use Rattle.pipeline_core.specs.Steps.{numbers_with, outputs_with, lanes_routed, numbers_routed}
use Rattle.pipeline_core.specs.Steps.{lane_done, count_done, counted_done, done_entry}
use Rattle.pipeline_core.specs.Steps.{late_more, consumed_more, copies_done, done_reports, held_group, marked_done}
use Rattle.pipeline_core.specs.Steps.{marked_routed, route_copies, route_reports, route_tracker, with_reports}
use Rattle.pipeline_core.specs.declared.routing.Routed.{Routed}
use Rattle.account.specs.declared.entry.Verdict.{Verdict}
use Rattle.account.specs.declared.entry.Verdict.TheVariants as verdicts
use Rattle.pipeline_core.proofs.FateCounts.{kept_out_by}
use Rattle.pipeline_core.proofs.Offering.{lanes_with-at, outputs_with-at}
use Rattle.pipeline_core.proofs.Offering.{length-outputs_with}
use Rattle.pipeline_core.proofs.TotalPush.{outputs-same, outputs-set, outputs-as, outputs-at}
use Rattle.pipeline_core.proofs.Keeping.{differs, length-lanes_routed, same_number}
use Rattle.pipeline_core.proofs.CopyRoutes.{marks_routed}
use Rattle.pipeline_core.proofs.CopySums.{comers}
use Rattle.pipeline_core.proofs.GroupStanding.{begin_lets, done_lets, hand_group, held_so, known_marks, lets_reports}
use Rattle.pipeline_core.proofs.GroupStanding.{lets_tracker, route_lets, shown_group, stays_silent}
use Rattle.pipeline_core.proofs.GroupStanding.{stays_tracker}
use Rattle.pipeline_core.proofs.GroupSteps.{core_has_sizes}
use Rattle.pipeline_core.proofs.MarkedLanes.{done_marked, marked_begin, marked_route}
use Rattle.pipeline_core.proofs.MarkingLemmas.{length-marked, marked_routed-at}
use Rattle.pipeline_core.proofs.ReportTotals.{numbers_told}
use Rattle.pipeline_core.proofs.TellingLemmas.{told_with-at}
use Rattle.pipeline_core.proofs.BankLemmas.{mark_in_hand}
use Rattle.pipeline_core.proofs.OutputPush.{output_stays, output_filters, output_lates, output_consumes, output_begins}
use Rattle.pipeline_core.proofs.OutputPush.{output_pushes, fate_done, views_done, output_ends, totals-push}
use Rattle.pipeline_core.proofs.Standing.{stands_grows, inputs_stand, items_stand, lanes_stay, bank_stays, told_stays}
use Rattle.pipeline_core.proofs.StandsSteps.{by_step, inputs_stay, nothing_reported, outputs_stay}

-- a batch that is done, at its output's lane
lane_is_done : (ok : Bool) (b l : ℕ) (es : List LaneEvent) (offs : List Offer) (x : LaneState Offer) →
    IsSome x.flight → IsLaneOf b l es offs x → IsLaneOf b l (es ++ events.Done ok ∷ []) offs (lane_done ok x)
lane_is_done true b l es offs x some h = (accept_meets b l es offs x h some).state
lane_is_done false b l es offs x some h = (fail_meets b l es offs x h some).state

-- entries of one output
lanes_one : (s : CoreState) (journal : List Entry) (e : Entry) (o : ℕ) (x : LaneState Offer) (event : LaneEvent)
    → Stands s journal → o < length s.setup.outputs → lane_events_by o e ≡ event ∷ [] →
    ((k : ℕ) → k ≢ o → lane_events_by k e ≡ []) → ((k : ℕ) → offered_by k e ≡ []) →
    IsLaneOf (sizes_at s.setup o).0 (sizes_at s.setup o).1 (lane_events o journal ++ event ∷ []) (offers o journal) x →
    (k : ℕ) → k < length s.setup.outputs →
    IsLaneOf (sizes_at s.setup k).0 (sizes_at s.setup k).1 (lane_events k journal ++ lane_events_by k e)
    (offers k journal ++ offered_by k e) (lane_at (set s.lanes o x) k)
lanes_one s journal e o x event h b here others none new k c =
    let stays : k ≢ o → IsLaneOf (sizes_at s.setup k).0 (sizes_at s.setup k).1
    (lane_events k journal ++ lane_events_by k e) (offers k journal ++ offered_by k e) (lane_at (set s.lanes o x) k) =
    λ d. subst (λ (ls : List LaneEvent). IsLaneOf (sizes_at s.setup k).0 (sizes_at s.setup k).1
    (lane_events k journal ++ ls) (offers k journal ++ offered_by k e) (lane_at (set s.lanes o x) k)) (sym (others k d))
    (subst (λ (vs : List Offer). IsLaneOf (sizes_at s.setup k).0 (sizes_at s.setup k).1 (lane_events k journal ++ [])
    (offers k journal ++ vs) (lane_at (set s.lanes o x) k)) (sym (none k))
    (subst (IsLaneOf (sizes_at s.setup k).0 (sizes_at s.setup k).1 (lane_events k journal ++ [])
    (offers k journal ++ [])) (sym (get_or-set_other s.lanes o k x (empty_lane 0 0) d)) (lanes_stay s journal h k c)))
    in
    elim (cases_lt k o) [
      | inl l ↦ stays (omega arith)
      | inr l ↦ elim (eq-or-lt_of_le l) [
        | inl q ↦ subst (λ (j : ℕ). IsLaneOf (sizes_at s.setup j).0 (sizes_at s.setup j).1
            (lane_events j journal ++ lane_events_by j e) (offers j journal ++ offered_by j e)
            (lane_at (set s.lanes o x) j)) q
            (subst (λ (ls : List LaneEvent). IsLaneOf (sizes_at s.setup o).0 (sizes_at s.setup o).1
            (lane_events o journal ++ ls) (offers o journal ++ offered_by o e) (lane_at (set s.lanes o x) o)) (sym here)
            (subst (λ (vs : List Offer). IsLaneOf (sizes_at s.setup o).0 (sizes_at s.setup o).1
            (lane_events o journal ++ event ∷ []) vs (lane_at (set s.lanes o x) o))
            (sym (append-nil (offers o journal)) ∙ ap (λ (vs : List Offer). offers o journal ++ vs) (sym (none o)))
            (subst (IsLaneOf (sizes_at s.setup o).0 (sizes_at s.setup o).1 (lane_events o journal ++ event ∷ [])
            (offers o journal)) (sym (get_or-set_same s.lanes o x (empty_lane 0 0) (omega (arith, h.lane_count))))
            new)))
        | inr q ↦ stays (omega arith)
      ]
    ]

-- the groups at the outputs, once a batch was begun
begun_marks : (s : CoreState) (journal : List Entry) (o from to : ℕ) → Stands s journal →
    MeetsLine s.setup journal (Begin o from to) → (k : ℕ) →
    k < length (set s.marked o (lane.after_begin (marked_at s.marked o))) →
    IsLaneOf (sizes_at s.setup k).0 (sizes_at s.setup k).1 (lane_events k (journal ++ Begin o from to ∷ []))
    (marks k (journal ++ Begin o from to ∷ [])) (marked_at (set s.marked o
    (lane.after_begin (marked_at s.marked o))) k)
begun_marks s journal o from to h line k b =
    let long : length (set s.marked o (lane.after_begin (marked_at s.marked o))) ≡ length s.marked =
    length-set s.marked o (lane.after_begin (marked_at s.marked o)) in
    elim (known_marks s journal h) [
      | inl all ↦ (marked_begin s.setup journal o from to s.marked h.legal line all).each k
          (omega (arith, b, long, all.as_many))
      | inr none ↦ absurd (omega (arith, b, long, ap length none.0))
    ]

-- and once one was done
done_marks : (s : CoreState) (journal : List Entry) (o : ℕ) (ok : Bool) (reports : List Report) → Stands s journal →
    MeetsLine s.setup journal (Done o ok reports) → (k : ℕ) →
    k < length (set s.marked o (marked_done ok (marked_at s.marked o))) →
    IsLaneOf (sizes_at s.setup k).0 (sizes_at s.setup k).1 (lane_events k (journal ++ Done o ok reports ∷ []))
    (marks k (journal ++ Done o ok reports ∷ [])) (marked_at (set s.marked o
    (marked_done ok (marked_at s.marked o))) k)
done_marks s journal o ok reports h line k b =
    let long : length (set s.marked o (marked_done ok (marked_at s.marked o))) ≡ length s.marked =
    length-set s.marked o (marked_done ok (marked_at s.marked o)) in
    elim (known_marks s journal h) [
      | inl all ↦ (done_marked s.setup journal o ok reports s.marked h.legal line all).each k
          (omega (arith, b, long, all.as_many))
      | inr none ↦ absurd (omega (arith, b, long, ap length none.0))
    ]

pub begin_stands : (s n : CoreState) (o from to : ℕ) → n ≡ after_begin s o from to → IsCore s → GroupsAgree s →
    o < length s.setup.outputs → (lane_at s.lanes o).flight ≡ None → 0 < length (lane_at s.lanes o).waiting →
    from ≡ waiting_from (lane_at s.lanes o) → to ≡ waiting_from (lane_at s.lanes o) + min (lane_at s.lanes o).batch
    (length (lane_at s.lanes o).waiting) → Continues s n (Begin o from to)
begin_stands s n o from to q core agree b none some f t =
    by_step s n (after_begin s o from to) (Begin o from to) q (λ journal h.
    let e : Entry = Begin o from to in
    let x : LaneState Offer = lane_at s.lanes o in
    let es : List LaneEvent = lane_events o journal in
    let batch : ℕ = (sizes_at s.setup o).0 in
    let limit : ℕ = (sizes_at s.setup o).1 in
    let raw : Begins batch limit es (offers o journal) x (
      waiting_from x,
      waiting_from x + min x.batch (length x.waiting),
    ) = subst (Answers batch limit es (offers o journal) x) (begun_answer x none (λ z. absurd (omega (arith, z))))
    (begin_meets batch limit es (offers o journal) x (h.lanes o b)) in
    let got : Begins batch limit es (offers o journal) x (from, to) =
    subst (λ (n : ℕ). Begins batch limit es (offers o journal) x (n, to)) (sym f)
    (subst (λ (n : ℕ). Begins batch limit es (offers o journal) x (waiting_from x, n)) (sym t) raw) in
    let here : lane_events_by o e ≡ events.Begin from to ∷ [] =
    ap (λ (q : Bool). if q then events.Begin from to ∷ [] else []) (same_number o) in
    let others : (k : ℕ) → k ≢ o → lane_events_by k e ≡ [] =
    λ k d. ap (λ (q : Bool). if q then events.Begin from to ∷ [] else []) (differs o k (omega arith)) in
    let totals_stay : (k : ℕ) → k < length s.setup.outputs → output_total (sizes_at s.setup k).1 k
    (journal ++ e ∷ []) ≡ output_total (sizes_at s.setup k).1 k journal = λ k c. elim (cases_lt k o) [
      | inl l ↦ output_stays (sizes_at s.setup k).1 k journal e (others k (omega arith)) refl (λ t. refl)
      | inr l ↦ elim (eq-or-lt_of_le l) [
        | inl q ↦ subst (λ (j : ℕ). output_total (sizes_at s.setup j).1 j (journal ++ e ∷ []) ≡ output_total
            (sizes_at s.setup j).1 j journal) q (output_begins limit o journal e (events.Begin from to) here refl
            (λ t. refl) got.fates)
        | inr q ↦ output_stays (sizes_at s.setup k).1 k journal e (others k (omega arith)) refl (λ t. refl)
      ]
    ] in
    let line : MeetsLine s.setup journal e = record {
      batch = batch;
      limit = limit;
      known = slice_get-get_or s.setup.outputs o (0, 0) b;
      next = got.meets;
    } in
    let lets = begin_lets s.setup journal o from to (core_has_sizes s core) h.legal line in
    stands_grows s (after_begin s o from to) journal e h
    (record {
      meets = record { line = line; reports = stays_silent s journal e agree h lets };
      items = items_stand s;
      held = refl;
      tracker = stays_tracker s journal e agree h lets;
      bank = bank_stays s journal h;
      outputs = record {
        each = lanes_one s journal e o (lane.after_begin x) (events.Begin from to) h b here others (λ k. refl)
            got.state;
        count = length-set s.lanes o (lane.after_begin x);
        each_marked = begun_marks s journal o from to h line;
        mark_count = length-set s.marked o (lane.after_begin (marked_at s.marked o));
      };
      told = λ i b. told_stays s i;
      numbers =
          totals-push s.setup journal e s.numbers s.numbers h.numbers
          (inputs_stay s journal e h (λ i y. nothing_reported i y)) (omega arith) (omega arith) (omega arith)
          (ap (λ (n : Numbers). n.outputs) h.numbers ∙ sym (outputs-same s.setup journal e totals_stay));
      stored = refl;
      inputs = inputs_stand s journal h;
    }))

-- the numbers of the inputs are those of the journal
inputs_are : (s : CoreState) (journal : List Entry) → Stands s journal → (k : ℕ) → k < length s.setup.inputs →
    get_or s.numbers.inputs k (unread_input false) ≡ get_or (totals s.setup journal).inputs k (unread_input false)
inputs_are s journal h k b = ap (λ (m : Numbers). get_or m.inputs k (unread_input false)) h.numbers

-- what becomes of the views of a batch that is done
views_end : (ok : Bool) (b l : ℕ) (es : List LaneEvent) (offs : List Offer) (x : LaneState Offer) → IsSome x.flight →
    IsLaneOf b l es offs x → Becomes l es (es ++ events.Done ok ∷ []) offs (fate_done ok) (views_done ok x)
views_end true b l es offs x some h = (accept_meets b l es offs x h some).written
views_end false b l es offs x some h = (fail_meets b l es offs x h some).dropped

-- a batch in flight may be done
pub done_line : (s : CoreState) (journal : List Entry) (o : ℕ) (ok : Bool) (reports : List Report) →
    Stands s journal → o < length s.setup.outputs → IsSome (lane_at s.lanes o).flight →
    MeetsLine s.setup journal (Done o ok reports)
done_line s journal o ok reports h b some = record {
  known = b;
  begun = (accept_meets (sizes_at s.setup o).0 (sizes_at s.setup o).1 (lane_events o journal) (offers o journal)
      (lane_at s.lanes o) (h.lanes o b) some).meets;
}

pub done_stands : (s n : CoreState) (o : ℕ) (ok : Bool) → n ≡ after_done s o ok → IsCore s → GroupsAgree s →
    o < length s.setup.outputs → IsSome (lane_at s.lanes o).flight → Continues s n (done_entry s o ok)
unfolding done_entry
done_stands s n o ok q core agree b some =
    by_step s n (after_done s o ok) (done_entry s o ok) q (λ journal h.
    let reports : List Report = done_reports s o ok in
    let e : Entry = Done o ok reports in
    let x : LaneState Offer = lane_at s.lanes o in
    let batch : ℕ = (sizes_at s.setup o).0 in
    let limit : ℕ = (sizes_at s.setup o).1 in
    let here : lane_events_by o e ≡ events.Done ok ∷ [] = ap (λ (q : Bool). if q then events.Done ok ∷ [] else [])
    (same_number o) in
    let others : (k : ℕ) → k ≢ o → lane_events_by k e ≡ [] =
    λ k d. ap (λ (q : Bool). if q then events.Done ok ∷ [] else []) (differs o k (omega arith)) in
    let old : OutputNumbers = get_or (totals s.setup journal).outputs o unreached_output in
    let line : MeetsLine s.setup journal e = done_line s journal o ok reports h b some in
    let lets = done_lets s journal o ok reports core h line in
    let more : Numbers = with_output s.numbers o (counted_done ok (count_done ok x) (output_numbers s.numbers o)) in
    stands_grows s (after_done s o ok) journal e h
    (record {
      meets = record {
        line = line;
        reports = ap (λ (t : TrackerState). reports_with t (copies_done s o ok)) h.tracker
            ∙ sym (lets_reports s.setup journal e None 0 (copies_done s o ok) lets);
      };
      items = items_stand s;
      held = refl;
      tracker = ap (λ (t : TrackerState). after_copies t (copies_done s o ok)) h.tracker
          ∙ sym (lets_tracker s.setup journal e None 0 (copies_done s o ok) lets);
      bank = bank_stays s journal h;
      outputs = record {
        each = lanes_one s journal e o (lane_done ok x) (events.Done ok) h b here others (λ k. refl)
            (lane_is_done ok batch limit (lane_events o journal) (offers o journal) x some (h.lanes o b));
        count = length-set s.lanes o (lane_done ok x);
        each_marked = done_marks s journal o ok reports h line;
        mark_count = length-set s.marked o (marked_done ok (marked_at s.marked o));
      };
      told = λ i b. told_with-at s.told reports i (omega (arith, b, agree.told_count));
      numbers =
          numbers_told s.setup journal e s.numbers more reports h.numbers refl core.inputs.number_count
          (inputs_are s journal h) (omega arith) (omega arith) (omega arith)
          (ap (λ (n : Numbers). set n.outputs o (counted_done ok (count_done ok x)
          (get_or n.outputs o unreached_output))) h.numbers
          ∙ sym (outputs-set s.setup journal e o (counted_done ok (count_done ok x) old) b
          (λ k c d. output_stays (sizes_at s.setup k).1 k journal e (others k d) refl (λ t. refl))
          (output_ends ok limit o journal e x here refl (λ t. refl)
          (views_end ok batch limit (lane_events o journal) (offers o journal) x some (h.lanes o b))
          ∙ ap (counted_done ok (count_done ok x)) (sym (outputs-at s.setup journal o b)))));
      stored = refl;
      inputs = inputs_stand s journal h;
    }))

-- a made item has no views at aggregators: the mark of the item in hand stands first
no_views : (s : CoreState) (journal : List Entry) (item : ℕ) (aggs : List (Option Content)) → Stands s journal
    → s.held ≡ Some item
    → (slice_get s.made 0 ≡ Some true → AllByRecursion (λ (view : Option Content). view ≡ None) aggs)
    → is_made journal item ≡ true → AllByRecursion (λ (view : Option Content). view ≡ None) aggs
no_views s journal item aggs h held none made =
    none (ap (λ (marks : List Bool). slice_get marks 0) h.made ∙ mark_in_hand s.setup journal item h.legal
    (sym h.held ∙ held) ∙ ap Some made)

-- a view that is offered, at its output's lane
lane_is_offered : (item : ℕ) (view : Option Content) (b l : ℕ) (es : List LaneEvent) (offs : List Offer)
    (x : LaneState Offer) → IsLaneOf b l es offs x → IsLaneOf b l (es ++ pushes (offer_of item view))
    (offs ++ offer_of item view) (lane_with item view x)
lane_is_offered item None b l es offs x h = rw (append-nil es, append-nil offs) h
lane_is_offered item (Some view) b l es offs x h = (push_meets b l es offs x
    (record { item = item; view = view }) h).state

-- whether a metric that passes with such a view is kept out, and passes a test
abbrev kept_view : (Fate → Bool) → Option Content → ℕ
kept_view t view = kept_out_by t verdicts.Passes view

-- and its numbers
total_is_offered : (view : Option Content) (b l o : ℕ) (journal : List Entry) (item : ℕ) (whole : Option Content)
    (aggs outs : List (Option Content)) (reports : List Report) (x : LaneState Offer) → view_at o outs ≡ view
    → 1 ≤ x.limit
    → length x.waiting ≤ x.limit →
    IsLaneOf b l (lane_events o journal) (offers o journal) x
    → output_total l o (journal ++ Route item whole verdicts.Passes aggs outs reports ∷ []) ≡ numbers_with view x
    (output_total l o journal)
total_is_offered None b l o journal item whole aggs outs reports x v some most h =
    let e : Entry = Route item whole verdicts.Passes aggs outs reports in
    output_filters l o journal e (ap (λ (w : Option Content). pushes (offer_of item w)) v) (ap (offer_of item) v)
    (λ t. ap (kept_view t) v)
total_is_offered (Some view) b l o journal item whole aggs outs reports x v some most h =
    let e : Entry = Route item whole verdicts.Passes aggs outs reports in
    output_pushes b l o journal e (record { item = item; view = view }) x
    (ap (λ (w : Option Content). pushes (offer_of item w)) v) (ap (offer_of item) v) (λ t. ap (kept_view t) v) some most
    (push_meets b l (lane_events o journal) (offers o journal) x (record { item = item; view = view }) h)

-- the lanes, once an item was routed with a verdict
lanes_grow : (verdict : Verdict) (s : CoreState) (journal : List Entry) (item : ℕ) (whole : Option Content)
    (aggs outs : List (Option Content)) (reports : List Report) → Stands s journal →
    let e : Entry = Route item whole verdict aggs outs reports in
    (o : ℕ) → o < length s.setup.outputs →
    IsLaneOf (sizes_at s.setup o).0 (sizes_at s.setup o).1 (lane_events o journal ++ lane_events_by o e)
    (offers o journal ++ offered_by o e) (lane_at (lanes_routed item verdict outs s.lanes) o)
lanes_grow verdicts.Passes s journal item whole aggs outs reports h o b =
    subst (IsLaneOf (sizes_at s.setup o).0 (sizes_at s.setup o).1
    (lane_events o journal ++ pushes (offer_of item (view_at o outs)))
    (offers o journal ++ offer_of item (view_at o outs))) (sym
    (lanes_with-at item outs s.lanes o (omega (arith, b, h.lane_count))))
    (lane_is_offered item (view_at o outs) (sizes_at s.setup o).0 (sizes_at s.setup o).1 (lane_events o journal)
    (offers o journal) (lane_at s.lanes o) (h.lanes o b))
lanes_grow verdicts.Consumed s journal item whole aggs outs reports h o b = lanes_stay s journal h o b
lanes_grow verdicts.Late s journal item whole aggs outs reports h o b = lanes_stay s journal h o b
lanes_grow verdicts.Removed s journal item whole aggs outs reports h o b = lanes_stay s journal h o b

-- an item is counted at each output
counted_at_each : (more : OutputNumbers → OutputNumbers) (s : CoreState) (journal : List Entry) (e : Entry) → IsCore s
    → Stands s journal →
    ((l o : ℕ) → output_total l o (journal ++ e ∷ []) ≡ more (output_total l o journal)) →
    map more s.numbers.outputs ≡ (totals s.setup (journal ++ e ∷ [])).outputs
counted_at_each more s journal e core h each =
    sym (outputs-as s.setup journal e (map more s.numbers.outputs)
    (length-map s.numbers.outputs more ∙ core.outputs.number_count)
    (λ o b. each (sizes_at s.setup o).1 o
    ∙ ap more (sym (ap (λ (n : Numbers). get_or n.outputs o unreached_output) h.numbers
    ∙ outputs-at s.setup journal o b))
    ∙ sym (get_or-map more s.numbers.outputs o unreached_output unreached_output
    (omega (arith, b, core.outputs.number_count)))))

-- the numbers, once an item was routed with a verdict
numbers_grow : (verdict : Verdict) (s : CoreState) (journal : List Entry) (item : ℕ) (whole : Option Content)
    (aggs outs : List (Option Content)) (reports : List Report) → IsCore s → Stands s journal →
    let e : Entry = Route item whole verdict aggs outs reports in
    with_reports (numbers_routed verdict outs s.lanes s.numbers) reports ≡ totals s.setup (journal ++ e ∷ [])
numbers_grow verdicts.Passes s journal item whole aggs outs reports core h =
    let e : Entry = Route item whole verdicts.Passes aggs outs reports in
    numbers_told s.setup journal e s.numbers (numbers_routed verdicts.Passes outs s.lanes s.numbers) reports h.numbers
    refl core.inputs.number_count (inputs_are s journal h) (omega arith) (omega arith) (omega arith)
    (sym (outputs-as s.setup journal e (outputs_with outs s.lanes s.numbers.outputs)
    (length-outputs_with outs s.lanes s.numbers.outputs ∙ core.outputs.number_count)
    (λ o b. total_is_offered (view_at o outs) (sizes_at s.setup o).0 (sizes_at s.setup o).1 o journal item whole aggs
    outs reports (lane_at s.lanes o) refl (omega (arith, (core.outputs.each o b).some, (core.outputs.each o b).fits))
    (core.outputs.each o b).waits (h.lanes o b)
    ∙ ap (numbers_with (view_at o outs) (lane_at s.lanes o))
    (sym (ap (λ (n : Numbers). get_or n.outputs o unreached_output) h.numbers ∙ outputs-at s.setup journal o b))
    ∙ sym (outputs_with-at outs s.lanes s.numbers.outputs o (omega (arith, core.outputs.number_count))))))
numbers_grow verdicts.Consumed s journal item whole aggs outs reports core h =
    let e : Entry = Route item whole verdicts.Consumed aggs outs reports in
    numbers_told s.setup journal e s.numbers (numbers_routed verdicts.Consumed outs s.lanes s.numbers) reports h.numbers
    refl core.inputs.number_count (inputs_are s journal h) (omega arith) (omega arith) (omega arith)
    (counted_at_each consumed_more s journal e core h (λ l o. output_consumes l o journal e refl refl (λ t. refl)))
numbers_grow verdicts.Late s journal item whole aggs outs reports core h =
    let e : Entry = Route item whole verdicts.Late aggs outs reports in
    numbers_told s.setup journal e s.numbers (numbers_routed verdicts.Late outs s.lanes s.numbers) reports h.numbers
    refl core.inputs.number_count (inputs_are s journal h) (omega arith) (omega arith) (omega arith)
    (counted_at_each late_more s journal e core h (λ l o. output_lates l o journal e refl refl (λ t. refl)))
numbers_grow verdicts.Removed s journal item whole aggs outs reports core h =
    let e : Entry = Route item whole verdicts.Removed aggs outs reports in
    numbers_told s.setup journal e s.numbers (numbers_routed verdicts.Removed outs s.lanes s.numbers) reports h.numbers
    refl core.inputs.number_count (inputs_are s journal h) (omega arith) (omega arith) (omega arith)
    (ap (λ (n : Numbers). n.outputs) h.numbers
    ∙ sym (outputs_stay s.setup journal e (λ o. refl) (λ o. refl) (λ o t. refl)))

-- an item is routed with the verdict of the windows
pub length-marked_routed : (verdict : Verdict) (grp : Option ℕ) (outs : List (Option Content))
    (all : List (LaneState (Option ℕ))) → length (marked_routed grp verdict outs all) ≡ length all
length-marked_routed verdicts.Passes grp outs all = length-marked grp outs all
length-marked_routed verdicts.Consumed grp outs all = refl
length-marked_routed verdicts.Late grp outs all = refl
length-marked_routed verdicts.Removed grp outs all = refl

routed_at : (verdict : Verdict) (grp : Option ℕ) (outs : List (Option Content)) (all : List (LaneState (Option ℕ)))
    (o : ℕ) → o < length all →
    marked_at (marked_routed grp verdict outs all) o ≡ marks_routed verdict (view_at o outs) grp (marked_at all o)
routed_at verdicts.Passes grp outs all o b = marked_routed-at grp outs all o b
routed_at verdicts.Consumed grp outs all o b = refl
routed_at verdicts.Late grp outs all o b = refl
routed_at verdicts.Removed grp outs all o b = refl

-- the groups at the outputs, once an item was routed
routed_marks : (s : CoreState) (journal : List Entry) (item : ℕ) (whole : Option Content) (verdict : Verdict)
    (aggs outs : List (Option Content)) (reports : List Report) → Stands s journal →
    MeetsLine s.setup journal (Route item whole verdict aggs outs reports) → s.held ≡ Some item → (k : ℕ) →
    k < length (marked_routed (held_group s) verdict outs s.marked) →
    IsLaneOf (sizes_at s.setup k).0 (sizes_at s.setup k).1
    (lane_events k (journal ++ Route item whole verdict aggs outs reports ∷ []))
    (marks k (journal ++ Route item whole verdict aggs outs reports ∷ []))
    (marked_at (marked_routed (held_group s) verdict outs s.marked) k)
routed_marks s journal item whole verdict aggs outs reports h line held k b =
    let long : length (marked_routed (held_group s) verdict outs s.marked) ≡ length s.marked =
    length-marked_routed verdict (held_group s) outs s.marked in
    elim (known_marks s journal h) [
      | inl all ↦ (marked_route verdict s.setup journal item whole aggs outs reports s.marked
          (marked_routed (held_group s) verdict outs s.marked) h.legal line long
          (λ o c. routed_at verdict (held_group s) outs s.marked o c
          ∙ ap (λ (grp : Option ℕ). marks_routed verdict (view_at o outs) grp (marked_at s.marked o))
          (hand_group s journal item h held)) all).each k (omega (arith, b, long, all.as_many))
      | inr none ↦ absurd (omega (arith, b, long, ap length none.0))
    ]

-- the item in hand may be routed
pub route_line : (s : CoreState) (r : Routed) (verdict : Verdict) (reports : List Report) (journal : List Entry) →
    Stands s journal → s.held ≡ Some r.item → length r.aggs ≡ length s.setup.aggs
    → length r.outs ≡ length s.setup.outputs → HasViews r.whole (r.aggs ++ r.outs)
    → (slice_get s.made 0 ≡ Some true → AllByRecursion (λ (view : Option Content). view ≡ None) r.aggs)
    → verdict ≡ judged s.setup journal r.whole r.aggs
    → MeetsLine s.setup journal (Route r.item r.whole verdict r.aggs r.outs reports)
route_line s r verdict reports journal h held number count views none is = record {
  held = sym h.held ∙ held;
  aggregators = number;
  outputs = count;
  views = views;
  made = no_views s journal r.item r.aggs h held none;
  verdict_is = is;
}

pub route_stands : (s n : CoreState) (r : Routed) (verdict : Verdict) → n ≡ after_route s r verdict n.bank → IsCore s
    → GroupsAgree s → s.held ≡ Some r.item → length r.aggs ≡ length s.setup.aggs → length r.outs
    ≡ length s.setup.outputs
    → HasViews r.whole (r.aggs ++ r.outs)
    → (slice_get s.made 0 ≡ Some true → AllByRecursion (λ (view : Option Content). view ≡ None) r.aggs)
    → ((journal : List Entry) → Stands s journal → verdict ≡ judged s.setup journal r.whole r.aggs)
    → ((journal : List Entry) → Stands s journal → BankStands s.setup.aggs s.setup.start
    (bank_events journal ++ offered_to r.whole r.aggs) n.bank)
    → Continues s n (route_entry s r verdict)
unfolding route_entry
route_stands s n r verdict q core agree held number count views none is keeps =
    by_step s n (after_route s r verdict n.bank) (route_entry s r verdict) q (λ journal h.
    let reports : List Report = route_reports s r verdict in
    let e : Entry = Route r.item r.whole verdict r.aggs r.outs reports in
    let line : MeetsLine s.setup journal e = route_line s r verdict reports journal h held number count views none
    (is journal h) in
    let lets = route_lets s journal r.item r.whole verdict r.aggs r.outs reports core h line held in
    let holds : route_tracker s r verdict ≡ hold_more (tracker_after s.setup journal)
    (shown_group verdict (held_group s)) (comers verdict r.outs) =
    ap (λ (t : TrackerState). held_routed t (held_group s) verdict r.outs) h.tracker
    ∙ sym (held_so verdict (tracker_after s.setup journal) (held_group s) r.outs) in
    stands_grows s (after_route s r verdict n.bank) journal e h
    (record {
      meets = record {
        line = line;
        reports = ap (λ (t : TrackerState). reports_with t (route_copies s r verdict)) holds
            ∙ sym (lets_reports s.setup journal e (shown_group verdict (held_group s)) (comers verdict r.outs)
            (route_copies s r verdict) lets);
      };
      items = record {
        raw_is = sym (append-nil s.raw);
        taken_is = omega arith;
        made_is = ap (drop 1) (sym (append-nil s.made));
        groups_are = ap (drop 1) (sym (append-nil s.groups));
      };
      held = refl;
      tracker = ap (λ (t : TrackerState). after_copies t (route_copies s r verdict)) holds
          ∙ sym (lets_tracker s.setup journal e (shown_group verdict (held_group s)) (comers verdict r.outs)
          (route_copies s r verdict) lets);
      bank = keeps journal h;
      outputs = record {
        each = lanes_grow verdict s journal r.item r.whole r.aggs r.outs reports h;
        count = length-lanes_routed r.item verdict r.outs s.lanes;
        each_marked = routed_marks s journal r.item r.whole verdict r.aggs r.outs reports h line held;
        mark_count = length-marked_routed verdict (held_group s) r.outs s.marked;
      };
      told = λ i b. told_with-at s.told reports i (omega (arith, b, agree.told_count));
      numbers = numbers_grow verdict s journal r.item r.whole r.aggs r.outs reports core h;
      stored = refl;
      inputs = inputs_stand s journal h;
    }))
