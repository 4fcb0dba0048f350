-- What a core keeps as copies of groups are let go: their counts, and a place for the report of each live group.
use Rattle.std.proofs.Common.{◌≡◌, ◌<◌, ◌≤◌, ℕ, zero, suc, Bool, false, List, [], ◌∷◌, ◌++◌}
use Rattle.std.proofs.Common.{length, map, filter, refl, sym, ap, ◌∙◌, subst, arith, get_or, length-append, set, IsSome}
use Rattle.std.proofs.lemmas.List.{get_or-map, length-map}
use Rattle.std.proofs.lemmas.List.Sums.{length-filter}
use Rattle.std.specs.List.{count_by}
use Rattle.std.specs.declared.option.Option.{Option}
use Rattle.std.specs.declared.option.Option.TheVariants.{None}
use Rattle.account.specs.Setup.{Setup}
use Rattle.account.specs.Numbers.{Numbers, input_numbers, output_numbers, unread_input, with_output}
use Rattle.account.specs.declared.numbers.InputNumbers.{InputNumbers}
use Rattle.account.specs.declared.entry.Entry.{Entry}
use Rattle.account.specs.declared.entry.Entry.TheVariants.{Done}
use Rattle.account.specs.declared.entry.Report.{Report}
use Rattle.out_lane.specs.Lane.{LaneState}
use Rattle.pipeline_core.specs.declared.output.Offer.{Offer}
use Rattle.track_groups.specs.Settling.{Copy, after_copies, is_report_of, reports_with, times}
use Rattle.track_groups.specs.Tracker.{IsTracker, TrackerState, copies_of, live_of}
use Rattle.track_groups.proofs.CopyLemmas.{all_told}
use Rattle.pipeline_core.specs.Letting.{HasCopies, MayTell, groups_in, told_in}
use Rattle.pipeline_core.specs.Tracked.{hold_more, most_live}
use Rattle.pipeline_core.specs.CoreState.{CoreState, GroupsAgree, IsCore, lane_at, marked_at}
use Rattle.pipeline_core.specs.Stands.{HasJournal}
use Rattle.pipeline_core.specs.Steps.{after_done, copies_done, count_done, counted_done, done_entry, done_reports}
use Rattle.pipeline_core.specs.Steps.{lane_done, marked_done, told_with, with_reports}
use Rattle.pipeline_core.specs.ToldView.{ToldState, no_reports, reports_in}
use Rattle.pipeline_core.proofs.CopyBounds.{no_copies}
use Rattle.pipeline_core.proofs.GatherKept.{HasPlaces, few_groups}
use Rattle.pipeline_core.proofs.GroupStanding.{Lets, done_lets}
use Rattle.pipeline_core.proofs.GroupSteps.{core_has_sizes}
use Rattle.pipeline_core.proofs.GroupTotals.{group_totals}
use Rattle.pipeline_core.proofs.Keeping.{kept_done, kept_groups, kept_reported}
use Rattle.pipeline_core.proofs.StandsLanes.{done_line}
use Rattle.pipeline_core.proofs.TellingLemmas.{length-told_with, told_with-at}
use Rattle.pipeline_core.proofs.TrackerLemmas.{goes_few, live_of_tracker}

-- an input's groups that aren't delivered yet are those that are live
pub undelivered_is : (s : CoreState) → IsCore s → HasJournal s → (i : ℕ) → i < length s.setup.inputs →
    (input_numbers s.numbers i).undelivered ≡ live_of s.tracker i
undelivered_is s core told i b =
    let h = told.stands in
    ap (λ (n : Numbers). (input_numbers n i).undelivered) h.numbers
    ∙ (group_totals s.setup told.journal i (core_has_sizes s core) h.legal b).undelivered
    ∙ sym (live_of_tracker s.setup told.journal i)
    ∙ sym (ap (λ (t : TrackerState). live_of t i) h.tracker)

-- of the copies that an entry lets go as many wait
pub has_gone : (s : CoreState) (told : HasJournal s) (e : Entry) (grp : Option ℕ) (more : ℕ) (gone : List Copy) →
    Lets s.setup told.journal e grp more gone → HasCopies gone (hold_more s.tracker grp more)
has_gone s told e grp more gone l g =
    let h = told.stands in
    subst (λ (t : TrackerState). times g gone ≤ copies_of (hold_more t grp more) g) (sym h.tracker)
    (goes_few s.setup told.journal e grp more gone l.counts l.known
    (λ k b. no_copies s.setup told.journal k h.legal b) g)

-- so it is as a batch is done
pub done_has : (s : CoreState) (o : ℕ) (ok : Bool) → IsCore s → HasJournal s → o < length s.setup.outputs →
    IsSome (lane_at s.lanes o).flight → HasCopies (copies_done s o ok) s.tracker
done_has s o ok core told b some =
    has_gone s told (Done o ok []) None 0 (copies_done s o ok)
    (done_lets s told.journal o ok [] core told.stands (done_line s told.journal o ok [] told.stands b some))

-- what a batch that is done leaves
pub done_is : (s : CoreState) (o : ℕ) (ok : Bool) (tracker : TrackerState) (x : LaneState Offer)
    (marked : List (LaneState (Option ℕ))) (told : List (List Report)) (n m : Numbers) (reports : List Report)
    (stored : List Entry) → tracker ≡ after_copies s.tracker (copies_done s o ok) →
    x ≡ lane_done ok (lane_at s.lanes o) → marked ≡ set s.marked o (marked_done ok (marked_at s.marked o)) →
    reports ≡ done_reports s o ok → told ≡ told_with s.told reports → m ≡ with_output s.numbers o
    (counted_done ok (count_done ok (lane_at s.lanes o)) (output_numbers s.numbers o)) → n ≡ with_reports m reports →
    stored ≡ s.stored ++ Done o ok reports ∷ [] →
    record s {
      tracker = tracker;
      lanes = set s.lanes o x;
      marked = marked;
      told = told;
      numbers = n;
      stored = stored;
    } ≡ after_done s o ok
unfolding done_entry
done_is s o ok tracker x marked told n m reports stored a b c d e f g h = rw (a, b, c, e, g, f, h, d) refl

-- and what it keeps agrees
pub agree_gone : (s n : CoreState) (copies : List Copy) → GroupsAgree s → IsTracker n.tracker →
    n.setup ≡ s.setup → length n.groups ≡ length n.made → n.tracker.limits ≡ s.tracker.limits →
    n.tracker.started ≡ s.tracker.started → length n.told ≡ length s.told → GroupsAgree n
agree_gone s n copies agree tracks setup known limits started told = record {
  known = known;
  tracks = tracks;
  limits = limits ∙ agree.limits ∙ ap (λ (setup : Setup). map most_live setup.inputs) (sym setup);
  few = omega (arith, started, agree.few);
  told_count = told ∙ agree.told_count ∙ ap (λ (setup : Setup). length setup.inputs) (sym setup);
}

-- what is told of is live
pub told_live : (t : TrackerState) (copies : List Copy) (i : ℕ) → IsTracker t →
    count_by (is_report_of i) (reports_with t copies) ≤ live_of t i
told_live t copies i tracks = omega (arith, all_told t copies i tracks)

beyond : (xs : List ℕ) (i : ℕ) → 0 < get_or xs i 0 → i < length xs
beyond [] i h = absurd (omega (arith, h))
beyond (x ∷ xs) zero h = omega arith
beyond (x ∷ xs) (suc i) h = omega (arith, beyond xs i h)

pub told_known : (t : TrackerState) (copies : List Copy) (i : ℕ) → IsTracker t →
    0 < count_by (is_report_of i) (reports_with t copies) → i < length t.limits
told_known t copies i tracks some =
    beyond t.limits i (omega (arith, told_live t copies i tracks, tracks.limited i, some))

-- once these copies are let go there are places for the reports of all groups that are live still
pub places_gone : (t : TrackerState) (copies : List Copy) (old new : List ToldState) → IsTracker t → HasPlaces t old →
    map reports_in new ≡ told_with (map reports_in old) (reports_with t copies) →
    ((i : ℕ) → i < length old → (told_in new i).places ≡ (told_in old i).places) → HasPlaces (after_copies t copies) new
places_gone t copies old new tracks h told places i b =
    let reports : List Report = reports_with t copies in
    let many : length new ≡ length old = sym (length-map new reports_in) ∙ ap length told
    ∙ length-told_with (map reports_in old) reports ∙ length-map old reports_in in
    let c : i < length old = omega (arith, b, many) in
    let are : (told_in new i).reports ≡ (told_in old i).reports ++ filter (is_report_of i) reports =
    sym (get_or-map reports_in new i no_reports [] b)
    ∙ ap (λ (xs : List (List Report)). get_or xs i []) told
    ∙ told_with-at (map reports_in old) reports i (omega (arith, c, length-map old reports_in))
    ∙ ap (λ (xs : List Report). xs ++ filter (is_report_of i) reports) (get_or-map reports_in old i no_reports [] c) in
    omega (
      arith,
      ap length are,
      length-append (told_in old i).reports (filter (is_report_of i) reports),
      length-filter (is_report_of i) reports,
      all_told t copies i tracks,
      h i c,
      places i c,
    )

-- the same core with other numbers of outputs
module _ (s : CoreState) (core : IsCore s) (agree : GroupsAgree s) (told : HasJournal s) (t : TrackerState)
    (copies : List Copy) (tracks : IsTracker t) (limits : t.limits ≡ s.tracker.limits)
    (live : (i : ℕ) → live_of t i ≡ live_of s.tracker i) (n : Numbers) (inputs : n.inputs ≡ s.numbers.inputs)
    (old : List ToldState) (reports : map reports_in old ≡ s.told) (reports₀ : List Report)
    (are : reports₀ ≡ reports_with t copies) where
  pub may_tell : HasPlaces s.tracker old → MayTell n old reports₀
  may_tell has = record {
    known = λ i some. (let low : i < length t.limits = told_known t copies i tracks
        (subst (λ (xs : List Report). 0 < count_by (is_report_of i) xs) are some) in
        let b : i < length s.setup.inputs = omega (
          arith,
          low,
          ap length limits,
          ap length agree.limits,
          length-map s.setup.inputs most_live,
        ) in (
          omega (arith, b, agree.told_count, ap length reports, length-map old reports_in),
          omega (arith, b, ap length inputs, core.inputs.number_count),
        ));
    places = λ i b. omega (
      arith,
      ap (λ (xs : List Report). count_by (is_report_of i) xs) are,
      told_live t copies i tracks,
      live i,
      has i b,
    );
    some = λ i b. omega (
      arith,
      ap (λ (xs : List Report). count_by (is_report_of i) xs) are,
      told_live t copies i tracks,
      live i,
      undelivered_is s core told i (omega (arith, b, ap length inputs, core.inputs.number_count)),
      ap (λ (xs : List InputNumbers). (get_or xs i (unread_input false)).undelivered) inputs,
    );
    few = λ i b. omega (
      arith,
      few_groups s core told i (omega (arith, b, ap length inputs, core.inputs.number_count)),
      agree.few,
      ap (λ (xs : List InputNumbers). groups_in (get_or xs i (unread_input false))) inputs,
    );
  }

-- what a core keeps agrees once a batch is done
pub core_done : (s : CoreState) (o : ℕ) (ok : Bool) → IsCore s → o < length s.setup.outputs → IsCore (after_done s o ok)
core_done s o ok core b =
    let reports : List Report = done_reports s o ok in
    let more : Numbers = with_output s.numbers o
    (counted_done ok (count_done ok (lane_at s.lanes o)) (output_numbers s.numbers o)) in
    let stored : List Entry = s.stored ++ done_entry s o ok ∷ [] in
    let left : CoreState = record s {
      lanes = set s.lanes o (lane_done ok (lane_at s.lanes o));
      numbers = more;
      stored = stored;
    } in
    kept_groups (record left { numbers = with_reports more reports }) s.groups
    (after_copies s.tracker (copies_done s o ok)) (set s.marked o (marked_done ok (marked_at s.marked o)))
    (told_with s.told reports)
    (kept_reported left reports
    (kept_done s o ok (lane_done ok (lane_at s.lanes o)) more stored b refl refl core))
