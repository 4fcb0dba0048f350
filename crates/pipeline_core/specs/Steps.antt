-- What each call makes of what a core keeps.
use Rattle.std.specs.Prelude.{◌≡◌, ◌<◌, ◌≤◌, ◌⊎◌, ℕ, ℤ, ◌+◌, ◌^◌, ◌==◌, Bool, true, false, List, [], ◌∷◌}
use Rattle.std.specs.Prelude.{◌++◌, map, length, take, drop, min, replicate, filter, slice_index_or}
use Rattle.std.specs.Prelude.{slice_set, is_some, IfSome, if◌then◌else◌, Result, Ok, Err}
use Rattle.std.specs.Int.{int_max}
use Rattle.std.specs.List.{enumerate_from}
use Rattle.std.specs.Option.{option_to_list}
use Rattle.std.specs.declared.option.Option.{Option}
use Rattle.std.specs.declared.option.Option.TheVariants.{Some, None}
use Rattle.metric.specs.declared.metric.Content.{Content}
use Rattle.account.specs.Says.{GatherSays, gather_says}
use Rattle.account.specs.Numbers.{Numbers, with_input, input_numbers, gathered_more, settled_more, written_more}
use Rattle.account.specs.Numbers.{dropped_more, AreBelow}
use Rattle.account.specs.declared.numbers.InputNumbers.{InputNumbers}
use Rattle.account.specs.declared.numbers.OutputNumbers.{OutputNumbers}
use Rattle.account.specs.Numbers.{with_output, output_numbers}
use Rattle.account.specs.declared.entry.Entry.{Entry}
use Rattle.account.specs.declared.entry.Entry.TheVariants as entries
use Rattle.account.specs.declared.entry.Report.{Report}
use Rattle.account.specs.declared.entry.Verdict.{Verdict}
use Rattle.account.specs.declared.entry.Verdict.TheVariants as verdicts
use Rattle.agg_bank.specs.Bank.{BankMemory}
use Rattle.out_lane.specs.Lane.{LaneState}
use Rattle.out_lane.specs.Lane as lane
use Rattle.track_groups.specs.Settling.{Copy, after_copies, reports_with, is_report_of}
use Rattle.track_groups.specs.Tracker.{TrackerState, after_start, live_of, start_report}
use Rattle.pipeline_core.specs.Offers.{view_at, offered_views}
use Rattle.pipeline_core.specs.Tracked.{copy_of, done_copies, held_routed, routed_copies}
use Rattle.pipeline_core.specs.CoreState.{CoreState, lane_at, marked_at, told_at}
use Rattle.pipeline_core.specs.declared.gathering.Admission.{Admission}
use Rattle.pipeline_core.specs.declared.gathering.Admission.TheVariants.{Admitted, TooMany}
use Rattle.pipeline_core.specs.declared.gathering.Admission.TheVariants as admissions
use Rattle.pipeline_core.specs.declared.gathering.Gathered.{Gathered}
use Rattle.pipeline_core.specs.declared.gathering.GatherRefused.{GatherRefused}
use Rattle.pipeline_core.specs.declared.gathering.GatherRefused.TheVariants.{OutOfMemory, RunFull}
use Rattle.pipeline_core.specs.declared.gathering.GatherRefused.TheVariants.{HeldUndelivered, HeldRaw}
use Rattle.pipeline_core.specs.declared.routing.Routed.{Routed}
use Rattle.pipeline_core.specs.declared.batches.Batch.{Batch}
use Rattle.pipeline_core.specs.declared.output.Offer.{Offer}

-- numbers with those of reports: each of these groups is delivered or rejected
unfoldable pub with_reports : Numbers → List Report → Numbers
with_reports numbers [] = numbers
with_reports numbers (report ∷ reports) =
    with_reports (with_input numbers report.input (settled_more (input_numbers numbers report.input) report.delivered))
    reports

-- of each input the reports that weren't handed out, once these came
abbrev pub told_with : List (List Report) → List Report → List (List Report)
told_with told reports =
    map (λ (x : ℕ × List Report). x.1 ++ filter (is_report_of x.0) reports) (enumerate_from 0 told)

-- the most groups of an input that may be live, where it is tracked
abbrev pub most_of : CoreState → ℕ → Option ℕ
most_of state input = slice_index_or state.setup.inputs input None

-- where there is such a number, this is the next group
abbrev pub next_number : Option ℕ → ℕ → Option ℕ
next_number None started = None
next_number (Some most) started = Some started

-- the group of what is gathered next of an input: where the input is tracked, the next number
abbrev pub group_for : CoreState → ℕ → Option ℕ
group_for state input = next_number (most_of state input) state.tracker.started

-- a group begins, where there is one, with so many copies
abbrev pub start_group : TrackerState → Option ℕ → ℕ → ℕ → TrackerState
start_group tracker None input copies = tracker
start_group tracker (Some group) input copies = after_start tracker input copies

-- what is told as it begins: without copies it settles at once
abbrev pub reports_started : TrackerState → Option ℕ → ℕ → ℕ → List Report
reports_started tracker None input copies = []
reports_started tracker (Some group) input copies = option_to_list (start_report tracker input copies)

-- what is told as metrics are gathered
abbrev pub gather_reports : CoreState → Gathered → List Report
gather_reports state g = reports_started state.tracker (group_for state g.input) g.input (length g.metrics)

-- the entry of what was gathered, with a group and reports
abbrev pub entry_of : Gathered → Option ℕ → List Report → Entry
entry_of g group reports =
    entries.Gather g.input g.moment g.pieces g.refused g.passed g.filtered g.metrics group reports

-- and what it says
abbrev pub said_of : Gathered → Option ℕ → List Report → GatherSays
said_of g group reports =
    gather_says g.input g.moment g.pieces g.refused g.passed g.filtered g.metrics group reports

-- the entry of what was gathered
unfoldable pub gather_entry : CoreState → Gathered → Entry
gather_entry state g = entry_of g (group_for state g.input) (gather_reports state g)

-- an input's numbers with what was gathered, which is a group of it where it is tracked
abbrev pub gathered_too : InputNumbers → Gathered → Bool → InputNumbers
gathered_too x g tracked =
    let more : InputNumbers = gathered_more x g.pieces g.refused g.passed g.filtered (length g.metrics) in
    record more { undelivered = more.undelivered + (if tracked then 1 else 0) }

-- the metrics become raw items
abbrev pub after_gather : CoreState → Gathered → CoreState
after_gather state g = record state {
  raw = state.raw ++ g.metrics;
  made = state.made ++ replicate (length g.metrics) false;
  groups = state.groups ++ replicate (length g.metrics) (group_for state g.input);
  tracker = start_group state.tracker (group_for state g.input) g.input (length g.metrics);
  told = told_with state.told (gather_reports state g);
  numbers =
      with_reports (with_input state.numbers g.input
      (gathered_too (input_numbers state.numbers g.input) g (is_some (most_of state g.input))))
      (gather_reports state g);
  stored = state.stored ++ gather_entry state g ∷ [];
  gathered = state.gathered + length g.metrics;
}

-- all gathered metrics with so many more are fewer than 2^32
abbrev pub FitsRun : CoreState → ℕ → Type 0
FitsRun state count = state.gathered + count < 2 ^ 32

-- no item is raw, or the raw ones with so many more are at most 10,000
abbrev pub FitsRaw : CoreState → ℕ → Type 0
FitsRaw state count = (length state.raw ≡ 0) ⊎ (length state.raw + count ≤ 10000)

-- the input isn't tracked, or has fewer live groups than it may have
abbrev pub HasGroup : CoreState → ℕ → Type 0
HasGroup state input = IfSome (most_of state input) (λ most. live_of state.tracker input < most)

abbrev pub HasNumbers : CoreState → Gathered → Type 0
HasNumbers state g = FitsRun state (length g.metrics)

abbrev pub HasRawRoom : CoreState → Gathered → Type 0
HasRawRoom state g = FitsRaw state (length g.metrics)

-- there are fewer than 2^63 items with these
abbrev pub HasItems : CoreState → Gathered → Type 0
HasItems state g = state.taken + length state.raw + length g.metrics < 2 ^ 63

-- which answer comes when, and that a refusal hands back what was handed in
abbrev pub IsGatherAnswer : CoreState → Gathered → Result (Unit {0}) GatherRefused → Type 0
IsGatherAnswer state g (Ok done) = HasNumbers state g × HasGroup state g.input × HasRawRoom state g
IsGatherAnswer state g (Err OutOfMemory) = HasNumbers state g × HasGroup state g.input × HasRawRoom state g
IsGatherAnswer state g (Err (RunFull back)) = (back ≡ g) × ¬ HasNumbers state g
IsGatherAnswer state g (Err (HeldUndelivered back)) = (back ≡ g) × HasNumbers state g × ¬ HasGroup state g.input
IsGatherAnswer state g (Err (HeldRaw back)) =
    (back ≡ g) × HasNumbers state g × HasGroup state g.input × ¬ HasRawRoom state g

-- whether so many metrics of an input may come, and why not
abbrev pub IsAdmitted : CoreState → ℕ → ℕ → Admission → Type 0
IsAdmitted state input count Admitted = FitsRun state count × HasGroup state input × FitsRaw state count
    × (state.taken + length state.raw + count < 2 ^ 63) × AreBelow (2 ^ 63) state.numbers
    × (state.tracker.started < 2 ^ 63)
IsAdmitted state input count admissions.RunFull = ¬ FitsRun state count
IsAdmitted state input count admissions.HeldUndelivered = FitsRun state count × ¬ HasGroup state input
IsAdmitted state input count admissions.HeldRaw =
    FitsRun state count × HasGroup state input × ¬ FitsRaw state count
IsAdmitted state input count TooMany = FitsRun state count × HasGroup state input × FitsRaw state count

-- the input has ended
abbrev pub after_ended : CoreState → ℕ → CoreState
after_ended state input = record state {
  numbers = with_input state.numbers input (record (input_numbers state.numbers input) { has_ended = true });
  stored = state.stored ++ entries.Ended input ∷ [];
  ended = slice_set state.ended input true;
}

-- the oldest raw item is in hand
abbrev pub after_take : CoreState → CoreState
after_take state = record state {
  raw = drop 1 state.raw;
  taken = state.taken + 1;
  held = Some state.taken;
  stored = state.stored ++ entries.Take state.taken ∷ [];
}

-- the group of the item in hand
abbrev pub held_group : CoreState → Option ℕ
held_group state = slice_index_or state.groups 0 None

-- the copies that are let go as the item in hand is routed: those that its views push out, and itself
abbrev pub route_copies : CoreState → Routed → Verdict → List Copy
route_copies state r verdict = routed_copies verdict r.outs state.marked ++ copy_of false (held_group state)

-- the groups, once the new copies of the item in hand are held
abbrev pub route_tracker : CoreState → Routed → Verdict → TrackerState
route_tracker state r verdict = held_routed state.tracker (held_group state) verdict r.outs

-- what is told as the item in hand is routed
abbrev pub route_reports : CoreState → Routed → Verdict → List Report
route_reports state r verdict = reports_with (route_tracker state r verdict) (route_copies state r verdict)

-- the entry of what was routed with a verdict
unfoldable pub route_entry : CoreState → Routed → Verdict → Entry
route_entry state r verdict = entries.Route r.item r.whole verdict r.aggs r.outs (route_reports state r verdict)

-- an output's lane, once an item's view was offered
abbrev pub lane_with : ℕ → Option Content → LaneState Offer → LaneState Offer
lane_with item None x = x
lane_with item (Some view) x = lane.after_push x (record { item = item; view = view })

-- an output's numbers, once a view was buffered: where as many wait as may, the oldest is dropped
abbrev pub buffered_more : LaneState Offer → OutputNumbers → OutputNumbers
buffered_more at x =
    if length at.waiting == at.limit
    then dropped_more (record x { buffered = x.buffered + 1 }) 1
    else record x { buffered = x.buffered + 1 }

-- an output's numbers, once its view was offered; without one the metric was filtered
abbrev pub numbers_with : Option Content → LaneState Offer → OutputNumbers → OutputNumbers
numbers_with None at x = record x { filtered = x.filtered + 1 }
numbers_with (Some view) at x = buffered_more at x

-- few enough metrics came to an output that one more may
pub record HasFew (x : OutputNumbers) (at : LaneState Offer) : Type 0 where
  pub filtered : x.filtered < 2 ^ 63
  pub late : x.late < 2 ^ 63
  pub consumed : x.consumed < 2 ^ 63
  pub buffered : x.buffered < 2 ^ 63
  pub dropped : x.dropped < 2 ^ 63
  pub pushed : at.pushed < 2 ^ 63

-- each output's lane, once the item's view there was offered
abbrev pub lanes_with : ℕ → List (Option Content) → List (LaneState Offer) → List (LaneState Offer)
lanes_with item outs lanes =
    map (λ (x : ℕ × LaneState Offer). lane_with item (view_at x.0 outs) x.1) (enumerate_from 0 lanes)

-- each output's numbers, once its view was offered
abbrev pub outputs_with : List (Option Content) → List (LaneState Offer) → List OutputNumbers →
    List OutputNumbers
outputs_with outs lanes all =
    map (λ (x : ℕ × OutputNumbers). numbers_with (view_at x.0 outs) (lane_at lanes x.0) x.1)
    (enumerate_from 0 all)

-- an output's numbers, once a metric came too late for a window, or an aggregator kept it
abbrev pub late_more : OutputNumbers → OutputNumbers
late_more x = record x { late = x.late + 1 }

abbrev pub consumed_more : OutputNumbers → OutputNumbers
consumed_more x = record x { consumed = x.consumed + 1 }

-- the lanes, once an item was routed with a verdict: one that passes is offered to them
abbrev pub lanes_routed : ℕ → Verdict → List (Option Content) → List (LaneState Offer) →
    List (LaneState Offer)
lanes_routed item verdicts.Passes outs lanes = lanes_with item outs lanes
lanes_routed item _ outs lanes = lanes

-- the groups at an output, once an item's view was offered
abbrev pub marked_with : Option ℕ → Option Content → LaneState (Option ℕ) → LaneState (Option ℕ)
marked_with group None x = x
marked_with group (Some view) x = lane.after_push x group

-- the groups at each output, once an item of a group was routed with a verdict
abbrev pub marked_routed : Option ℕ → Verdict → List (Option Content) → List (LaneState (Option ℕ)) →
    List (LaneState (Option ℕ))
marked_routed group verdicts.Passes outs all =
    map (λ (x : ℕ × LaneState (Option ℕ)). marked_with group (view_at x.0 outs) x.1) (enumerate_from 0 all)
marked_routed group _ outs all = all

-- the numbers, once an item was routed with a verdict: one that was removed counts as such, and another at
-- each output
abbrev pub numbers_routed : Verdict → List (Option Content) → List (LaneState Offer) → Numbers → Numbers
numbers_routed verdicts.Passes outs lanes numbers =
    record numbers { routed = numbers.routed + 1; outputs = outputs_with outs lanes numbers.outputs }
numbers_routed verdicts.Consumed outs lanes numbers =
    record numbers { routed = numbers.routed + 1; outputs = map consumed_more numbers.outputs }
numbers_routed verdicts.Late outs lanes numbers =
    record numbers { routed = numbers.routed + 1; outputs = map late_more numbers.outputs }
numbers_routed verdicts.Removed outs lanes numbers = record numbers { removed = numbers.removed + 1 }

-- nothing is in hand, and the item is offered and counted by its verdict; the aggregators keep this
abbrev pub after_route : CoreState → Routed → Verdict → BankMemory → CoreState
after_route state r verdict bank = record state {
  held = None;
  made = drop 1 state.made;
  groups = drop 1 state.groups;
  tracker = after_copies (route_tracker state r verdict) (route_copies state r verdict);
  bank = bank;
  lanes = lanes_routed r.item verdict r.outs state.lanes;
  marked = marked_routed (held_group state) verdict r.outs state.marked;
  told = told_with state.told (route_reports state r verdict);
  numbers =
      with_reports (numbers_routed verdict r.outs state.lanes state.numbers) (route_reports state r verdict);
  stored = state.stored ++ route_entry state r verdict ∷ [];
}

-- the moment that counts is the greater one
abbrev pub moment_at : CoreState → ℤ → ℤ
moment_at state moment = int_max moment state.counted

-- what was made becomes raw items
abbrev pub with_made : List Content → CoreState → CoreState
with_made metrics state = record state {
  raw = state.raw ++ metrics;
  made = state.made ++ replicate (length metrics) true;
  groups = state.groups ++ replicate (length metrics) None;
  numbers = record state.numbers { made = state.numbers.made + length metrics };
}

-- the entry of a tick at a moment, by which these metrics were made
unfoldable pub tick_entry : CoreState → ℤ → List Content → Entry
tick_entry state moment metrics = entries.Tick (moment_at state moment) metrics

-- what the windows made is raw; the aggregators keep this
abbrev pub after_tick : CoreState → ℤ → List Content → BankMemory → CoreState
after_tick state moment metrics bank = with_made metrics (record state {
  bank = bank;
  stored = state.stored ++ tick_entry state moment metrics ∷ [];
  counted = moment_at state moment;
})

-- the entry of the stop at a moment, by which these metrics were made
unfoldable pub stop_entry : CoreState → ℤ → List Content → Entry
stop_entry state moment metrics = entries.Stop (moment_at state moment) metrics

-- the same, and nothing is gathered any more
abbrev pub after_stop : CoreState → ℤ → List Content → BankMemory → CoreState
after_stop state moment metrics bank = with_made metrics (record state {
  bank = bank;
  stored = state.stored ++ stop_entry state moment metrics ∷ [];
  counted = moment_at state moment;
  stopped = true;
})

-- the output's batch is in flight, of the positions from the first to before the second
abbrev pub after_begin : CoreState → ℕ → ℕ → ℕ → CoreState
after_begin state output from to = record state {
  lanes = slice_set state.lanes output (lane.after_begin (lane_at state.lanes output));
  marked = slice_set state.marked output (lane.after_begin (marked_at state.marked output));
  stored = state.stored ++ entries.Begin output from to ∷ [];
}

-- an output's lane, once its batch was accepted, or failed
abbrev pub lane_done : Bool → LaneState Offer → LaneState Offer
lane_done true x = lane.after_accept x
lane_done false x = lane.after_fail x

-- the positions of the oldest waiting metrics, as many as a batch has at most
pub record IsBatchOf (x : LaneState Offer) (batch : Batch) : Type 0 where
  pub from : batch.from ≡ lane.waiting_from x
  pub to : batch.to ≡ lane.waiting_from x + min x.batch (length x.waiting)

-- the views of these metrics
abbrev pub batch_views : LaneState Offer → List Content
batch_views x = offered_views (take x.batch x.waiting)

-- how many metrics leave an output as its batch is accepted, or fails
abbrev pub count_done : Bool → LaneState Offer → ℕ
count_done true x = length (lane.flying x)
count_done false x = length (lane.failed_out x)

-- an output's numbers, once so many buffered metrics left as its batch was accepted, or failed
abbrev pub counted_done : Bool → ℕ → OutputNumbers → OutputNumbers
counted_done true n x = written_more x n
counted_done false n x = dropped_more x n

-- the copies that an output lets go as its batch is accepted, or fails
abbrev pub copies_done : CoreState → ℕ → Bool → List Copy
copies_done state output ok = done_copies ok (marked_at state.marked output)

-- what is told then
abbrev pub done_reports : CoreState → ℕ → Bool → List Report
done_reports state output ok = reports_with state.tracker (copies_done state output ok)

-- the entry of a batch that was accepted, or failed
unfoldable pub done_entry : CoreState → ℕ → Bool → Entry
done_entry state output ok = entries.Done output ok (done_reports state output ok)

-- the groups at an output, once its batch was accepted, or failed
abbrev pub marked_done : Bool → LaneState (Option ℕ) → LaneState (Option ℕ)
marked_done true x = lane.after_accept x
marked_done false x = lane.after_fail x

-- no batch of the output is in flight: its metrics are written, or wait again, and of these the oldest are
-- dropped where there are too many
abbrev pub after_done : CoreState → ℕ → Bool → CoreState
after_done state output ok = record state {
  tracker = after_copies state.tracker (copies_done state output ok);
  lanes = slice_set state.lanes output (lane_done ok (lane_at state.lanes output));
  marked = slice_set state.marked output (marked_done ok (marked_at state.marked output));
  told = told_with state.told (done_reports state output ok);
  numbers =
      with_reports (with_output state.numbers output
      (counted_done ok (count_done ok (lane_at state.lanes output)) (output_numbers state.numbers output)))
      (done_reports state output ok);
  stored = state.stored ++ done_entry state output ok ∷ [];
}

-- no entry is stored
abbrev pub after_cut : CoreState → CoreState
after_cut state = record state { stored = [] }

-- the oldest report of an input was handed out, where there is one
abbrev pub after_told : CoreState → ℕ → CoreState
after_told state input = record state { told = slice_set state.told input (drop 1 (told_at state.told input)) }
