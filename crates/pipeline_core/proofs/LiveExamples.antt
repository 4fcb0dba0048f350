-- Journals in which the limit of an input is asked. The first one has two tracked inputs and one between them that
-- isn't tracked; in the second one an aggregator takes an item, and another one comes late. What is expected is written
-- from the meanings: the groups and the reports stand in the entries, and the numbers below.
use Rattle.std.proofs.Common.{◌≡◌, ℕ, Bool, true, false, List, [], ◌∷◌, ◌++◌, map, refl, arith}
use Rattle.std.proofs.lemmas.Int.{ints}
use Rattle.std.specs.Prelude.{ℤ, pos, ◌≤ℤ◌}
use Rattle.std.specs.declared.option.Option.{Option}
use Rattle.std.specs.declared.option.Option.TheVariants.{Some, None}
use Rattle.metric.specs.declared.metric.Content.{Content}
use Rattle.account.specs.Setup.{Setup}
use Rattle.account.specs.Items.{items, taken, routes, in_hand_from}
use Rattle.account.specs.Numbers.{unread_input}
use Rattle.account.specs.Origins.{origins, group_inputs, is_made}
use Rattle.account.specs.declared.entry.Entry.{Entry}
use Rattle.account.specs.declared.entry.Entry.TheVariants.{Gather, Take, Route, Tick, Begin, Done}
use Rattle.account.specs.declared.entry.Report.{Report}
use Rattle.account.specs.declared.entry.Verdict.{Verdict}
use Rattle.account.specs.declared.entry.Verdict.TheVariants.{Consumed, Late}
use Rattle.account.specs.declared.numbers.InputNumbers.{InputNumbers}
use Rattle.account.specs.declared.setup.AggWord.TheVariants.{MinMax}
use Rattle.agg_bank.specs.Made.{made_from}
use Rattle.out_lane.specs.LaneEvents.{ranges_from, accepted_from}
use Rattle.pipeline_core.specs.Offers.{offers, lane_events}
use Rattle.pipeline_core.specs.Fates.{fates_from}
use Rattle.pipeline_core.specs.Groups.{copies, live_count, reports_at}
use Rattle.pipeline_core.specs.Legal.{Meets, IsLegal, has_stop, has_ended, gathered_count, counted_from}
use Rattle.pipeline_core.specs.Totals.{totals, input_total_from, reported_with}
use Rattle.pipeline_core.specs.Windows.{judged, made_by_tick}
use Rattle.pipeline_core.proofs.GroupExamples.{both, first, second}
use Rattle.pipeline_core.proofs.LegalSteps.{held, meets, next, none_legal}
use Rattle.pipeline_core.proofs.TrackedExamples.{tracked}

-- Two tracked inputs, which may have two live groups and one, and one between them that isn't tracked; two outputs with
-- batches of one and room for one.
abbrev pub setup : Setup
setup =
    record { start = pos 0; inputs = Some 2 ∷ None ∷ Some 1 ∷ []; aggs = []; outputs = (1, 1) ∷ (1, 1) ∷ [] }

-- the next pieces of an input
abbrev pub pieces : ℕ → Option ℕ → List Content → List Report → Entry
pieces input number metrics reports = Gather input (pos 0) 1 0 0 0 metrics number reports

-- what was told of a group of an input
abbrev pub told : ℕ → ℕ → Bool → List Report
told number input delivered = record { group = number; input = input; delivered = delivered } ∷ []

-- one metric of each input: A is group 0, D is of no group, and B is group 1
abbrev pub gathered : Content → Content → Content → List Entry
gathered a d b =
    pieces 0 (Some 0) (a ∷ []) [] ∷ pieces 1 None (d ∷ []) [] ∷ pieces 2 (Some 1) (b ∷ []) [] ∷ []

-- A comes to the first output, D to the second one, and B to both, where it takes their places: group 0 is rejected.
-- The first output's batch fails, and B goes back. The second one accepts it, and it is still at the first one.
abbrev pub before : Content → Content → Content → List Entry
before a d b =
    gathered a d b
    ++ Take 0
    ∷ first a 0 []
    ∷ Take 1
    ∷ second d 1 []
    ∷ Take 2
    ∷ both b 2 (told 0 0 false)
    ∷ Begin 0 1 2
    ∷ Done 0 false []
    ∷ Begin 1 1 2
    ∷ Done 1 true []
    ∷ Begin 0 1 2
    ∷ []

-- the first output accepts B, so that group 1 of the last input is delivered
abbrev pub journal : Content → Content → Content → List Entry
journal a d b = before a d b ++ Done 0 true (told 1 2 true) ∷ []

-- the journal is legal, with the groups and the reports as they are written
pub legal : (a d b : Content) → IsLegal setup (journal a d b)
unfolding reports_at origins items taken routes in_hand_from group_inputs offers lane_events fates_from ranges_from
    accepted_from has_stop has_ended gathered_count judged
legal a d b =
    let l1 = next setup [] (none_legal setup) (pieces 0 (Some 0) (a ∷ []) []) refl refl in
    let l2 = next setup _ l1 (pieces 1 None (d ∷ []) []) refl refl in
    let l3 = next setup _ l2 (pieces 2 (Some 1) (b ∷ []) []) refl refl in
    let l4 = next setup _ l3 (Take 0) refl refl in
    let l5 = next setup _ l4 (first a 0 []) (refl, tt, tt) refl in
    let l6 = next setup _ l5 (Take 1) refl refl in
    let l7 = next setup _ l6 (second d 1 []) (refl, tt, tt) refl in
    let l8 = next setup _ l7 (Take 2) refl refl in
    let l9 = next setup _ l8 (both b 2 (told 0 0 false)) (refl, tt, tt) refl in
    let l10 = next setup _ l9 (Begin 0 1 2) refl refl in
    let l11 = next setup _ l10 (Done 0 false []) (refl, tt) refl in
    let l12 = next setup _ l11 (Begin 1 1 2) refl refl in
    let l13 = next setup _ l12 (Done 1 true []) (refl, tt) refl in
    let l14 = next setup _ l13 (Begin 0 1 2) refl refl in
    next setup _ l14 (Done 0 true (told 1 2 true)) (refl, tt) refl

-- how many groups of the three inputs are live
abbrev pub live : List Entry → List ℕ
live es = map (live_count setup es) (0 ∷ 1 ∷ 2 ∷ [])

-- one of the first input and one of the last one, while no item was routed yet
pub live_gathered : (a d b : Content) → live (gathered a d b) ≡ 1 ∷ 0 ∷ 1 ∷ []
unfolding origins items taken routes group_inputs offers lane_events fates_from ranges_from accepted_from
live_gathered a d b = refl

-- and none behind the last entry
pub live_last : (a d b : Content) → live (journal a d b) ≡ 0 ∷ 0 ∷ 0 ∷ []
unfolding origins items taken routes group_inputs offers lane_events fates_from ranges_from accepted_from
live_last a d b = refl

-- next pieces of the last input may not come while its group is live, though no metric is in them
pub last_is_held : (a d b : Content) (number : Option ℕ) (reports : List Report) →
    ¬ Meets setup (gathered a d b) (pieces 2 number [] reports)
unfolding origins items taken routes group_inputs offers lane_events fates_from ranges_from accepted_from
last_is_held a d b number reports h = held setup (gathered a d b) _ refl h.line

-- those of the first input may, which has one live group as well
pub first_may_come : (a d b : Content) →
    Meets setup (gathered a d b) (pieces 0 (Some 2) [] (told 2 0 true))
unfolding reports_at origins items taken routes group_inputs offers lane_events fates_from ranges_from accepted_from
    has_stop has_ended gathered_count
first_may_come a d b = meets setup _ (pieces 0 (Some 2) [] (told 2 0 true)) refl refl

-- and those of the last one may come behind the last entry
pub last_may_come : (a d b : Content) →
    Meets setup (journal a d b) (pieces 2 (Some 2) [] (told 2 2 true))
unfolding reports_at origins items taken routes group_inputs offers lane_events fates_from ranges_from accepted_from
    has_stop has_ended gathered_count
last_may_come a d b = meets setup _ (pieces 2 (Some 2) [] (told 2 2 true)) refl refl

-- the numbers of the input that isn't tracked
abbrev pub plain : InputNumbers
plain = record (unread_input false) { pieces = 1; gathered = 1 }

-- those of the inputs before the last entry: group 1 hasn't settled
pub totals_before : (a d b : Content) → (totals setup (before a d b)).inputs ≡
    tracked 1 1 0 1 0 false ∷ plain ∷ tracked 1 1 0 0 1 false ∷ []
unfolding input_total_from reported_with
totals_before a d b = refl

-- and behind it
pub totals_last : (a d b : Content) → (totals setup (journal a d b)).inputs ≡
    tracked 1 1 0 1 0 false ∷ plain ∷ tracked 1 1 1 0 0 false ∷ []
unfolding input_total_from reported_with
totals_last a d b = refl

-- An input that may have one live group, an aggregator that keeps from the output what it takes in windows of 60 ns,
-- and an output with batches of one and room for one.
abbrev pub windows_setup : Setup
windows_setup = record {
  start = pos 60;
  inputs = Some 1 ∷ [];
  aggs = record { kind = MinMax; period = pos 60; delay = pos 0; grace = pos 0; dropping = true } ∷ [];
  outputs = (1, 1) ∷ [];
}

-- a metric of a moment
abbrev pub at : ℤ → Content → Content
at moment m = record m { time = moment }

-- its view at the aggregator, and at the output
abbrev pub view : ℤ → Content → List (Option Content)
view moment m = Some (at moment m) ∷ []

-- an item of a moment with this verdict
abbrev pub judge : ℤ → Content → ℕ → Verdict → List Report → Entry
judge moment m item verdict reports =
    Route item (Some (at moment m)) verdict (view moment m) (view moment m) reports

-- The run begins with the second window. Group 0 is of the first one, and so comes late; group 1 is consumed. The Tick
-- closes no window.
abbrev pub windows : Content → List Entry
windows m =
    pieces 0 (Some 0) (at (pos 10) m ∷ []) []
    ∷ Take 0
    ∷ judge (pos 10) m 0 Late (told 0 0 true)
    ∷ pieces 0 (Some 1) (at (pos 70) m ∷ []) []
    ∷ Tick (pos 110) []
    ∷ Take 1
    ∷ judge (pos 70) m 1 Consumed (told 1 0 true)
    ∷ []

at_tick : pos 60 ≤ℤ pos 110
at_tick = grind (arith, ints)

-- the journal is legal: a group that comes late is delivered, and so is one that is consumed
pub windows_legal : (m : Content) → IsLegal windows_setup (windows m)
unfolding reports_at origins items taken routes in_hand_from group_inputs offers lane_events fates_from ranges_from
    accepted_from has_stop has_ended gathered_count counted_from judged made_by_tick made_from
windows_legal m =
    let l1 = next windows_setup [] (none_legal windows_setup) (pieces 0 (Some 0) (at (pos 10) m ∷ []) []) refl refl in
    let l2 = next windows_setup _ l1 (Take 0) refl refl in
    let l3 = next windows_setup _ l2 (judge (pos 10) m 0 Late (told 0 0 true)) (refl, tt, tt) refl in
    let l4 = next windows_setup _ l3 (pieces 0 (Some 1) (at (pos 70) m ∷ []) []) refl refl in
    let l5 = next windows_setup _ l4 (Tick (pos 110) []) (refl, refl, at_tick) refl in
    let l6 = next windows_setup _ l5 (Take 1) refl refl in
    next windows_setup _ l6 (judge (pos 70) m 1 Consumed (told 1 0 true)) (refl, tt, tt) refl

-- a Tick names a metric while group 0 is live
abbrev pub ticked : Content → Content → List Entry
ticked m x = pieces 0 (Some 0) (m ∷ []) [] ∷ Tick (pos 60) (x ∷ []) ∷ []

-- it is an item that was made, which that of the group wasn't
pub tick_makes : (m x : Content) → map (is_made (ticked m x)) (0 ∷ 1 ∷ []) ≡ false ∷ true ∷ []
unfolding origins
tick_makes m x = refl

-- and no copy of the group, which has the one that was gathered
pub tick_adds_no_copy : (m x : Content) → copies windows_setup (ticked m x) 0 ≡ 1
unfolding origins routes offers lane_events fates_from ranges_from accepted_from
tick_adds_no_copy m x = refl
