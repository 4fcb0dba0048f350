-- A journal of an input that isn't tracked and of one that is, with two outputs: that it is legal, what was counted
-- behind each of its entries, and that a group more than the input may have is held. What is expected is written from
-- the meanings: the reports stand in the entries, and the numbers below.
use Rattle.std.proofs.Common.{◌≡◌, ℕ, Bool, true, false, List, [], ◌∷◌, ◌++◌, refl}
use Rattle.std.proofs.Common.{arith}
use Rattle.std.proofs.lemmas.Int.{ints}
use Rattle.std.specs.Prelude.{pos, ◌≤ℤ◌}
use Rattle.std.specs.declared.option.Option.TheVariants.{Some, None}
use Rattle.metric.specs.declared.metric.Content.{Content}
use Rattle.account.specs.Setup.{Setup}
use Rattle.account.specs.Items.{items, taken, routes, in_hand_from}
use Rattle.account.specs.Numbers.{Numbers, unread_input, unreached_output}
use Rattle.account.specs.Origins.{origins, group_inputs}
use Rattle.account.specs.declared.entry.Entry.{Entry}
use Rattle.account.specs.declared.entry.Entry.TheVariants.{Gather, Ended, Take, Stop, Begin, Done}
use Rattle.account.specs.declared.entry.Report.{Report}
use Rattle.account.specs.declared.numbers.InputNumbers.{InputNumbers}
use Rattle.account.specs.declared.numbers.OutputNumbers.{OutputNumbers}
use Rattle.out_lane.specs.LaneEvents.{ranges_from, accepted_from}
use Rattle.pipeline_core.specs.Offers.{offers, lane_events}
use Rattle.pipeline_core.specs.Fates.{fates_from}
use Rattle.pipeline_core.specs.Groups.{live_count, reports_at}
use Rattle.pipeline_core.specs.Legal.{Meets, IsLegal, has_stop, has_ended, gathered_count, counted_from}
use Rattle.pipeline_core.specs.Totals.{totals, total_by, input_total_from, reported_with}
use Rattle.agg_bank.specs.Made.{made_from}
use Rattle.pipeline_core.specs.Windows.{judged, made_by_stop}
use Rattle.pipeline_core.proofs.GroupExamples.{both, first, second, each}
use Rattle.pipeline_core.proofs.LegalSteps.{held, next, none_legal}

-- an input that isn't tracked, and one that may have two live groups; an output with batches of one and room for one,
-- and one with batches of two and room for two
abbrev pub setup : Setup
setup = record { start = pos 0; inputs = None ∷ Some 2 ∷ []; aggs = []; outputs = (1, 1) ∷ (2, 2) ∷ [] }

-- a group with these metrics
abbrev pub group : ℕ → List Content → Entry
group number metrics = Gather 1 (pos 0) 1 0 0 0 metrics (Some number) []

-- what was told of a group
abbrev pub told : ℕ → Bool → List Report
told number delivered = record { group = number; input = 1; delivered = delivered } ∷ []

-- The first entries: item 0 is of no group, item 1 is group 0, and items 2 and 3 are group 1.
abbrev pub front : Content → List Entry
front m = Gather 0 (pos 0) 5 1 2 3 (m ∷ []) None [] ∷ group 0 (m ∷ []) ∷ group 1 (m ∷ m ∷ []) ∷ []

-- The others: items 2 and 3 come to the second output, so that item 0 is dropped there, and then item 1: group 0 is
-- rejected. Group 2, which is item 4, comes in its place. The second output accepts items 2 and 3, which is all of
-- group 1. Item 4 comes to the first output, where item 0 is dropped for it; its batch fails, goes back, and is
-- accepted then.
abbrev pub back : Content → List Entry
back m =
    Take 0
    ∷ both m 0 []
    ∷ Take 1
    ∷ second m 1 []
    ∷ Take 2
    ∷ second m 2 []
    ∷ Take 3
    ∷ second m 3 (told 0 false)
    ∷ group 2 (m ∷ [])
    ∷ Begin 1 2 4
    ∷ Done 1 true (told 1 true)
    ∷ Take 4
    ∷ first m 4 []
    ∷ Begin 0 1 2
    ∷ Done 0 false []
    ∷ Begin 0 1 2
    ∷ Done 0 true (told 2 true)
    ∷ Ended 1
    ∷ Ended 0
    ∷ Stop (pos 7) []
    ∷ []

abbrev pub journal : Content → List Entry
journal m = front m ++ back m

at_last : pos 0 ≤ℤ pos 7
at_last = grind (arith, ints)

-- the journal is legal, entry by entry
pub legal : (m : Content) → IsLegal setup (journal m)
unfolding reports_at origins items taken routes in_hand_from group_inputs offers lane_events fates_from ranges_from
    accepted_from has_stop has_ended gathered_count counted_from judged made_by_stop made_from
legal m =
    let l1 = next setup [] (none_legal setup) (Gather 0 (pos 0) 5 1 2 3 (m ∷ []) None []) refl refl in
    let l2 = next setup _ l1 (group 0 (m ∷ [])) refl refl in
    let l3 = next setup _ l2 (group 1 (m ∷ m ∷ [])) refl refl in
    let l4 = next setup _ l3 (Take 0) refl refl in
    let l5 = next setup _ l4 (both m 0 []) (refl, tt, tt) refl in
    let l6 = next setup _ l5 (Take 1) refl refl in
    let l7 = next setup _ l6 (second m 1 []) (refl, tt, tt) refl in
    let l8 = next setup _ l7 (Take 2) refl refl in
    let l9 = next setup _ l8 (second m 2 []) (refl, tt, tt) refl in
    let l10 = next setup _ l9 (Take 3) refl refl in
    let l11 = next setup _ l10 (second m 3 (told 0 false)) (refl, tt, tt) refl in
    let l12 = next setup _ l11 (group 2 (m ∷ [])) refl refl in
    let l13 = next setup _ l12 (Begin 1 2 4) refl refl in
    let l14 = next setup _ l13 (Done 1 true (told 1 true)) (refl, tt) refl in
    let l15 = next setup _ l14 (Take 4) refl refl in
    let l16 = next setup _ l15 (first m 4 []) (refl, tt, tt) refl in
    let l17 = next setup _ l16 (Begin 0 1 2) refl refl in
    let l18 = next setup _ l17 (Done 0 false []) (refl, tt) refl in
    let l19 = next setup _ l18 (Begin 0 1 2) refl refl in
    let l20 = next setup _ l19 (Done 0 true (told 2 true)) (refl, tt) refl in
    let l21 = next setup _ l20 (Ended 1) refl refl in
    let l22 = next setup _ l21 (Ended 0) refl refl in
    next setup _ l22 (Stop (pos 7) []) (refl, refl, at_last) refl

-- a third group may not come while two are live
pub third_is_held : (m : Content) → ¬ Meets setup (front m) (group 2 (m ∷ []))
unfolding origins items taken routes group_inputs offers lane_events fates_from ranges_from accepted_from
third_is_held m h = held setup (front m) _ refl h.line

-- how many groups of two inputs are live behind an entry
abbrev pub live_behind : Setup → List Entry → Entry → ℕ × ℕ
live_behind setup before e = (live_count setup (before ++ e ∷ []) 0, live_count setup (before ++ e ∷ []) 1)

pub live_behind_each : (m : Content) → each (live_behind setup) [] (journal m) ≡
    (0, 0) ∷ (0, 1) ∷ (0, 2) ∷ (0, 2) ∷ (0, 2) ∷ (0, 2) ∷ (0, 2) ∷ (0, 2) ∷ (0, 2) ∷ (0, 2) ∷ (0, 1) ∷ (0, 2)
    ∷ (0, 2) ∷ (0, 1) ∷ (0, 1) ∷ (0, 1) ∷ (0, 1) ∷ (0, 1) ∷ (0, 1) ∷ (0, 0) ∷ (0, 0) ∷ (0, 0) ∷ (0, 0) ∷ []
unfolding each origins items taken routes group_inputs offers lane_events fates_from ranges_from accepted_from
live_behind_each m = refl

-- the numbers of the input that isn't tracked once it was read, and once it has ended
abbrev pub plain : Bool → InputNumbers
plain has_ended = record (unread_input false) {
  pieces = 5;
  refused = 1;
  passed = 2;
  filtered = 3;
  gathered = 1;
  has_ended = has_ended;
}

-- those of the tracked one, once so many groups with so many metrics came, by how many were delivered and rejected and
-- how many haven't settled
abbrev pub tracked : ℕ → ℕ → ℕ → ℕ → ℕ → Bool → InputNumbers
tracked groups metrics delivered rejected undelivered has_ended = record (unread_input true) {
  pieces = groups;
  gathered = metrics;
  has_ended = has_ended;
  delivered = delivered;
  rejected = rejected;
  undelivered = undelivered;
}

-- those of an output, by how many metrics were filtered, written, buffered and dropped
abbrev pub sent : ℕ → ℕ → ℕ → ℕ → OutputNumbers
sent filtered written buffered dropped = record unreached_output {
  filtered = filtered;
  written = written;
  buffered = buffered;
  dropped = dropped;
}

-- the totals, by the numbers of both inputs, how many items were routed, and the numbers of both outputs
abbrev pub all : InputNumbers → InputNumbers → ℕ → OutputNumbers → OutputNumbers → Numbers
all x y routed out other =
    record { inputs = x ∷ y ∷ []; made = 0; removed = 0; routed = routed; outputs = out ∷ other ∷ [] }

-- those of the totals that change until an input has ended
abbrev pub row : ℕ → ℕ → ℕ → ℕ → ℕ → ℕ → OutputNumbers → OutputNumbers → Numbers
row groups metrics delivered rejected undelivered routed out other =
    all (plain false) (tracked groups metrics delivered rejected undelivered false) routed out other

-- the totals behind each entry
pub totals_behind_each : (m : Content) → each (λ before e. totals setup (before ++ e ∷ [])) [] (journal m) ≡
    row 0 0 0 0 0 0 (sent 0 0 0 0) (sent 0 0 0 0) ∷ row 1 1 0 0 1 0 (sent 0 0 0 0) (sent 0 0 0 0)
    ∷ row 2 3 0 0 2 0 (sent 0 0 0 0) (sent 0 0 0 0) ∷ row 2 3 0 0 2 0 (sent 0 0 0 0) (sent 0 0 0 0)
    ∷ row 2 3 0 0 2 1 (sent 0 0 1 0) (sent 0 0 1 0) ∷ row 2 3 0 0 2 1 (sent 0 0 1 0) (sent 0 0 1 0)
    ∷ row 2 3 0 0 2 2 (sent 1 0 1 0) (sent 0 0 2 0) ∷ row 2 3 0 0 2 2 (sent 1 0 1 0) (sent 0 0 2 0)
    ∷ row 2 3 0 0 2 3 (sent 2 0 1 0) (sent 0 0 2 1) ∷ row 2 3 0 0 2 3 (sent 2 0 1 0) (sent 0 0 2 1)
    ∷ row 2 3 0 1 1 4 (sent 3 0 1 0) (sent 0 0 2 2) ∷ row 3 4 0 1 2 4 (sent 3 0 1 0) (sent 0 0 2 2)
    ∷ row 3 4 0 1 2 4 (sent 3 0 1 0) (sent 0 0 2 2) ∷ row 3 4 1 1 1 4 (sent 3 0 1 0) (sent 0 2 0 2)
    ∷ row 3 4 1 1 1 4 (sent 3 0 1 0) (sent 0 2 0 2) ∷ row 3 4 1 1 1 5 (sent 3 0 1 1) (sent 1 2 0 2)
    ∷ row 3 4 1 1 1 5 (sent 3 0 1 1) (sent 1 2 0 2) ∷ row 3 4 1 1 1 5 (sent 3 0 1 1) (sent 1 2 0 2)
    ∷ row 3 4 1 1 1 5 (sent 3 0 1 1) (sent 1 2 0 2) ∷ row 3 4 2 1 0 5 (sent 3 1 0 1) (sent 1 2 0 2)
    ∷ all (plain false) (tracked 3 4 2 1 0 true) 5 (sent 3 1 0 1) (sent 1 2 0 2)
    ∷ all (plain true) (tracked 3 4 2 1 0 true) 5 (sent 3 1 0 1) (sent 1 2 0 2)
    ∷ all (plain true) (tracked 3 4 2 1 0 true) 5 (sent 3 1 0 1) (sent 1 2 0 2)
    ∷ []
unfolding each total_by input_total_from reported_with offers lane_events fates_from ranges_from accepted_from
totals_behind_each m = refl
