-- A journal of two tracked inputs, an aggregator and two outputs, in which items come late, are consumed, and are made:
-- where its items came from, what settles when, and what was counted, by the definitions. What is expected is written
-- from the meanings: the groups and the reports stand in the entries, and the rest below. What the aggregator takes and
-- makes isn't asked.
use Rattle.std.proofs.Common.{◌≡◌, ℕ, Bool, true, false, List, [], ◌∷◌, ◌++◌, length, map, refl}
use Rattle.std.specs.Prelude.{pos, slice_index_or}
use Rattle.std.specs.declared.option.Option.{Option}
use Rattle.std.specs.declared.option.Option.TheVariants.{Some, None}
use Rattle.metric.specs.declared.metric.Content.{Content}
use Rattle.account.specs.Setup.{Setup}
use Rattle.account.specs.Says.{GatherSays, gather_of, reports_of}
use Rattle.account.specs.Items.{items, taken, routes}
use Rattle.account.specs.Origins.{Origin, origins, is_made, group_inputs}
use Rattle.account.specs.declared.entry.Entry.{Entry}
use Rattle.account.specs.declared.entry.Entry.TheVariants.{Gather, Take, Route, Tick, Stop, Begin, Done}
use Rattle.account.specs.declared.entry.Report.{Report}
use Rattle.account.specs.declared.entry.Verdict.{Verdict}
use Rattle.account.specs.declared.entry.Verdict.TheVariants.{Passes, Consumed, Late}
use Rattle.account.specs.declared.setup.AggWord.TheVariants.{MinMax}
use Rattle.out_lane.specs.LaneEvents.{ranges_from, accepted_from}
use Rattle.pipeline_core.specs.Offers.{offers, lane_events}
use Rattle.pipeline_core.specs.Fates.{Fate, ItemFate, item_fates, fates_from}
use Rattle.pipeline_core.specs.Fates as fate
use Rattle.pipeline_core.specs.Groups.{copies, settles, next_group, reports_at}
use Rattle.pipeline_core.specs.Order.{routed_since_tick, has_tick, behind_tick}
use Rattle.pipeline_core.specs.Totals.{totals, total_by, input_total_from, reported_with}
use Rattle.pipeline_core.specs.Worked.{pushed}
use Rattle.pipeline_core.proofs.GroupExamples.{each, fated}
use Rattle.pipeline_core.proofs.TrackedExamples.{live_behind, tracked}

-- two inputs that may have three live groups each; outputs with batches of one and room for one
abbrev pub setup : Setup
setup = record {
  start = pos 0;
  inputs = Some 3 ∷ Some 3 ∷ [];
  aggs = record { kind = MinMax; period = pos 60; delay = pos 0; grace = pos 0; dropping = true } ∷ [];
  outputs = (1, 1) ∷ (1, 1) ∷ [];
}

-- what was told of a group of an input
abbrev pub told : ℕ → ℕ → Bool → List Report
told group input delivered = record { group = group; input = input; delivered = delivered } ∷ []

-- a group of an input
abbrev pub group : ℕ → ℕ → List Content → List Report → Entry
group input number metrics reports = Gather input (pos 0) 1 0 0 0 metrics (Some number) reports

-- an item that has a view everywhere, with this verdict
abbrev pub judge : Content → ℕ → Verdict → List Report → Entry
judge m item verdict reports = Route item (Some m) verdict (Some m ∷ []) (Some m ∷ Some m ∷ []) reports

-- an item that goes to the first, or to the second output
abbrev pub first : Content → ℕ → List Report → Entry
first m item reports = Route item (Some m) Passes (None ∷ []) (Some m ∷ None ∷ []) reports

abbrev pub second : Content → ℕ → List Report → Entry
second m item reports = Route item (Some m) Passes (None ∷ []) (None ∷ Some m ∷ []) reports

-- Group 0 of the first input has items 0 and 1, which are both consumed. Group 1 of the second input has item 2, which
-- comes too late. Items 3 and 4 are made. Group 2 of the second input has item 5. Item 3 comes to the first output,
-- where
-- item 4 takes its place, and item 5 to the second one, which accepts it. Group 3 of the first input has no metric.
-- Group
-- 4 of it has item 6, which comes to the first output in the place of item 4. Item 7 is made as the run stops, and
-- takes
-- its place there by the last entry, so that group 4 is rejected.
abbrev pub front : Content → List Entry
front m =
    group 0 0 (m ∷ m ∷ []) []
    ∷ group 1 1 (m ∷ []) []
    ∷ Take 0
    ∷ judge m 0 Consumed []
    ∷ Take 1
    ∷ judge m 1 Consumed (told 0 0 true)
    ∷ Take 2
    ∷ judge m 2 Late (told 1 1 true)
    ∷ Tick (pos 60) (m ∷ m ∷ [])
    ∷ group 1 2 (m ∷ []) []
    ∷ Take 3
    ∷ first m 3 []
    ∷ Take 4
    ∷ first m 4 []
    ∷ Take 5
    ∷ second m 5 []
    ∷ group 0 3 [] (told 3 0 true)
    ∷ Begin 1 0 1
    ∷ Done 1 true (told 2 1 true)
    ∷ group 0 4 (m ∷ []) []
    ∷ Take 6
    ∷ first m 6 []
    ∷ Stop (pos 120) (m ∷ [])
    ∷ Take 7
    ∷ []

-- the last entry
abbrev pub back : Content → List Entry
back m = first m 7 (told 4 0 false) ∷ []

abbrev pub journal : Content → List Entry
journal m = front m ++ back m

-- where an item of a group of an input came from, and one that was made
abbrev pub from : ℕ → ℕ → Origin
from input group = record { input = Some input; group = Some group }

abbrev pub from_none : Origin
from_none = record { input = None; group = None }

pub origins_are : (m : Content) → origins (journal m) ≡
    from 0 0 ∷ from 0 0 ∷ from 1 1 ∷ from_none ∷ from_none ∷ from 1 2 ∷ from 0 4 ∷ from_none ∷ []
unfolding origins
origins_are m = refl

pub made_are : (m : Content) → map (is_made (journal m)) (0 ∷ 1 ∷ 2 ∷ 3 ∷ 4 ∷ 5 ∷ 6 ∷ 7 ∷ []) ≡
    false ∷ false ∷ false ∷ true ∷ true ∷ false ∷ false ∷ true ∷ []
unfolding origins
made_are m = refl

pub inputs_of_groups : (m : Content) → group_inputs (journal m) ≡ 0 ∷ 1 ∷ 1 ∷ 0 ∷ 0 ∷ []
unfolding group_inputs
inputs_of_groups m = refl

-- the group of a Gather, and the one that it has by the definition
abbrev pub group_said : Option GatherSays → Option ℕ
group_said None = None
group_said (Some says) = says.group

abbrev pub group_due : List Entry → Option GatherSays → Option ℕ
group_due before None = None
group_due before (Some says) = next_group (slice_index_or setup.inputs says.input None) before

-- each Gather has the next group
pub each_is_next : (m : Content) → each (λ before e. group_due before (gather_of e)) [] (journal m) ≡ map
    (λ (e : Entry). group_said (gather_of e)) (journal m)
unfolding each group_inputs
each_is_next m = refl

-- each entry has the reports that the definition gives it
pub each_is_told : (m : Content) → each (reports_at setup) [] (journal m) ≡ map reports_of (journal m)
unfolding each reports_at origins items taken routes group_inputs offers lane_events fates_from ranges_from
    accepted_from
each_is_told m = refl

-- the copies of the five groups behind an entry
abbrev pub copies_behind : List Entry → Entry → List ℕ
copies_behind before e = map (copies setup (before ++ e ∷ [])) (0 ∷ 1 ∷ 2 ∷ 3 ∷ 4 ∷ [])

abbrev pub row : ℕ → ℕ → ℕ → ℕ → ℕ → List ℕ
row a b c d e = a ∷ b ∷ c ∷ d ∷ e ∷ []

pub copies_behind_each : (m : Content) → each copies_behind [] (journal m) ≡
    row 2 0 0 0 0 ∷ row 2 1 0 0 0 ∷ row 2 1 0 0 0 ∷ row 1 1 0 0 0 ∷ row 1 1 0 0 0
    ∷ row 0 1 0 0 0 ∷ row 0 1 0 0 0 ∷ row 0 0 0 0 0 ∷ row 0 0 0 0 0 ∷ row 0 0 1 0 0
    ∷ row 0 0 1 0 0 ∷ row 0 0 1 0 0 ∷ row 0 0 1 0 0 ∷ row 0 0 1 0 0 ∷ row 0 0 1 0 0
    ∷ row 0 0 1 0 0 ∷ row 0 0 1 0 0 ∷ row 0 0 1 0 0 ∷ row 0 0 0 0 0 ∷ row 0 0 0 0 1
    ∷ row 0 0 0 0 1 ∷ row 0 0 0 0 1 ∷ row 0 0 0 0 1 ∷ row 0 0 0 0 1 ∷ row 0 0 0 0 0
    ∷ []
unfolding each origins items taken routes group_inputs offers lane_events fates_from ranges_from accepted_from
copies_behind_each m = refl

-- the last entry settles the last group alone
pub last_settles : (m : Content) → each (λ before e. map (settles setup before e) (0 ∷ 1 ∷ 2 ∷ 3 ∷ 4 ∷ [])) (front m)
    (back m) ≡ (false ∷ false ∷ false ∷ false ∷ true ∷ []) ∷ []
unfolding each origins items taken routes group_inputs offers lane_events fates_from ranges_from accepted_from
last_settles m = refl

-- how many groups of both inputs are live behind each entry
pub live_behind_each : (m : Content) → each (live_behind setup) [] (journal m) ≡
    (1, 0) ∷ (1, 1) ∷ (1, 1) ∷ (1, 1) ∷ (1, 1) ∷ (0, 1) ∷ (0, 1) ∷ (0, 0) ∷ (0, 0) ∷ (0, 1) ∷ (0, 1) ∷ (0, 1) ∷ (0, 1)
    ∷ (0, 1) ∷ (0, 1) ∷ (0, 1) ∷ (0, 1) ∷ (0, 1) ∷ (0, 0) ∷ (1, 0) ∷ (1, 0) ∷ (1, 0) ∷ (1, 0) ∷ (1, 0) ∷ (0, 0) ∷ []
unfolding each origins items taken routes group_inputs offers lane_events fates_from ranges_from accepted_from
live_behind_each m = refl

-- how many gathered items were routed since the last Tick, behind each entry
pub routed_behind_each : (m : Content) → each (λ before e. routed_since_tick (before ++ e ∷ [])) [] (journal m) ≡
    0 ∷ 0 ∷ 0 ∷ 1 ∷ 1 ∷ 2 ∷ 2 ∷ 3 ∷ 0 ∷ 0 ∷ 0 ∷ 0 ∷ 0 ∷ 0 ∷ 0 ∷ 1 ∷ 1 ∷ 1 ∷ 1 ∷ 1 ∷ 1 ∷ 2 ∷ 2 ∷ 2 ∷ 2 ∷ []
unfolding each origins behind_tick has_tick
routed_behind_each m = refl

-- how many metrics were pushed to the processors up to an item and with it, where made ones pass them by and where they
-- don't
abbrev pub pushed_both : List Entry → ℕ → ℕ × ℕ
pushed_both es item = (length (pushed true es item), length (pushed false es item))

pub pushed_are : (m : Content) → map (pushed_both (journal m)) (2 ∷ 4 ∷ 5 ∷ 7 ∷ []) ≡ (3, 3) ∷ (3, 5) ∷ (4, 6) ∷
    (5, 8) ∷ []
unfolding items origins
pushed_are m = refl

-- at the first output, and at the second one
pub fates_at_first : (m : Content) → item_fates 1 0 (journal m) ≡
    fated 0 fate.Consumed ∷ fated 1 fate.Consumed ∷ fated 2 fate.Late ∷ fated 3 fate.Dropped ∷ fated 4 fate.Dropped
    ∷ fated 5 fate.Filtered ∷ fated 6 fate.Dropped ∷ fated 7 fate.Buffered ∷ []
unfolding offers lane_events fates_from ranges_from accepted_from
fates_at_first m = refl

pub fates_at_second : (m : Content) → item_fates 1 1 (journal m) ≡
    fated 0 fate.Consumed ∷ fated 1 fate.Consumed ∷ fated 2 fate.Late ∷ fated 3 fate.Filtered ∷ fated 4 fate.Filtered
    ∷ fated 5 fate.Written ∷ fated 6 fate.Filtered ∷ fated 7 fate.Filtered ∷ []
unfolding offers lane_events fates_from ranges_from accepted_from
fates_at_second m = refl

-- the totals of the journal
pub totals_are : (m : Content) → totals setup (journal m) ≡ record {
  inputs = tracked 3 3 2 1 0 false ∷ tracked 2 2 2 0 0 false ∷ [];
  made = 3;
  removed = 0;
  routed = 8;
  outputs =
      record { filtered = 1; late = 1; consumed = 2; written = 0; buffered = 1; dropped = 3 }
      ∷ record { filtered = 4; late = 1; consumed = 2; written = 1; buffered = 0; dropped = 0 }
      ∷ [];
}
unfolding total_by input_total_from reported_with offers lane_events fates_from ranges_from accepted_from
totals_are m = refl

-- and those of its entries before the last one: the last group hasn't settled
pub totals_before : (m : Content) → (totals setup (front m)).inputs ≡ tracked 3 3 2 0 1 false ∷ tracked 2 2 2 0 0 false
    ∷ []
unfolding input_total_from reported_with
totals_before m = refl
