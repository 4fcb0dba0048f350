-- A journal with a tracked input and two outputs: what settles when, by the definitions. What is expected is written
-- from the meanings: the reports stand in the entries, and the fates and numbers below.
use Rattle.std.proofs.Common.{◌≡◌, ℕ, Bool, true, false, List, [], ◌∷◌, ◌++◌, map, refl}
use Rattle.std.specs.Prelude.{pos}
use Rattle.std.specs.declared.option.Option.TheVariants.{Some, None}
use Rattle.metric.specs.declared.metric.Content.{Content}
use Rattle.account.specs.Setup.{Setup}
use Rattle.account.specs.Says.{reports_of}
use Rattle.account.specs.Items.{items, taken, routes, in_hand_from}
use Rattle.account.specs.Numbers.{unread_input}
use Rattle.account.specs.Origins.{origins, group_inputs}
use Rattle.account.specs.declared.entry.Entry.{Entry}
use Rattle.account.specs.declared.entry.Entry.TheVariants.{Gather, Take, Route, Begin, Done}
use Rattle.account.specs.declared.entry.Report.{Report}
use Rattle.account.specs.declared.entry.Verdict.TheVariants.{Passes, Removed}
use Rattle.out_lane.specs.LaneEvents.{ranges_from, accepted_from}
use Rattle.pipeline_core.specs.Offers.{offers, lane_events}
use Rattle.pipeline_core.specs.Fates.{Fate, ItemFate, item_fates, fates_from}
use Rattle.pipeline_core.specs.Fates as fate
use Rattle.pipeline_core.specs.Groups.{reports_at}
use Rattle.pipeline_core.specs.Legal.{IsLegal, has_stop, has_ended, gathered_count}
use Rattle.pipeline_core.specs.Windows.{judged}
use Rattle.pipeline_core.specs.Totals.{input_total, input_total_from, reported_with}
use Rattle.pipeline_core.proofs.LegalSteps.{next, none_legal}

-- an input that may have five live groups; an output with batches of two and room for two, and one with batches
-- of one and room for three
abbrev pub setup : Setup
setup = record { start = pos 0; inputs = Some 5 ∷ []; aggs = []; outputs = (2, 2) ∷ (1, 3) ∷ [] }

-- what was told of a group of the input
abbrev pub told : ℕ → Bool → Report
told group delivered = record { group = group; input = 0; delivered = delivered }

-- a group with these metrics, and what is told then
abbrev pub group : ℕ → List Content → List Report → Entry
group number metrics reports = Gather 0 (pos 0) 1 0 0 0 metrics (Some number) reports

-- an item goes to the first output, to the second one, to both, or to none of them, or is removed
abbrev pub first : Content → ℕ → List Report → Entry
first m item reports = Route item (Some m) Passes [] (Some m ∷ None ∷ []) reports

abbrev pub second : Content → ℕ → List Report → Entry
second m item reports = Route item (Some m) Passes [] (None ∷ Some m ∷ []) reports

abbrev pub both : Content → ℕ → List Report → Entry
both m item reports = Route item (Some m) Passes [] (Some m ∷ Some m ∷ []) reports

abbrev pub none : Content → ℕ → List Report → Entry
none m item reports = Route item (Some m) Passes [] (None ∷ None ∷ []) reports

abbrev pub gone : Content → ℕ → List Report → Entry
gone m item reports = Route item None Removed [] (None ∷ None ∷ []) reports

-- Group 0 has no metric. Group 1 has items 0 and 1, of which one is removed and the other goes to no output. Items 2
-- and 3, each a group, wait at the first output, and item 2 at the second one too, until items 4 and 5 come there:
-- they are dropped, and of item 2 a copy is left, which the second output accepts. While a batch of items 4 and 5 is in
-- flight items 6 and 7 come, so that they are dropped as it fails. A batch of items 6 and 7 fails and goes back, and is
-- accepted then.
abbrev pub journal : Content → List Entry
journal m =
    group 0 [] (told 0 true ∷ [])
    ∷ group 1 (m ∷ m ∷ []) []
    ∷ Take 0
    ∷ gone m 0 []
    ∷ Take 1
    ∷ none m 1 (told 1 true ∷ [])
    ∷ group 2 (m ∷ []) []
    ∷ group 3 (m ∷ []) []
    ∷ Take 2
    ∷ both m 2 []
    ∷ Take 3
    ∷ first m 3 []
    ∷ group 4 (m ∷ []) []
    ∷ group 5 (m ∷ []) []
    ∷ Take 4
    ∷ first m 4 []
    ∷ Take 5
    ∷ first m 5 (told 3 false ∷ [])
    ∷ Begin 1 0 1
    ∷ Done 1 true (told 2 false ∷ [])
    ∷ Begin 0 2 4
    ∷ group 6 (m ∷ m ∷ []) []
    ∷ Take 6
    ∷ first m 6 []
    ∷ Take 7
    ∷ first m 7 []
    ∷ Done 0 false (told 4 false ∷ told 5 false ∷ [])
    ∷ Begin 0 4 6
    ∷ Done 0 false []
    ∷ Begin 0 4 6
    ∷ Done 0 true (told 6 true ∷ [])
    ∷ []

-- what each of these entries has by a definition, where they come after those before them
module _ {X : Type 0} (value : List Entry → Entry → X) where
  unfoldable pub each : List Entry → List Entry → List X
  each before [] = []
  each before (e ∷ es) = value before e ∷ each (before ++ e ∷ []) es

-- each entry has the reports that the definition gives it
pub each_is_told : (m : Content) → each (reports_at setup) [] (journal m) ≡ map reports_of (journal m)
unfolding each reports_at origins items taken routes group_inputs offers lane_events fates_from ranges_from
    accepted_from
each_is_told m = refl

-- an item and its fate
abbrev pub fated : ℕ → Fate → ItemFate
fated item kind = record { item = item; fate = kind }

-- at the first output
pub fates_at_first : (m : Content) → item_fates 2 0 (journal m) ≡
    fated 1 fate.Filtered ∷ fated 2 fate.Dropped ∷ fated 3 fate.Dropped ∷ fated 4 fate.Dropped
    ∷ fated 5 fate.Dropped ∷ fated 6 fate.Written ∷ fated 7 fate.Written ∷ []
unfolding offers lane_events fates_from ranges_from accepted_from
fates_at_first m = refl

-- at the second output
pub fates_at_second : (m : Content) → item_fates 3 1 (journal m) ≡
    fated 1 fate.Filtered ∷ fated 2 fate.Written ∷ fated 3 fate.Filtered ∷ fated 4 fate.Filtered
    ∷ fated 5 fate.Filtered ∷ fated 6 fate.Filtered ∷ fated 7 fate.Filtered ∷ []
unfolding offers lane_events fates_from ranges_from accepted_from
fates_at_second m = refl

-- of the seven groups three were delivered and four rejected, and none is live
pub counts : (m : Content) →
    input_total 0 true (journal m) ≡ record (unread_input true)
    { pieces = 7; gathered = 8; delivered = 3; rejected = 4 }
unfolding input_total_from reported_with
counts m = refl

-- an input that may have one live group, and two outputs with batches of one and room for one
abbrev pub pair_setup : Setup
pair_setup = record { start = pos 0; inputs = Some 1 ∷ []; aggs = []; outputs = (1, 1) ∷ (1, 1) ∷ [] }

-- Group 0 has the items A, which goes to both outputs, and B, which goes to the second one and takes A's place there.
-- The first output accepts A, by which the group doesn't settle. The second one accepts B: the group is rejected, for
-- what was dropped there. Group 1, which may come now, has no metric.
abbrev pub pair : Content → Content → List Entry
pair a b =
    group 0 (a ∷ b ∷ []) []
    ∷ Take 0
    ∷ both a 0 []
    ∷ Take 1
    ∷ second b 1 []
    ∷ Begin 0 0 1
    ∷ Done 0 true []
    ∷ Begin 1 1 2
    ∷ Done 1 true (told 0 false ∷ [])
    ∷ group 1 [] (told 1 true ∷ [])
    ∷ []

-- the journal is legal, with the groups and the reports as they are written
pub pair_legal : (a b : Content) → IsLegal pair_setup (pair a b)
unfolding reports_at origins items taken routes in_hand_from group_inputs offers lane_events fates_from ranges_from
    accepted_from has_stop has_ended gathered_count judged
pair_legal a b =
    let l1 = next pair_setup [] (none_legal pair_setup) (group 0 (a ∷ b ∷ []) []) refl refl in
    let l2 = next pair_setup _ l1 (Take 0) refl refl in
    let l3 = next pair_setup _ l2 (both a 0 []) (refl, tt, tt) refl in
    let l4 = next pair_setup _ l3 (Take 1) refl refl in
    let l5 = next pair_setup _ l4 (second b 1 []) (refl, tt, tt) refl in
    let l6 = next pair_setup _ l5 (Begin 0 0 1) refl refl in
    let l7 = next pair_setup _ l6 (Done 0 true []) (refl, tt) refl in
    let l8 = next pair_setup _ l7 (Begin 1 1 2) refl refl in
    let l9 = next pair_setup _ l8 (Done 1 true (told 0 false ∷ [])) (refl, tt) refl in
    next pair_setup _ l9 (group 1 [] (told 1 true ∷ [])) refl refl
