-- The words of the laws of groups, tried on the journal of `TrackedExamples`: group 0 is rejected, and groups 1 and 2
-- are delivered.
use Rattle.std.proofs.Common.{◌≡◌, zero, suc, true, false, ◌++◌, refl, arith}
use Rattle.metric.specs.declared.metric.Content.{Content}
use Rattle.account.specs.Items.{routes}
use Rattle.account.specs.Numbers.{input_numbers}
use Rattle.account.specs.Origins.{origins, group_inputs}
use Rattle.out_lane.specs.LaneEvents.{ranges_from, accepted_from}
use Rattle.pipeline_core.specs.Fates.{fates_from}
use Rattle.pipeline_core.specs.GroupLaws.{all_reports, delivered_count, HasSizes, has_settled, rejected_count}
use Rattle.pipeline_core.specs.Groups.{live_count}
use Rattle.pipeline_core.specs.Offers.{offers, lane_events}
use Rattle.pipeline_core.specs.Totals.{totals, input_total_from, reported_with}
use Rattle.pipeline_core.proofs.TrackedExamples.{front, journal, setup, told}

has_sizes : HasSizes setup
has_sizes zero low = (omega arith, omega arith)
has_sizes (suc zero) low = (omega arith, omega arith)
has_sizes (suc (suc n)) low = absurd (omega (arith, low))

reports : (m : Content) → all_reports (journal m) ≡ told 0 false ++ told 1 true ++ told 2 true
reports m = refl

delivered : (m : Content) → delivered_count setup (journal m) 1 ≡ 2
unfolding origins routes group_inputs offers lane_events fates_from ranges_from accepted_from
delivered m = refl

rejected : (m : Content) → rejected_count setup (journal m) 1 ≡ 1
unfolding origins routes group_inputs offers lane_events fates_from ranges_from accepted_from
rejected m = refl

live : (m : Content) → live_count setup (journal m) 1 ≡ 0
unfolding origins routes group_inputs offers lane_events fates_from ranges_from accepted_from
live m = refl

-- that of the input that isn't tracked
none : (m : Content) → delivered_count setup (journal m) 0 ≡ 0
unfolding origins routes group_inputs offers lane_events fates_from ranges_from accepted_from
none m = refl

numbers : (m : Content) → (input_numbers (totals setup (journal m)) 1).delivered ≡ 2
unfolding input_total_from reported_with
numbers m = refl

-- group 2 has settled at last, no group has at first, and group 3 never began
settled : (m : Content) → has_settled setup (journal m) 2 ≡ true
unfolding origins routes group_inputs offers lane_events fates_from ranges_from accepted_from
settled m = refl

settled_first : (m : Content) → has_settled setup (front m) 1 ≡ false
unfolding origins routes group_inputs offers lane_events fates_from ranges_from accepted_from
settled_first m = refl

never : (m : Content) → has_settled setup (journal m) 3 ≡ false
unfolding group_inputs
never m = refl
