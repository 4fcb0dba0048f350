use Rattle.std.proofs.Common.{◌≡◌, ◌∙◌, ℤ, ap, sym, List, map, length, replicate, Bool, false, [], subst, rules}
use Rattle.std.proofs.Common.{arith, if◌then◌else◌, ◌+◌, ◌≤◌, ◌<◌, ℕ, get_or}
use Rattle.std.proofs.lemmas.List.{length-map, length-replicate, get_or-replicate, get_or-map}
use mir.Syntax.{w64}
use mir.Val.{of_z, to_z}
use Rattle.account.specs.Numbers.{no_numbers}
use Rattle.account.specs.declared.entry.Report.{Report}
use Rattle.account.specs.declared.setup.AggLine.{AggLine}
use Rattle.agg_bank.specs.Bank.{BankStands}
use Rattle.track_groups.specs.Tracker.{TrackerState, live_of, new_tracker}
use Rattle.pipeline_core.specs.declared.setup.InSetup.{InSetup}
use Rattle.pipeline_core.specs.declared.setup.OutSetup.{OutSetup}
use Rattle.pipeline_core.specs.CoreState.{first_state, first_tracker, is_tracked, lane_of, marked_of}
use Rattle.pipeline_core.specs.CoreState.{most_undelivered, setup_of}
use Rattle.std.specs.declared.option.Option.TheVariants.{None}
use Rattle.pipeline_core.specs.ToldView.{no_reports, reports_in}
use Rattle.pipeline_core.specs.Tracked.{is_tracking}
use Rattle.pipeline_core.proofs.JournalKept.{kept_same}
use Rattle.pipeline_core.proofs.StandsCuts.{first_is, first_stands, limits_at_first, tracking_at_first}
use Rattle.pipeline_core.proofs.Keeping.{kept_first, spare_at_first}
use Rattle.pipeline_core.proofs.state.Core.new.Goals.{After-new-6}
use Rattle.pipeline_core.proofs.state.Core.new.Goals as goal

lanes_are : (c : After-new-6) → c.in_ok-outputs.outputs.items ≡ map lane_of c.args.setup.outputs
lanes_are c = c.in_ok-outputs.ensures ∙ ap (map lane_of) c.as_slice-4.ensures

flags_are : (c : After-new-6) → c.in_ok-ended.ended.items ≡ replicate (length c.args.setup.inputs) false
flags_are c =
    c.in_ok-ended.ensures.items_if_clones_equal (λ y h. h)
    ∙ ap (λ (xs : List InSetup). replicate (length xs) false) c.as_slice-inputs.ensures

count_is : (c : After-new-6) → c.len.result ≡ length c.args.setup.outputs
count_is c = omega (arith, ap length (lanes_are c), length-map c.args.setup.outputs lane_of)

numbers_are : (c : After-new-6) → c.in_ok-account.account ≡ no_numbers (map is_tracked c.args.setup.inputs)
    (length c.args.setup.outputs)
numbers_are c =
    c.in_ok-account.ensures
    ∙ ap (λ (xs : List Bool). no_numbers xs c.len.result)
    (c.as_slice-8.ensures.value ∙ c.in_ok-tracked.ensures ∙ ap (map is_tracked) c.as_slice.ensures)
    ∙ ap (no_numbers (map is_tracked c.args.setup.inputs)) (count_is c)

tracker_is : (c : After-new-6) → c.in_ok-tracker.tracker ≡ first_tracker (setup_of c.args.setup)
tracker_is c =
    c.in_ok-tracker.ensures.made
    ∙ ap new_tracker (c.as_slice-3.ensures.value ∙ c.in_ok-limits.ensures
    ∙ limits_at_first c.as_slice-2.result.now
    ∙ ap (λ (xs : List InSetup). (first_tracker (setup_of (record c.args.setup { inputs = xs }))).limits)
    c.as_slice-2.ensures)

marked_are : (c : After-new-6) → c.in_ok-marked.marked.items ≡ (if is_tracking (setup_of c.args.setup)
    then map marked_of c.args.setup.outputs else [])
marked_are c =
    c.in_ok-marked.ensures
    ∙ ap (λ (t : Bool). if t then map marked_of c.as_slice-6.result.now else [])
    (c.tracks_any-tracking.ensures ∙ tracking_at_first c.as_slice-5.result.now
    ∙ ap (λ (xs : List InSetup). is_tracking (setup_of (record c.args.setup { inputs = xs }))) c.as_slice-5.ensures)
    ∙ ap (λ (xs : List OutSetup). if is_tracking (setup_of c.args.setup) then map marked_of xs else [])
    c.as_slice-6.ensures

told_are : (c : After-new-6) → map reports_in c.in_ok-told.told.items ≡ replicate (length c.args.setup.inputs) []
told_are c =
    c.in_ok-told.ensures ∙ ap (λ (xs : List InSetup). replicate (length xs) []) c.as_slice-inputs.ensures

-- nothing is told, and no group is live
none_told : (c : After-new-6) (k : ℕ) → k < length c.in_ok-told.told.items →
    length (get_or c.in_ok-told.told.items k no_reports).reports + live_of c.in_ok-tracker.tracker k
    ≤ (get_or c.in_ok-told.told.items k no_reports).places
none_told c k b =
    let many : length c.in_ok-told.told.items ≡ length c.args.setup.inputs =
    sym (length-map c.in_ok-told.told.items reports_in) ∙ ap length (told_are c)
    ∙ length-replicate (length c.args.setup.inputs) [] in
    let none : (get_or c.in_ok-told.told.items k no_reports).reports ≡ [] =
    sym (get_or-map reports_in c.in_ok-told.told.items k no_reports [] b)
    ∙ ap (λ (xs : List (List Report)). get_or xs k []) (told_are c)
    ∙ get_or-replicate (length c.args.setup.inputs) k [] [] (omega (arith, b, many)) in
    let idle : live_of c.in_ok-tracker.tracker k ≡ 0 = ap (λ (t : TrackerState). live_of t k) (tracker_is c) in
    omega (arith, ap length none, idle)

-- the moment that counts
start_is : (c : After-new-6) → to_z w64 (of_z w64 c.args.setup.start) ≡ c.args.setup.start
start_is c = search rules

-- nothing happened
state_is : (c : After-new-6) → (record {
  setup = setup_of c.args.setup;
  raw = c.new-4.result.items;
  taken = 0;
  held = None;
  made = c.new-5.result.made;
  groups = c.new-5.result.groups;
  tracker = c.in_ok-tracker.tracker;
  bank = c.in_ok-bank.bank;
  lanes = c.in_ok-outputs.outputs.items;
  marked = c.in_ok-marked.marked.items;
  told = map reports_in c.in_ok-told.told.items;
  numbers = c.in_ok-account.account;
  stored = c.new-6.result.items;
  gathered = 0;
  counted = to_z w64 (of_z w64 c.args.setup.start);
  ended = c.in_ok-ended.ended.items;
  stopped = false;
}) ≡ first_state c.args.setup c.in_ok-bank.bank
state_is c =
    first_is c.args.setup c.new-4.result.items c.new-5.result.made c.new-5.result.groups c.in_ok-tracker.tracker
    c.in_ok-bank.bank c.in_ok-outputs.outputs.items c.in_ok-marked.marked.items (map reports_in c.in_ok-told.told.items)
    c.in_ok-account.account c.new-6.result.items _ c.in_ok-ended.ended.items c.new-4.ensures.items
    c.new-5.ensures.made c.new-5.ensures.groups (tracker_is c) (lanes_are c) (marked_are c) (told_are c) (numbers_are c)
    c.new-6.ensures.items (start_is c) (flags_are c)

new_bank : (c : After-new-6) → BankStands c.args.setup.aggs c.args.setup.start [] c.in_ok-bank.bank
new_bank c =
    subst (λ (m : ℤ). BankStands c.args.setup.aggs m [] c.in_ok-bank.bank) (start_is c)
    (subst (λ (lines : List AggLine). BankStands lines (to_z w64 (of_z w64 c.args.setup.start)) [] c.in_ok-bank.bank)
    c.as_slice-7.ensures c.in_ok-bank.ensures)

pub invariant_of-result : goal.invariant_of-result
invariant_of-result c =
    record {
      core = kept_same (first_state c.args.setup c.in_ok-bank.bank) _ (state_is c)
          (kept_first c.args.setup c.in_ok-bank.bank c.requires.outputs c.requires.sizes
          (c.in_ok-bank.ensures.same ∙ c.as_slice-7.ensures));
      groups = record {
        known = ap length c.new-5.ensures.groups ∙ sym (ap length c.new-5.ensures.made);
        tracks = c.in_ok-tracker.ensures.stands;
        limits = ap (λ (t : TrackerState). t.limits) (tracker_is c);
        few = omega (arith, ap (λ (t : TrackerState). t.started) (tracker_is c));
        told_count = ap length (told_are c) ∙ length-replicate (length c.args.setup.inputs) []
            ∙ sym (length-map c.args.setup.inputs most_undelivered);
      };
      told = record { journal = []; stands = first_stands c.args.setup _ (state_is c) c.requires.sizes (new_bank c) };
      spare = omega (
        arith,
        spare_at_first c.args.setup.outputs c.in_ok-outputs.outputs.items (lanes_are c),
        c.new-6.ensures.len,
      );
      places = none_told c;
    }

pub returns-clause-ok : goal.returns-clause-ok
returns-clause-ok c = state_is (goal.at.returns-clause-ok c).After-new-6

pub returns-clause-stands : goal.returns-clause-stands
returns-clause-stands c =
    let at = (goal.at.returns-clause-stands c).After-new-6 in
    first_stands c.args.setup _ (state_is at) c.requires.sizes (new_bank at)
