-- A new core stands for the empty journal, and a cut changes no journal.
use Rattle.std.proofs.Common.{◌≡◌, ◌<◌, ◌≤◌, ℕ, Bool, true, false, List, [], length, map, replicate, is_some, refl}
use Rattle.std.proofs.Common.{sym, ap, ◌∙◌, subst, arith, append-nil, append_assoc, get_or, if◌then◌else◌, ◌++◌, inl}
use Rattle.std.proofs.Common.{inr}
use Rattle.std.proofs.Common.{◌∷◌, take, drop, set, ℤ, ◌||◌}
use Rattle.std.proofs.lemmas.Simd.{map-map}
use Rattle.std.proofs.lemmas.Bool.{cases_eq}
use Rattle.std.proofs.lemmas.Option.{slice_get-get_or}
use Rattle.std.proofs.lemmas.List.{ext_get_or, get_or-map, get_or-replicate, length-map, length-replicate}
use Rattle.std.proofs.lemmas.List.{get_or-set_same, get_or-set_other, take-append-drop}
use Rattle.std.specs.List.{All, list_any}
use Rattle.metric.specs.declared.metric.Content.{Content}
use Rattle.std.specs.declared.option.Option.{Option}
use Rattle.std.specs.declared.option.Option.TheVariants.{Some, None}
use Rattle.account.specs.Items.{items, taken, routes, in_hand_from}
use Rattle.account.specs.Origins.{group_inputs, origins}
use Rattle.agg_bank.specs.Bank.{BankMemory, BankStands}
use Rattle.account.specs.Numbers.{Numbers, no_numbers, unread_input, unreached_output}
use Rattle.account.specs.declared.entry.Entry.{Entry}
use Rattle.account.specs.declared.entry.Report.{Report}
use Rattle.out_lane.specs.Lane.{LaneState, empty_lane}
use Rattle.track_groups.specs.Tracker.{TrackerState}
use Rattle.out_lane.specs.LaneLaws.{IsLaneOf}
use Rattle.out_lane.proofs.LaneLemmas.{new_is_lane}
use Rattle.pipeline_core.specs.declared.output.Offer.{Offer}
use Rattle.pipeline_core.specs.Offers.{offers, lane_events}
use Rattle.pipeline_core.specs.Fates.{fates_from}
use Rattle.pipeline_core.specs.Legal.{AreLegal, has_stop, has_ended, gathered_count, counted_from}
use Rattle.pipeline_core.specs.Totals.{totals, total_by, input_total_from}
use Rattle.pipeline_core.specs.CoreState.{CoreState, setup_of, first_state, lane_at, lane_of, marked_at, marked_of}
use Rattle.pipeline_core.specs.CoreState.{sizes}
use Rattle.pipeline_core.specs.CoreState.{first_tracker, told_at}
use Rattle.pipeline_core.specs.Tracked.{is_tracking, marks, most_live, tracker_after}
use Rattle.pipeline_core.specs.CoreState.{most_undelivered, is_tracked}
use Rattle.pipeline_core.specs.Stands.{IsTold, Stands}
use Rattle.pipeline_core.specs.Steps.{after_cut, after_told}
use Rattle.pipeline_core.specs.declared.setup.CoreSetup.{CoreSetup}
use Rattle.pipeline_core.specs.declared.setup.InSetup.{InSetup}
use Rattle.pipeline_core.specs.declared.setup.OutSetup.{OutSetup}
use Rattle.pipeline_core.proofs.TotalPush.{inputs-at, outputs-at, length-inputs, length-outputs}
use Rattle.pipeline_core.proofs.OutputPush.{same_totals}
use Rattle.pipeline_core.proofs.Keeping.{no_output, no_input}
use Rattle.pipeline_core.proofs.Standing.{stands_changed}

-- once the entries are cut off, they are part of the front
pub cut_stands : (s n : CoreState) → n ≡ after_cut s → (journal : List Entry) → Stands s journal →
    Stands n journal
cut_stands s n q journal h =
    subst (λ (m : CoreState). Stands m journal) (sym q)
    (stands_changed s s.bank s.told [] journal journal h h.bank h.told (sym (append-nil journal)))

-- a report was handed out
told_again : (told : List (List Report)) (input i : ℕ) (journal : List Entry) → input < length told →
    IsTold i journal (told_at told i) → IsTold i journal (told_at (set told input (drop 1 (told_at told input))) i)
told_again told input i journal b h = elim (cases_eq i input) [
  | inl e ↦ subst (λ (j : ℕ). IsTold j journal (told_at (set told input (drop 1 (told_at told input))) j)) (sym e)
      (subst (IsTold input journal) (sym (get_or-set_same told input (drop 1 (told_at told input)) [] b))
      (one_told input journal (told_at told input) (subst (λ (j : ℕ). IsTold j journal (told_at told j)) e h)))
  | inr d ↦ subst (IsTold i journal) (sym (get_or-set_other told input i (drop 1 (told_at told input)) [] d)) h
]
  where
    one_told : (j : ℕ) (journal : List Entry) (reports : List Report) → IsTold j journal reports →
        IsTold j journal (drop 1 reports)
    one_told j journal reports h = record {
      handed_out = h.handed_out ++ take 1 reports;
      are = h.are ∙ ap (λ (xs : List Report). h.handed_out ++ xs) (sym (take-append-drop 1 reports))
          ∙ sym (append_assoc h.handed_out (take 1 reports) (drop 1 reports));
    }

pub told_stands : (s n : CoreState) (input : ℕ) → n ≡ after_told s input → input < length s.told →
    (journal : List Entry) → Stands s journal → Stands n journal
told_stands s n input q b journal h =
    subst (λ (m : CoreState). Stands m journal) (sym q)
    (stands_changed s s.bank (set s.told input (drop 1 (told_at s.told input))) s.stored h.front journal h h.bank
    (λ i c. told_again s.told input i journal b (h.told i c)) h.stored)

lanes_at_first : (outputs : List OutSetup) →
    All (λ (x : OutSetup). (1 ≤ x.batch) × (x.batch ≤ x.limit)) outputs → (o : ℕ) → o < length outputs →
    IsLaneOf (get_or (map sizes outputs) o (0, 0)).0 (get_or (map sizes outputs) o (0, 0)).1 (lane_events o [])
    (offers o []) (lane_at (map lane_of outputs) o)
unfolding lane_events offers
lanes_at_first outputs sized o b =
    rw (get_or-map sizes outputs o no_output (0, 0) b, get_or-map lane_of outputs o no_output (empty_lane 0 0) b)
    (new_is_lane Offer (get_or outputs o no_output).batch (get_or outputs o no_output).limit (sized o no_output b).0
    (sized o no_output b).1)

marked_at_first : (tracks : Bool) (outputs : List OutSetup) →
    All (λ (x : OutSetup). (1 ≤ x.batch) × (x.batch ≤ x.limit)) outputs → (o : ℕ) →
    o < length (if tracks then map marked_of outputs else []) →
    IsLaneOf (get_or (map sizes outputs) o (0, 0)).0 (get_or (map sizes outputs) o (0, 0)).1 (lane_events o [])
    (marks o []) (marked_at (if tracks then map marked_of outputs else []) o)
unfolding lane_events offers
marked_at_first true outputs sized o b =
    let c : o < length outputs = omega (arith, b, length-map outputs marked_of) in
    rw (get_or-map sizes outputs o no_output (0, 0) c, get_or-map marked_of outputs o no_output (empty_lane 0 0) c)
    (new_is_lane (Option ℕ) (get_or outputs o no_output).batch (get_or outputs o no_output).limit
    (sized o no_output c).0 (sized o no_output c).1)
marked_at_first false outputs sized o b = absurd (omega (arith, b))

many_at_first : (tracks : Bool) (outputs : List OutSetup) →
    length (if tracks then map marked_of outputs else []) ≡ (if tracks then length (map sizes outputs) else 0)
many_at_first true outputs = length-map outputs marked_of ∙ sym (length-map outputs sizes)
many_at_first false outputs = refl

told_at_first : (n i : ℕ) → i < n → IsTold i [] (told_at (replicate n []) i)
told_at_first n i b =
    subst (IsTold i []) (sym (get_or-replicate n i [] [] b)) (record { handed_out = []; are = refl })

some_if : (t : Bool) (n : ℕ) → is_some (if t then Some n else None) ≡ t
some_if true n = refl
some_if false n = refl

inputs_at_first : (setup : CoreSetup) →
    map unread_input (map is_tracked setup.inputs) ≡ (totals (setup_of setup) []).inputs
unfolding input_total_from
inputs_at_first setup =
    let n : length (setup_of setup).inputs ≡ length setup.inputs = length-map setup.inputs most_undelivered in
    let m : length (map is_tracked setup.inputs) ≡ length setup.inputs = length-map setup.inputs is_tracked in
    let l : length (map unread_input (map is_tracked setup.inputs)) ≡ length setup.inputs =
    length-map (map is_tracked setup.inputs) unread_input ∙ m in
    ext_get_or (unread_input false) (map unread_input (map is_tracked setup.inputs)) (totals (setup_of setup) []).inputs
    (l ∙ sym n ∙ sym (length-inputs (setup_of setup) []))
    (λ i b. let c : i < length setup.inputs = omega arith in
    get_or-map unread_input (map is_tracked setup.inputs) i false (unread_input false) (omega arith)
    ∙ ap unread_input (get_or-map is_tracked setup.inputs i no_input false c)
    ∙ ap unread_input (sym (ap is_some (get_or-map most_undelivered setup.inputs i no_input None c)
    ∙ some_if (get_or setup.inputs i no_input).tracked (get_or setup.inputs i no_input).max_undelivered))
    ∙ sym (inputs-at (setup_of setup) [] i (omega arith)))

outputs_at_first : (setup : CoreSetup) →
    replicate (length setup.outputs) unreached_output ≡ (totals (setup_of setup) []).outputs
unfolding fates_from
outputs_at_first setup =
    let n : length (setup_of setup).outputs ≡ length setup.outputs = length-map setup.outputs sizes in
    let m : length (replicate (length setup.outputs) unreached_output) ≡ length setup.outputs =
    length-replicate (length setup.outputs) unreached_output in
    ext_get_or unreached_output (replicate (length setup.outputs) unreached_output) (totals (setup_of setup) []).outputs
    (m ∙ sym n ∙ sym (length-outputs (setup_of setup) []))
    (λ o b. get_or-replicate (length setup.outputs) o unreached_output unreached_output (omega arith)
    ∙ sym (outputs-at (setup_of setup) [] o (omega arith)))

pub stands_first : (setup : CoreSetup) (bank : BankMemory) →
    All (λ (x : OutSetup). (1 ≤ x.batch) × (x.batch ≤ x.limit)) setup.outputs
    → BankStands setup.aggs setup.start [] bank → Stands (first_state setup bank) []
unfolding AreLegal items taken routes origins in_hand_from has_stop has_ended gathered_count counted_from total_by
    tracker_after group_inputs
stands_first setup bank sized new =
    record {
      legal = tt;
      raw = refl;
      taken_is = refl;
      held = refl;
      made = refl;
      groups = refl;
      tracker = refl;
      bank = new;
      lanes = λ o b. lanes_at_first setup.outputs sized o (omega (arith, length-map setup.outputs sizes));
      lane_count = length-map setup.outputs lane_of ∙ sym (length-map setup.outputs sizes);
      marked = marked_at_first (is_tracking (setup_of setup)) setup.outputs sized;
      mark_count = many_at_first (is_tracking (setup_of setup)) setup.outputs;
      told = λ i b. told_at_first (length setup.inputs) i (omega (arith, b, length-map setup.inputs most_undelivered));
      numbers = same_totals (first_state setup bank).numbers (totals (setup_of setup) [])
          (inputs_at_first setup) refl refl refl (outputs_at_first setup);
      front = [];
      stored = refl;
      gathered = refl;
      counted = refl;
      ended =
          λ i b. slice_get-get_or (replicate (length setup.inputs) false) i false
          (omega (arith, length-replicate (length setup.inputs) false, length-map setup.inputs most_undelivered))
          ∙ ap Some (get_or-replicate (length setup.inputs) i false false
          (omega (arith, length-map setup.inputs most_undelivered)));
      ended_count = length-replicate (length setup.inputs) false ∙ sym (length-map setup.inputs most_undelivered);
      stopped = refl;
    }

pub first_stands : (setup : CoreSetup) (n : CoreState) → n ≡ first_state setup n.bank →
    All (λ (x : OutSetup). (1 ≤ x.batch) × (x.batch ≤ x.limit)) setup.outputs
    → BankStands setup.aggs setup.start [] n.bank → Stands n []
first_stands setup n q sized new =
    subst (λ (m : CoreState). Stands m []) (sym q) (stands_first setup n.bank sized new)

-- a core in which nothing happened
pub first_is : (setup : CoreSetup) (raw : List Content) (made : List Bool) (groups : List (Option ℕ))
    (tracker : TrackerState) (bank : BankMemory) (lanes : List (LaneState Offer)) (marked : List (LaneState (Option ℕ)))
    (told : List (List Report)) (numbers : Numbers) (stored : List Entry) (counted : ℤ) (ended : List Bool) →
    raw ≡ [] → made ≡ [] → groups ≡ [] → tracker ≡ first_tracker (setup_of setup) → lanes ≡ map lane_of setup.outputs →
    marked ≡ (if is_tracking (setup_of setup) then map marked_of setup.outputs else []) →
    told ≡ replicate (length setup.inputs) [] →
    numbers ≡ no_numbers (map is_tracked setup.inputs) (length setup.outputs) → stored ≡ [] →
    counted ≡ setup.start → ended ≡ replicate (length setup.inputs) false → (record {
      setup = setup_of setup;
      raw = raw;
      taken = 0;
      held = None;
      made = made;
      groups = groups;
      tracker = tracker;
      bank = bank;
      lanes = lanes;
      marked = marked;
      told = told;
      numbers = numbers;
      stored = stored;
      gathered = 0;
      counted = counted;
      ended = ended;
      stopped = false;
    }) ≡ first_state setup bank
first_is setup raw made groups tracker bank lanes marked told numbers stored counted ended a b c d e f g h i j k =
    rw (a, b, c, d, e, f, g, h, i, j, k) refl

-- which limits its tracker has
pub limits_at_first : (inputs : List InSetup) →
    map (λ (x : InSetup). most_live (most_undelivered x)) inputs ≡ map most_live (map most_undelivered inputs)
limits_at_first inputs = sym (map-map most_live most_undelivered inputs)

-- and whether an input is tracked
pub tracking_at_first : (inputs : List InSetup) →
    list_any is_tracked inputs ≡ list_any is_some (map most_undelivered inputs)
tracking_at_first [] = refl
tracking_at_first (x ∷ inputs) =
    ap (λ (t : Bool). t || list_any is_tracked inputs) (sym (some_if x.tracked x.max_undelivered))
    ∙ ap (λ (t : Bool). is_some (most_undelivered x) || t) (tracking_at_first inputs)
