-- What a core keeps agrees after each step.
use Rattle.std.proofs.Common.{◌≡◌, ◌≢◌, ◌<◌, ◌≤◌, ℕ, ℤ, ◌+◌, ◌-◌, ◌^◌, ◌==◌, Bool, true, false, List, [], ◌∷◌}
use Rattle.std.proofs.Common.{◌++◌, length, take, drop, map, refl, sym, ap, ◌∙◌, subst, inl, inr, arith}
use Rattle.std.proofs.Common.{get_or, set, replicate, is_some, IsSome, if◌then◌else◌, length-append}
use Rattle.std.proofs.Common.{length-drop}
use Rattle.std.proofs.Math.Nat.{eq-or-lt_of_le}
use Rattle.std.proofs.lemmas.List.{get_or-set_same, get_or-set_other, length-take, length-take-le, length-map}
use Rattle.std.proofs.lemmas.List.{set-get_or, get_or-map, length-replicate, get_or-replicate}
use Rattle.std.proofs.lemmas.Bool.{cases_lt}
use Rattle.std.proofs.lemmas.Bool.Decides.{nat_tests}
use Rattle.std.proofs.lemmas.List.Sums.{sum_by-le, sum_by-set}
use Rattle.std.proofs.Math.ListN.{length-set}
use Rattle.std.specs.List.{All}
use Rattle.std.specs.declared.option.Option.{Option}
use Rattle.std.specs.declared.option.Option.TheVariants.{Some, None}
use Rattle.metric.specs.declared.metric.Content.{Content}
use Rattle.account.specs.declared.entry.Entry.{Entry}
use Rattle.account.specs.declared.entry.Report.{Report}
use Rattle.account.specs.declared.entry.Verdict.{Verdict}
use Rattle.account.specs.declared.entry.Verdict.TheVariants as verdicts
use Rattle.account.specs.Numbers.{Numbers, output_numbers, unread_input, unreached_output}
use Rattle.account.specs.Numbers.{with_output, sum_of_fates, input_numbers, settled_more, with_input}
use Rattle.track_groups.specs.Tracker.{TrackerState}
use Rattle.account.specs.declared.numbers.OutputNumbers.{OutputNumbers}
use Rattle.agg_bank.specs.Bank.{lines_of, BankMemory}
use Rattle.out_lane.specs.Lane.{LaneState, empty_lane}
use Rattle.out_lane.specs.Lane as lane
use Rattle.pipeline_core.specs.Offers.{view_at}
use Rattle.pipeline_core.specs.declared.output.Offer.{Offer}
use Rattle.pipeline_core.proofs.Offering.{lanes_with-at, outputs_with-at, length-lanes_with}
use Rattle.pipeline_core.proofs.Offering.{length-outputs_with}
use Rattle.pipeline_core.specs.declared.setup.CoreSetup.{CoreSetup}
use Rattle.pipeline_core.specs.declared.setup.InSetup.{InSetup}
use Rattle.pipeline_core.specs.declared.setup.OutSetup.{OutSetup}
use Rattle.pipeline_core.specs.CoreState.{first_state, lane_of, sizes, most_undelivered, is_tracked, CoreState}
use Rattle.pipeline_core.specs.CoreState.{IsCore, IsOutput, OutputsAgree, ItemsAgree, sizes_at, flights}
use Rattle.pipeline_core.specs.CoreState.{in_flight}
use Rattle.pipeline_core.specs.CoreState.{held_count, lane_at}
use Rattle.pipeline_core.specs.Steps.{with_reports, after_ended, after_take, lanes_routed, numbers_routed}
use Rattle.pipeline_core.specs.Steps.{HasFew, lane_with, numbers_with, lane_done, count_done}
use Rattle.pipeline_core.specs.Steps.{counted_done, late_more, consumed_more, IsBatchOf}
use Rattle.pipeline_core.specs.declared.batches.Batch.{Batch}

in_flight-le : (x : LaneState Offer) → in_flight x ≤ 1
in_flight-le x = elim (is_some x.flight) as (λ b. (if b then 1 else 0) ≤ 1) [ true ↦ omega arith | false ↦ omega arith ]

-- no more batches are in flight than there are outputs
pub flights-le : (lanes : List (LaneState Offer)) → flights lanes ≤ length lanes
flights-le lanes = omega (arith, sum_by-le in_flight 1 lanes (λ k d h. in_flight-le (get_or lanes k d)))

-- with so many marks more
more_marks : (made : List Bool) (n : ℕ) (mark : Bool) {m : ℕ} → length made + n ≡ m
    → length (made ++ replicate n mark) ≡ m
more_marks made n mark all = omega (arith, length-append made (replicate n mark), length-replicate n mark, all)

-- entries, the moment and the stop have no part in it
pub kept_entries : (s : CoreState) (stored : List Entry) (counted : ℤ) (stopped : Bool) → IsCore s
    → IsCore (record s { stored = stored; counted = counted; stopped = stopped })
kept_entries s stored counted stopped h =
    record {
      outputs = h.outputs;
      inputs = h.inputs;
      items = h.items;
      lines = h.lines;
      marks = h.marks;
    }

-- nor has what the aggregators keep, as long as they are the same
pub kept_bank : (s : CoreState) (bank : BankMemory) → lines_of bank ≡ lines_of s.bank → IsCore s
    → IsCore (record s { bank = bank })
kept_bank s bank same h =
    record {
      outputs = h.outputs;
      inputs = h.inputs;
      items = h.items;
      lines = same ∙ h.lines;
      marks = h.marks;
    }

-- nor have groups
pub kept_groups : (s : CoreState) (groups : List (Option ℕ)) (tracker : TrackerState)
    (marked : List (LaneState (Option ℕ))) (told : List (List Report)) → IsCore s
    → IsCore (record s { groups = groups; tracker = tracker; marked = marked; told = told })
kept_groups s groups tracker marked told h =
    record {
      outputs = h.outputs;
      inputs = h.inputs;
      items = h.items;
      lines = h.lines;
      marks = h.marks;
    }

-- the numbers of inputs have no part in the others
pub kept_inputs : (s : CoreState) (n : Numbers) → n ≡ record s.numbers { inputs = n.inputs } →
    length n.inputs ≡ length s.numbers.inputs → IsCore s → IsCore (record s { numbers = n })
kept_inputs s n rest long h =
    subst (λ (m : Numbers). IsCore (record s { numbers = m })) (sym rest)
    (record {
      outputs = h.outputs;
      inputs = record { number_count = long ∙ h.inputs.number_count; ended_count = h.inputs.ended_count };
      items = h.items;
      lines = h.lines;
      marks = h.marks;
    })

-- reports change the numbers of inputs alone
pub reported_rest : (n : Numbers) (reports : List Report) →
    with_reports n reports ≡ record n { inputs = (with_reports n reports).inputs }
unfolding with_reports
reported_rest n [] = refl
reported_rest n (r ∷ reports) =
    reported_rest (with_input n r.input (settled_more (input_numbers n r.input) r.delivered)) reports

pub reported_length : (n : Numbers) (reports : List Report) →
    length (with_reports n reports).inputs ≡ length n.inputs
unfolding with_reports
reported_length n [] = refl
reported_length n (r ∷ reports) =
    reported_length (with_input n r.input (settled_more (input_numbers n r.input) r.delivered)) reports
    ∙ length-set n.inputs r.input (settled_more (input_numbers n r.input) r.delivered)

pub kept_reported : (s : CoreState) (reports : List Report) → IsCore s →
    IsCore (record s { numbers = with_reports s.numbers reports })
kept_reported s reports h =
    kept_inputs s (with_reports s.numbers reports) (reported_rest s.numbers reports)
    (reported_length s.numbers reports) h

-- what was made is raw
pub kept_made : (s : CoreState) (metrics : List Content) → IsCore s → s.taken + (length s.raw + length metrics) < 2 ^ 63
    → IsCore (record s {
      raw = s.raw ++ metrics;
      made = s.made ++ replicate (length metrics) true;
      numbers = record s.numbers { made = s.numbers.made + length metrics };
    })
kept_made s metrics h few =
    record {
      outputs = h.outputs;
      inputs = h.inputs;
      items = record {
        come = omega (arith, length-append s.raw metrics, h.items.come);
        few = omega (arith, length-append s.raw metrics, few);
        few_gathered = h.items.few_gathered;
        gone = h.items.gone;
      };
      lines = h.lines;
      marks = more_marks s.made (length metrics) true (omega (arith, length-append s.raw metrics, h.marks));
    }

-- what was gathered is raw
pub kept_gather : (s : CoreState) (metrics : List Content) → IsCore s → s.gathered + length metrics < 2 ^ 32 →
    s.taken + length s.raw + length metrics < 2 ^ 63 → IsCore (record s {
      raw = s.raw ++ metrics;
      made = s.made ++ replicate (length metrics) false;
      gathered = s.gathered + length metrics;
    })
kept_gather s metrics h few items =
    record {
      outputs = h.outputs;
      inputs = h.inputs;
      items = record {
        come = omega (arith, length-append s.raw metrics, h.items.come);
        few = omega (arith, length-append s.raw metrics, items);
        few_gathered = few;
        gone = h.items.gone;
      };
      lines = h.lines;
      marks = more_marks s.made (length metrics) false (omega (arith, length-append s.raw metrics, h.marks));
    }

pub kept_ended : (s : CoreState) (input : ℕ) (stored : List Entry) → IsCore s
    → IsCore (record (after_ended s input) { stored = stored })
kept_ended s input stored h =
    record {
      outputs = h.outputs;
      inputs = record {
        number_count = length-set s.numbers.inputs _ _
            ∙ h.inputs.number_count;
        ended_count = length-set s.ended _ _ ∙ h.inputs.ended_count;
      };
      items = h.items;
      lines = h.lines;
      marks = h.marks;
    }

pub kept_take : (s : CoreState) (stored : List Entry) → IsCore s → s.held ≡ None → 0 < length s.raw
    → IsCore (record (after_take s) { stored = stored })
kept_take s stored h empty some =
    record {
      outputs = h.outputs;
      inputs = h.inputs;
      items = record {
        come = omega (arith, length-drop 1 s.raw, h.items.come);
        few = omega (arith, length-drop 1 s.raw, h.items.few);
        few_gathered = h.items.few_gathered;
        gone = omega (arith, h.items.gone, ap held_count empty);
      };
      lines = h.lines;
      marks = omega (arith, length-drop 1 s.raw, h.marks, ap held_count empty);
    }

-- there are few enough items that one more may be routed
pub few_routed : (s : CoreState) → IsCore s → s.numbers.removed + s.numbers.routed < 2 ^ 63
few_routed s h = omega (arith, h.items.gone, h.items.few)

none_flies : (x : LaneState Offer) → x.flight ≡ None → in_flight x ≡ 0
none_flies x h = ap (λ (o : Option (ℕ × List Offer)). if is_some o then 1 else 0) h

one_flies : (x : LaneState Offer) → IsSome x.flight → in_flight x ≡ 1
one_flies x h = ap (λ (b : Bool). if b then 1 else 0) h

pub not_full : (m n : ℕ) → m < n → (m == n) ≡ false
not_full m n h = grind (arith, nat_tests)

pub differs : (m n : ℕ) → m ≢ n → (m == n) ≡ false
differs m n h = grind (arith, nat_tests)

pub full : (m n : ℕ) → m ≡ n → (m == n) ≡ true
full m n h = grind (arith, nat_tests)

pub same_number : (n : ℕ) → (n == n) ≡ true
same_number n = full n n refl

pushed_waits : (at : LaneState Offer) (view : Offer) → length (lane.after_push at view).waiting
    ≡ length at.waiting + 1 - (length at.waiting + 1 - at.limit)
pushed_waits at view =
    let all = at.waiting ++ view ∷ [] in
    omega (arith, length-drop (length all - at.limit) all, length-append at.waiting (view ∷ []))

-- one more waits, and where there are too many the oldest doesn't
output_pushed : (size : ℕ × ℕ) (routed : ℕ) (x now : OutputNumbers) (at : LaneState Offer) (view : Offer) →
    IsOutput size routed x at → now.buffered ≡ length (lane.flying at) + length (lane.after_push at view).waiting →
    sum_of_fates now ≡ sum_of_fates x + 1 → IsOutput size (routed + 1) now (lane.after_push at view)
output_pushed size routed x now at view h many more =
    record {
      batch = h.batch;
      limit = h.limit;
      some = h.some;
      fits = h.fits;
      waits = omega (arith, pushed_waits at view);
      flies = h.flies;
      buffered = many;
      all = omega (arith, h.all, more);
      pushed = omega (arith, h.pushed);
    }

-- an output agrees once a metric was kept from it
output_kept : (size : ℕ × ℕ) (routed : ℕ) (x y : OutputNumbers) (at : LaneState Offer) → y.buffered ≡ x.buffered
    → sum_of_fates y ≡ sum_of_fates x + 1 →
    IsOutput size routed x at → IsOutput size (routed + 1) y at
output_kept size routed x y at same more h =
    record {
      batch = h.batch;
      limit = h.limit;
      some = h.some;
      fits = h.fits;
      waits = h.waits;
      flies = h.flies;
      buffered = same ∙ h.buffered;
      all = omega (arith, h.all, more);
      pushed = omega (arith, h.pushed);
    }

-- an output agrees once a view was offered to it
pub output_offered : (size : ℕ × ℕ) (routed : ℕ) (x : OutputNumbers) (at : LaneState Offer) (item : ℕ)
    (view : Option Content) → IsOutput size routed x at → IsOutput size (routed + 1) (numbers_with view at x)
    (lane_with item view at)
output_offered size routed x at item None h = output_kept size routed x (numbers_with None at x) at refl (omega arith) h
output_offered size routed x at item (Some view) h =
    let offer : Offer = record { item = item; view = view } in
    elim (eq-or-lt_of_le h.waits) [
      | inl e ↦ rw (full (length at.waiting) at.limit e)
          (output_pushed size routed x _ at offer h (omega (arith, pushed_waits at offer, e, h.buffered)) (omega arith))
      | inr b ↦ rw (not_full (length at.waiting) at.limit b)
          (output_pushed size routed x _ at offer h (omega (arith, pushed_waits at offer, h.buffered)) (omega arith))
    ]

-- an output agrees once its batch was begun
pub output_begun : (size : ℕ × ℕ) (routed : ℕ) (x : OutputNumbers) (at : LaneState Offer) →
    at.flight ≡ None → IsOutput size routed x at → IsOutput size routed x (lane.after_begin at)
output_begun size routed x at none h =
    record {
      batch = h.batch;
      limit = h.limit;
      some = h.some;
      fits = h.fits;
      waits = omega (arith, length-drop at.batch at.waiting, h.waits);
      flies = omega (arith, length-take at.batch at.waiting);
      buffered = omega (
        arith,
        length-drop at.batch at.waiting,
        length-take at.batch at.waiting,
        h.buffered,
        ap (λ (o : Option (ℕ × List Offer)). length (lane.batch_items o)) none,
      );
      all = h.all;
      pushed = h.pushed;
    }

-- an output agrees once its batch was accepted, or failed
pub output_done : (ok : Bool) (size : ℕ × ℕ) (routed : ℕ) (x : OutputNumbers) (at : LaneState Offer) →
    IsOutput size routed x at → IsOutput size routed (counted_done ok (count_done ok at) x) (lane_done ok at)
output_done true size routed x at h =
    record {
      batch = h.batch;
      limit = h.limit;
      some = h.some;
      fits = h.fits;
      waits = h.waits;
      flies = omega arith;
      buffered = omega (arith, h.buffered);
      all = omega (arith, h.all, h.buffered);
      pushed = h.pushed;
    }
output_done false size routed x at h =
    let all = lane.flying at ++ at.waiting in
    let whole : length all ≡ length (lane.flying at) + length at.waiting = length-append (lane.flying at) at.waiting in
    let kept : length (drop (length all - at.limit) all) ≡ length all - (length all - at.limit) =
    length-drop (length all - at.limit) all in
    let gone : length (take (length all - at.limit) all) ≡ length all - at.limit =
    length-take-le (length all - at.limit) all (omega arith) in
    record {
      batch = h.batch;
      limit = h.limit;
      some = h.some;
      fits = h.fits;
      waits = omega (arith, kept);
      flies = omega arith;
      buffered = omega (arith, kept, gone, whole, h.buffered);
      all = omega (arith, h.all, h.buffered, gone, whole);
      pushed = h.pushed;
    }

-- with another lane and other numbers at one output, each output agrees
pub each_with : (sizes : List (ℕ × ℕ)) (routed : ℕ) (all : List OutputNumbers) (lanes : List (LaneState Offer)) (o : ℕ)
    (x : OutputNumbers) (at : LaneState Offer) → o < length all → o < length lanes →
    ((k : ℕ) → k < length sizes → IsOutput (get_or sizes k (0, 0)) routed (get_or all k unreached_output)
    (lane_at lanes k)) → IsOutput (get_or sizes o (0, 0)) routed x at →
    (k : ℕ) → k < length sizes →
    IsOutput (get_or sizes k (0, 0)) routed (get_or (set all o x) k unreached_output) (lane_at (set lanes o at) k)
each_with sizes routed all lanes o x at a b h new k c =
    elim (cases_lt k o) [
      | inl m ↦ rw (
        get_or-set_other all o k x unreached_output (omega arith),
        get_or-set_other lanes o k at (empty_lane 0 0) (omega arith),
      ) (h k c)
      | inr m ↦ elim (eq-or-lt_of_le m) [
        | inl e ↦ subst (λ (n : ℕ). IsOutput (get_or sizes n (0, 0)) routed (get_or (set all o x) n unreached_output)
            (lane_at (set lanes o at) n)) e
            (rw (get_or-set_same all o x unreached_output a, get_or-set_same lanes o at (empty_lane 0 0) b) new)
        | inr m2 ↦ rw (
          get_or-set_other all o k x unreached_output (omega arith),
          get_or-set_other lanes o k at (empty_lane 0 0) (omega arith),
        ) (h k c)
      ]
    ]

-- an item that was in hand is routed
routed_items : (s : CoreState) (item : ℕ) → s.held ≡ Some item → IsCore s →
    ItemsAgree (length s.raw) s.taken 0 s.gathered s.numbers.made s.numbers.removed (s.numbers.routed + 1)
routed_items s item held h =
    record {
      come = h.items.come;
      few = h.items.few;
      few_gathered = h.items.few_gathered;
      gone = omega (arith, h.items.gone, ap held_count held);
    }

-- an item is counted at each output
counted_at_each : (more : OutputNumbers → OutputNumbers) (s : CoreState) → ((o : ℕ) → o < length s.setup.outputs →
    IsOutput (sizes_at s.setup o) (s.numbers.routed + 1) (more (output_numbers s.numbers o)) (lane_at s.lanes o))
    → IsCore s →
    OutputsAgree s.setup.outputs (s.numbers.routed + 1) (map more s.numbers.outputs) s.lanes
counted_at_each more s each h =
    record {
      lane_count = h.outputs.lane_count;
      number_count = length-map s.numbers.outputs more ∙ h.outputs.number_count;
      few = h.outputs.few;
      each = λ o b. rw (get_or-map more s.numbers.outputs o unreached_output unreached_output
          (omega (arith, b, h.outputs.number_count))) (each o b);
    }

-- the mark of the item in hand is gone
one_mark_fewer : (s : CoreState) (item : ℕ) → s.held ≡ Some item → IsCore s
    → length (drop 1 s.made) ≡ 0 + length s.raw
one_mark_fewer s item held h = omega (arith, length-drop 1 s.made, h.marks, ap held_count held)

-- an item is offered and counted by its verdict
kept_as : (verdict : Verdict) (s : CoreState) (outs : List (Option Content)) (item : ℕ) (stored : List Entry)
    → s.held ≡ Some item → IsCore s →
    IsCore (record s {
      held =
          None;
      made = drop 1 s.made;
      lanes = lanes_routed item verdict outs s.lanes;
      numbers = numbers_routed verdict outs s.lanes s.numbers;
      stored = stored;
    })
kept_as verdicts.Passes s outs item stored held h =
    record {
      outputs = record {
        lane_count = length-lanes_with item outs s.lanes ∙ h.outputs.lane_count;
        number_count = length-outputs_with outs s.lanes s.numbers.outputs ∙ h.outputs.number_count;
        few = h.outputs.few;
        each =
            λ o b. rw (
              lanes_with-at item outs s.lanes o (omega (arith, h.outputs.lane_count)),
              outputs_with-at outs s.lanes s.numbers.outputs o (omega (arith, h.outputs.number_count)),
            )
            (output_offered (sizes_at s.setup o) s.numbers.routed (output_numbers s.numbers o) (lane_at s.lanes o) item
            (view_at o outs) (h.outputs.each o b));
      };
      inputs = h.inputs;
      items = routed_items s item held h;
      lines = h.lines;
      marks = one_mark_fewer s item held h;
    }
kept_as verdicts.Consumed s outs item stored held h =
    record {
      outputs = counted_at_each consumed_more s (λ o b. output_kept (sizes_at s.setup o) s.numbers.routed
          (output_numbers s.numbers o) (consumed_more (output_numbers s.numbers o)) (lane_at s.lanes o) refl
          (omega arith) (h.outputs.each o b)) h;
      inputs = h.inputs;
      items = routed_items s item held h;
      lines = h.lines;
      marks = one_mark_fewer s item held h;
    }
kept_as verdicts.Late s outs item stored held h =
    record {
      outputs = counted_at_each late_more s (λ o b. output_kept (sizes_at s.setup o) s.numbers.routed
          (output_numbers s.numbers o) (late_more (output_numbers s.numbers o)) (lane_at s.lanes o) refl (omega arith)
          (h.outputs.each o b)) h;
      inputs = h.inputs;
      items = routed_items s item held h;
      lines = h.lines;
      marks = one_mark_fewer s item held h;
    }
kept_as verdicts.Removed s outs item stored held h =
    record {
      outputs = h.outputs;
      inputs = h.inputs;
      items = record {
        come = h.items.come;
        few = h.items.few;
        few_gathered = h.items.few_gathered;
        gone = omega (arith, h.items.gone, ap held_count held);
      };
      lines = h.lines;
      marks = one_mark_fewer s item held h;
    }

pub length-lanes_routed : (item : ℕ) (verdict : Verdict) (outs : List (Option Content)) (lanes : List (LaneState Offer))
    → length (lanes_routed item verdict outs lanes) ≡ length lanes
length-lanes_routed item verdicts.Passes outs lanes = length-lanes_with item outs lanes
length-lanes_routed item verdicts.Consumed outs lanes = refl
length-lanes_routed item verdicts.Late outs lanes = refl
length-lanes_routed item verdicts.Removed outs lanes = refl

pub kept_route : (s : CoreState) (verdict : Verdict) (outs : List (Option Content)) (item : ℕ) (bank : BankMemory)
    (lanes : List (LaneState Offer)) (numbers : Numbers) (stored : List Entry) → s.held ≡ Some item →
    lines_of bank ≡ lines_of s.bank → lanes ≡ lanes_routed item verdict outs s.lanes
    → numbers ≡ numbers_routed verdict outs s.lanes s.numbers → IsCore s
    → IsCore (record s {
      held =
          None;
      made = drop 1 s.made;
      bank = bank;
      lanes = lanes;
      numbers = numbers;
      stored = stored;
    })
kept_route s verdict outs item bank lanes numbers stored held same l n h =
    rw (l, n) (kept_bank _ bank same (kept_as verdict s outs item stored held h))

-- few enough metrics came to each output that one more may
pub has_few : (s : CoreState) → IsCore s → (o : ℕ) → o < length s.lanes →
    HasFew (output_numbers s.numbers o) (lane_at s.lanes o)
has_few s h o b =
    let e = h.outputs.each o (omega (arith, h.outputs.lane_count)) in
    let few = few_routed s h in
    record {
      filtered = omega (arith, few, e.all);
      late = omega (arith, few, e.all);
      consumed = omega (arith, few, e.all);
      buffered = omega (arith, few, e.all);
      dropped = omega (arith, few, e.all);
      pushed = omega (arith, few, e.pushed);
    }

-- a batch is begun
pub kept_begin : (s : CoreState) (o : ℕ) (at : LaneState Offer) (stored : List Entry) → o < length s.setup.outputs
    → (lane_at s.lanes o).flight ≡ None → at ≡ lane.after_begin (lane_at s.lanes o) → IsCore s
    → IsCore (record s { lanes = set s.lanes o at; stored = stored })
kept_begin s o at stored b none e h =
    record {
      outputs = record {
        lane_count = length-set s.lanes o at ∙ h.outputs.lane_count;
        number_count = h.outputs.number_count;
        few = h.outputs.few;
        each =
            λ k c. subst (λ (xs : List OutputNumbers). IsOutput (sizes_at s.setup k) s.numbers.routed
            (get_or xs k unreached_output) (lane_at (set s.lanes o at) k))
            (set-get_or s.numbers.outputs o unreached_output)
            (each_with s.setup.outputs s.numbers.routed s.numbers.outputs s.lanes o (output_numbers s.numbers o) at
            (omega (arith, h.outputs.number_count)) (omega (arith, h.outputs.lane_count)) h.outputs.each
            (subst (IsOutput (sizes_at s.setup o) s.numbers.routed (output_numbers s.numbers o)) (sym e)
            (output_begun (sizes_at s.setup o) s.numbers.routed (output_numbers s.numbers o) (lane_at s.lanes o) none
            (h.outputs.each o b))) k c);
      };
      inputs = h.inputs;
      items = h.items;
      lines = h.lines;
      marks = h.marks;
    }

-- a batch is done
pub kept_done : (s : CoreState) (o : ℕ) (ok : Bool) (at : LaneState Offer) (numbers : Numbers) (stored : List Entry)
    → o < length s.setup.outputs → at ≡ lane_done ok (lane_at s.lanes o) →
    numbers ≡ with_output s.numbers o (counted_done ok (count_done ok (lane_at s.lanes o)) (output_numbers s.numbers o))
    → IsCore s → IsCore (record s {
      lanes =
          set s.lanes o at;
      numbers = numbers;
      stored = stored;
    })
kept_done s o ok at numbers stored b e n h =
    let x : OutputNumbers = counted_done ok (count_done ok (lane_at s.lanes o)) (output_numbers s.numbers o) in
    subst (λ (m : Numbers). IsCore (record s { lanes = set s.lanes o at; numbers = m; stored = stored })) (sym n)
    (record {
      outputs = record {
        lane_count = length-set s.lanes o at ∙ h.outputs.lane_count;
        number_count = length-set s.numbers.outputs o x ∙ h.outputs.number_count;
        few = h.outputs.few;
        each =
            each_with s.setup.outputs s.numbers.routed s.numbers.outputs s.lanes o x at
            (omega (arith, h.outputs.number_count)) (omega (arith, h.outputs.lane_count)) h.outputs.each
            (subst (IsOutput (sizes_at s.setup o) s.numbers.routed x) (sym e)
            (output_done ok (sizes_at s.setup o) s.numbers.routed (output_numbers s.numbers o) (lane_at s.lanes o)
            (h.outputs.each o b)));
      };
      inputs = h.inputs;
      items = h.items;
      lines = h.lines;
      marks = h.marks;
    })

-- one batch fewer is in flight
pub flights_done : (lanes : List (LaneState Offer)) (o : ℕ) (at : LaneState Offer) → o < length lanes →
    IsSome (lane_at lanes o).flight → at.flight ≡ None → flights (set lanes o at) + 1 ≡ flights lanes
flights_done lanes o at b some none =
    omega (
      arith,
      sum_by-set in_flight lanes o at (empty_lane 0 0) b,
      one_flies (lane_at lanes o) some,
      none_flies at none,
    )

-- once a batch is done none is in flight
pub none_left : (ok : Bool) (at : LaneState Offer) → (lane_done ok at).flight ≡ None
none_left true at = refl
none_left false at = refl

none_flies_yet : (outputs : List OutSetup) → flights (map lane_of outputs) ≡ 0
none_flies_yet [] = refl
none_flies_yet (x ∷ outputs) = omega (arith, none_flies_yet outputs)

-- nothing is in flight at first
pub spare_at_first : (outputs : List OutSetup) (lanes : List (LaneState Offer)) →
    lanes ≡ map lane_of outputs → flights lanes ≡ 0
spare_at_first outputs lanes e = ap flights e ∙ none_flies_yet outputs

-- an output at which nothing waits agrees
empty_output : (x : OutSetup) → 1 ≤ x.batch → x.batch ≤ x.limit →
    IsOutput (x.batch, x.limit) 0 unreached_output (lane_of x)
empty_output x some fits = record {
  batch = refl;
  limit = refl;
  some = some;
  fits = fits;
  waits = omega arith;
  flies = omega arith;
  buffered = refl;
  all = refl;
  pushed = omega arith;
}

-- what stands where a list of set-ups has no output, and no input
pub no_output : OutSetup
no_output = record { batch = 0; limit = 0 }

pub no_input : InSetup
no_input = record { tracked = false; max_undelivered = 0 }

each_at_first : (outputs : List OutSetup) →
    All (λ (x : OutSetup). (1 ≤ x.batch) × (x.batch ≤ x.limit)) outputs → (k : ℕ) → k < length outputs →
    IsOutput (get_or (map sizes outputs) k (0, 0)) 0 (get_or (replicate (length outputs) unreached_output) k
    unreached_output) (lane_at (map lane_of outputs) k)
each_at_first outputs h k b =
    rw (
      get_or-map sizes outputs k no_output (0, 0) b,
      get_or-map lane_of outputs k no_output (empty_lane 0 0) b,
      get_or-replicate (length outputs) k unreached_output unreached_output b,
    )
    (empty_output (get_or outputs k no_output) (h k no_output b).0 (h k no_output b).1)

-- a core in which nothing happened
pub kept_first : (setup : CoreSetup) (bank : BankMemory) → length setup.outputs ≤ 16 →
    All (λ (x : OutSetup). (1 ≤ x.batch) × (x.batch ≤ x.limit)) setup.outputs → lines_of bank ≡ setup.aggs →
    IsCore (first_state setup bank)
kept_first setup bank few sized same =
    record {
      outputs = record {
        lane_count = length-map setup.outputs lane_of ∙ sym (length-map setup.outputs sizes);
        number_count = length-replicate (length setup.outputs) unreached_output ∙ sym (length-map setup.outputs sizes);
        few = omega (arith, length-map setup.outputs sizes);
        each = λ k b. each_at_first setup.outputs sized k (omega (arith, length-map setup.outputs sizes));
      };
      inputs = record {
        number_count = length-map _ unread_input ∙ length-map setup.inputs is_tracked
            ∙ sym (length-map setup.inputs most_undelivered);
        ended_count = length-replicate (length setup.inputs) false ∙ sym (length-map setup.inputs most_undelivered);
      };
      items = record { come = refl; few = omega arith; few_gathered = omega arith; gone = refl };
      lines = same;
      marks = refl;
    }

-- a batch that is begun is in flight
pub flies : (s : CoreState) (o : ℕ) (at : LaneState Offer) → IsCore s → o < length s.setup.outputs →
    at ≡ lane.after_begin (lane_at s.lanes o) → IsSome (lane_at (set s.lanes o at) o).flight
flies s o at h b e =
    subst (λ (y : LaneState Offer). IsSome y.flight)
    (sym (get_or-set_same s.lanes o at (empty_lane 0 0) (omega (arith, h.outputs.lane_count)) ∙ e)) refl

-- a batch has metrics
pub some_begun : (s : CoreState) (o : ℕ) (batch : Batch) → IsCore s → o < length s.setup.outputs →
    IsBatchOf (lane_at s.lanes o) batch → 0 < length (lane_at s.lanes o).waiting → batch.from < batch.to
some_begun s o batch h b is some = omega (arith, is.from, is.to, (h.outputs.each o b).some)
