-- Outputs by their indices: one changes, and the others stay.
use Rattle.std.proofs.Common.{◌≡◌, ◌≢◌, ◌≤◌, ◌<◌, ◌+◌, ℕ, Bool, true, false, List, [], ◌∷◌, ◌++◌, length, take, drop}
use Rattle.std.proofs.Common.{get_or, if◌then◌else◌}
use Rattle.std.proofs.Common.{set, refl, sym, ap, ◌∙◌, subst, inl, inr, arith}
use Rattle.std.specs.Prelude.{map, slice_get, All}
use Rattle.std.specs.List.{AllByRecursion}
use Rattle.std.proofs.lemmas.Bool.{cases_eq}
use Rattle.std.proofs.lemmas.List.{length-map, length-set, get_or-map, get_or-set_same, get_or-set_other, set-set}
use Rattle.std.proofs.lemmas.List.{map-set}
use Rattle.std.specs.declared.option.Option.{Option}
use Rattle.std.specs.declared.option.Option.TheVariants.{Some, None}
use Rattle.agent_base.specs.Carried.{Carried}
use Rattle.metric.specs.declared.metric.Content.{Content}
use Rattle.account.specs.Numbers.{output_numbers, unreached_output, with_output, Numbers}
use Rattle.account.specs.Setup.{Setup}
use Rattle.account.specs.Views.{HasViews}
use Rattle.account.specs.declared.entry.Verdict.{Verdict}
use Rattle.account.specs.declared.entry.Verdict.TheVariants as verdicts
use Rattle.agg_bank.specs.Bank.{BankMemory}
use Rattle.pipeline_core.specs.declared.routing.Routed.{Routed}
use Rattle.out_lane.specs.Lane.{LaneState, empty_lane}
use Rattle.out_lane.specs.Lane as lane
use Rattle.pipeline_core.specs.CoreState.{CoreState, lane_at, lane_of, first_state, setup_of, sizes}
use Rattle.pipeline_core.specs.declared.setup.CoreSetup.{CoreSetup}
use Rattle.pipeline_core.specs.declared.setup.OutSetup.{OutSetup}
use Rattle.pipeline_core.specs.Offers.{offered_views, view_at}
use Rattle.pipeline_core.specs.Steps.{after_begin, after_done, after_route, lane_done, lane_with, count_done}
use Rattle.pipeline_core.specs.Steps.{batch_views, counted_done, done_reports, with_reports}
use Rattle.pipeline_core.proofs.Keeping.{reported_rest}
use Rattle.account.specs.declared.entry.Report.{Report}
use Rattle.pipeline_core.specs.declared.output.Offer.{Offer}
use Rattle.pipeline_core.proofs.StandsSteps.{some_same}
use Rattle.pipeline_core.proofs.Offering.{lanes_with-at, length-lanes_with}
use Rattle.agent_workers.specs.Output.{OutPart, out_of, outs_of, out_at, no_out, anew, AreAnew, AreOutputs}
use Rattle.agent_workers.specs.Item.{ProcPart, TakesNext, routed_by, seen_by}
use Rattle.agent_workers.specs.declared.output.OutJob.{OutJob}
use Rattle.agent_config.specs.declared.config.AggConf.{AggConf}
use Rattle.agent_workers.specs.Job.{agg_filters, filters_of}
use Rattle.pipeline_core.specs.Worked.{views_of}
use Rattle.pipeline_core.specs.declared.gathering.Item.{Item}
use Rattle.std.proofs.lemmas.List.Edits.{map_over_more}
use Rattle.agent_workers.specs.Running.{AllMade, IsLaneReady, IsReady, IsLaneKept, IsRoutable, IsSentOn, IsSentAt}
use Rattle.agent_workers.specs.Running.{HasLimits}

-- what holds of what was set at an index, and of the others, holds at each index
pub each_set : {X : Type 0} (P : ℕ → X → Type 0) (xs : List X) (i : ℕ) (y d : X) → i < length xs → P i y
    → ((k : ℕ) → k < length xs → k ≢ i → P k (get_or xs k d)) → (k : ℕ) → k < length (set xs i y)
    → P k (get_or (set xs i y) k d)
each_set P xs i y d b here others k l =
    elim (cases_eq k i) [
      | inl e ↦ subst (λ (j : ℕ). P j (get_or (set xs i y) j d)) (sym e)
          (subst (P i) (sym (get_or-set_same xs i y d b)) here)
      | inr ne ↦ subst (P k) (sym (get_or-set_other xs i k y d ne)) (others k (omega (arith, l, length-set xs i y)) ne)
    ]

-- reports say nothing of an output's numbers
reported_output : (n : Numbers) (reports : List Report) (o : ℕ)
    → output_numbers (with_reports n reports) o ≡ output_numbers n o
reported_output n reports o = ap (λ (m : Numbers). output_numbers m o) (reported_rest n reports)

-- ---- lanes

-- a lane at which a batch was begun and done
lane_lands : (ok : Bool) (x : LaneState Offer) → 1 ≤ x.batch → IsLaneReady (lane_done ok (lane.after_begin x))
lane_lands true x some = record { some = some; landed = refl }
lane_lands false x some = record { some = some; landed = refl }

-- the lanes, once a batch was begun and done
pub lanes_done : (lanes : List (LaneState Offer)) (o : ℕ) (ok : Bool) → o < length lanes →
    set (set lanes o (lane.after_begin (lane_at lanes o))) o
    (lane_done ok (lane_at (set lanes o (lane.after_begin (lane_at lanes o))) o)) ≡ set lanes o
    (lane_done ok (lane.after_begin (lane_at lanes o)))
lanes_done lanes o ok b =
    set-set lanes o (lane.after_begin (lane_at lanes o)) (lane_done ok
    (lane_at (set lanes o (lane.after_begin (lane_at lanes o))) o))
    ∙ ap (λ (x : LaneState Offer). set lanes o (lane_done ok x))
    (get_or-set_same lanes o (lane.after_begin (lane_at lanes o)) (empty_lane 0 0) b)

-- the views that a core lends of the batch that was begun
pub lent_views : (core mid : CoreState) (o from to : ℕ) → o < length core.lanes → mid ≡ after_begin core o from to
    → offered_views (lane.flying (lane_at mid.lanes o)) ≡ batch_views (lane_at core.lanes o)
lent_views core mid o from to b began =
    ap (λ (s : CoreState). offered_views (lane.flying (lane_at s.lanes o))) began
    ∙ ap (λ (x : LaneState Offer). offered_views (lane.flying x))
    (get_or-set_same core.lanes o (lane.after_begin (lane_at core.lanes o)) (empty_lane 0 0) b)

module _ (core mid next : CoreState) (o from to : ℕ) (ok : Bool) (b : o < length core.lanes)
    (began : mid ≡ after_begin core o from to) (done : next ≡ after_done mid o ok) where
  lanes_are : next.lanes ≡ set core.lanes o (lane_done ok (lane.after_begin (lane_at core.lanes o)))
  lanes_are = ap (λ (s : CoreState). s.lanes) done ∙ ap (λ (s : CoreState). set s.lanes o
      (lane_done ok (lane_at s.lanes o))) began ∙ lanes_done core.lanes o ok b

  -- the core is ready again
  pub ready_done : IsReady core → IsReady next
  ready_done h = record {
    lane_count = ap length lanes_are ∙ length-set core.lanes o (lane_done ok (lane.after_begin (lane_at core.lanes o)))
        ∙ h.lane_count ∙ sym (ap (λ (s : CoreState). length s.setup.outputs) done
        ∙ ap (λ (s : CoreState). length s.setup.outputs) began);
    each = subst (λ (xs : List (LaneState Offer)). (k : ℕ) → k < length xs → IsLaneReady (lane_at xs k)) (sym lanes_are)
        (each_set (λ (k : ℕ) (x : LaneState Offer). IsLaneReady x) core.lanes o
        (lane_done ok (lane.after_begin (lane_at core.lanes o))) (empty_lane 0 0) b
        (lane_lands ok (lane_at core.lanes o) (h.each o b).some) (λ k l ne. h.each k l));
    empty_handed = ap (λ (s : CoreState). s.held) done ∙ ap (λ (s : CoreState). s.held) began ∙ h.empty_handed;
    limits = subst HasLimits (sym (ap (λ (s : CoreState). s.setup) done ∙ ap (λ (s : CoreState). s.setup) began))
        h.limits;
  }

  -- and all else but the output is as before
  pub sent_at : IsSentAt o core next
  sent_at = record {
    kept = record {
      setup = ap (λ (s : CoreState). s.setup) done ∙ ap (λ (s : CoreState). s.setup) began;
      raw = ap (λ (s : CoreState). s.raw) done ∙ ap (λ (s : CoreState). s.raw) began;
      held = ap (λ (s : CoreState). s.held) done ∙ ap (λ (s : CoreState). s.held) began;
      ended = ap (λ (s : CoreState). s.ended) done ∙ ap (λ (s : CoreState). s.ended) began;
      gathered = ap (λ (s : CoreState). s.gathered) done ∙ ap (λ (s : CoreState). s.gathered) began;
      stopped = ap (λ (s : CoreState). s.stopped) done ∙ ap (λ (s : CoreState). s.stopped) began;
    };
    lane_count = ap length lanes_are ∙ length-set core.lanes o (lane_done ok (lane.after_begin (lane_at core.lanes o)));
    others = λ k ne. record {
      lane = ap (λ (xs : List (LaneState Offer)). lane_at xs k) lanes_are
          ∙ get_or-set_other core.lanes o k (lane_done ok (lane.after_begin (lane_at core.lanes o)))
          (empty_lane 0 0) ne;
      numbers = ap (λ (s : CoreState). output_numbers s.numbers k) done
          ∙ reported_output (with_output mid.numbers o (counted_done ok (count_done ok (lane_at mid.lanes o))
          (output_numbers mid.numbers o))) (done_reports mid o ok) k
          ∙ get_or-set_other mid.numbers.outputs o k (counted_done ok (count_done ok (lane_at mid.lanes o))
          (output_numbers mid.numbers o)) unreached_output ne
          ∙ ap (λ (s : CoreState). output_numbers s.numbers k) began;
    };
  }

-- nothing was sent
pub sent_none : (o : ℕ) (core next : CoreState) → next ≡ core → IsSentAt o core next
sent_none o core next same = record {
  kept = record {
    setup = ap (λ (s : CoreState). s.setup) same;
    raw = ap (λ (s : CoreState). s.raw) same;
    held = ap (λ (s : CoreState). s.held) same;
    ended = ap (λ (s : CoreState). s.ended) same;
    gathered = ap (λ (s : CoreState). s.gathered) same;
    stopped = ap (λ (s : CoreState). s.stopped) same;
  };
  lane_count = ap (λ (s : CoreState). length s.lanes) same;
  others = λ k ne. record {
    lane = ap (λ (s : CoreState). lane_at s.lanes k) same;
    numbers = ap (λ (s : CoreState). output_numbers s.numbers k) same;
  };
}

pub sent_on : (old mid new : CoreState) → IsSentOn old mid → IsSentOn mid new → IsSentOn old new
sent_on old mid new h k = record {
  setup = k.setup ∙ h.setup;
  raw = k.raw ∙ h.raw;
  held = k.held ∙ h.held;
  ended = k.ended ∙ h.ended;
  gathered = k.gathered ∙ h.gathered;
  stopped = k.stopped ∙ h.stopped;
}

pub sent_more : (o : ℕ) (old mid new : CoreState) → IsSentAt o old mid → IsSentAt o mid new → IsSentAt o old new
sent_more o old mid new h k = record {
  kept = sent_on old mid new h.kept k.kept;
  lane_count = k.lane_count ∙ h.lane_count;
  others = λ j ne. record {
    lane = (k.others j ne).lane ∙ (h.others j ne).lane;
    numbers = (k.others j ne).numbers ∙ (h.others j ne).numbers;
  };
}

view_kept : (item : ℕ) (view : Option Content) (x : LaneState Offer) → IsLaneKept x (lane_with item view x)
view_kept item None x = record { batch = refl; flight = refl }
view_kept item (Some view) x = record { batch = refl; flight = refl }

pub routable_same : (old new : CoreState) → new.setup ≡ old.setup → new.ended ≡ old.ended → new.gathered ≡ old.gathered
    → new.stopped ≡ old.stopped → new.lanes ≡ old.lanes → (AllMade old.made → AllMade new.made) → IsRoutable old new
routable_same old new setup ended gathered stopped lanes made = record {
  setup = setup;
  ended = ended;
  gathered = gathered;
  stopped = stopped;
  lane_count = ap length lanes;
  each = λ o b. record {
    batch = ap (λ (xs : List (LaneState Offer)). (lane_at xs o).batch) lanes;
    flight = ap (λ (xs : List (LaneState Offer)). (lane_at xs o).flight) lanes;
  };
  made = made;
}

-- the first of the items is gone: where all had been made all are
all_but_first : (marks : List Bool) → AllMade marks → AllMade (drop 1 marks)
all_but_first [] h = tt
all_but_first (m ∷ marks) h = h.1

made_routed : (core next : CoreState) → next.made ≡ drop 1 core.made → AllMade core.made → AllMade next.made
made_routed core next is h = subst AllMade (sym is) (all_but_first core.made h)

-- an item was routed, and views were offered; to one that doesn't pass nothing is
not_offered : (core next : CoreState) (r : Routed) (bank : BankMemory) (numbers : Numbers) (verdict : Verdict)
    → next ≡ record (after_route core r verdict bank) { lanes = core.lanes; numbers = numbers } → IsRoutable core next
not_offered core next r bank numbers verdict is =
    routable_same core next (ap (λ (s : CoreState). s.setup) is) (ap (λ (s : CoreState). s.ended) is)
    (ap (λ (s : CoreState). s.gathered) is) (ap (λ (s : CoreState). s.stopped) is) (ap (λ (s : CoreState). s.lanes) is)
    (made_routed core next (ap (λ (s : CoreState). s.made) is))

pub routed_kept : (core next : CoreState) (r : Routed) (verdict : Verdict) (bank : BankMemory)
    → next ≡ after_route core r verdict bank → IsRoutable core next
routed_kept core next r verdicts.Removed bank is = not_offered core next r bank _ verdicts.Removed is
routed_kept core next r verdicts.Consumed bank is = not_offered core next r bank _ verdicts.Consumed is
routed_kept core next r verdicts.Late bank is = not_offered core next r bank _ verdicts.Late is
routed_kept core next r verdicts.Passes bank is = record {
  setup = ap (λ (s : CoreState). s.setup) is;
  ended = ap (λ (s : CoreState). s.ended) is;
  gathered = ap (λ (s : CoreState). s.gathered) is;
  stopped = ap (λ (s : CoreState). s.stopped) is;
  lane_count = ap (λ (s : CoreState). length s.lanes) is ∙ length-lanes_with r.item r.outs core.lanes;
  each = λ o b. subst (IsLaneKept (lane_at core.lanes o)) (sym (ap (λ (s : CoreState). lane_at s.lanes o) is
      ∙ lanes_with-at r.item r.outs core.lanes o b))
      (view_kept r.item (view_at o r.outs) (lane_at core.lanes o));
  made = made_routed core next (ap (λ (s : CoreState). s.made) is);
}

pub routable_more : (old mid new : CoreState) → IsRoutable old mid → IsRoutable mid new → IsRoutable old new
routable_more old mid new h k = record {
  setup = k.setup ∙ h.setup;
  ended = k.ended ∙ h.ended;
  gathered = k.gathered ∙ h.gathered;
  stopped = k.stopped ∙ h.stopped;
  lane_count = k.lane_count ∙ h.lane_count;
  each = λ o b. let a = h.each o b in let c = k.each o (omega (arith, b, h.lane_count)) in
      record { batch = c.batch ∙ a.batch; flight = c.flight ∙ a.flight };
  made = λ all. k.made (h.made all);
}

first_gone : (xs : List Content) (x : Content) → slice_get xs 0 ≡ Some x → length (drop 1 xs) + 1 ≡ length xs
first_gone [] x at = absurd (let none : None ≡ Some x = at in cc)
first_gone (y ∷ ys) x at = omega arith

-- an item was taken and routed
pub item_routed : (core mid next : CoreState) (item : Item) (proc : ProcPart) (whole : Option Content)
    (verdict : Verdict) (bank : BankMemory) → TakesNext core mid item
    → next ≡ after_route mid (routed_by proc item whole) verdict bank → IsRoutable core next
item_routed core mid next item proc whole verdict bank takes is =
    routable_more core mid next
    (routable_same core mid (ap (λ (s : CoreState). s.setup) takes.after) (ap (λ (s : CoreState). s.ended) takes.after)
    (ap (λ (s : CoreState). s.gathered) takes.after) (ap (λ (s : CoreState). s.stopped) takes.after)
    (ap (λ (s : CoreState). s.lanes) takes.after)
    (λ h. subst AllMade (sym (ap (λ (s : CoreState). s.made) takes.after)) h))
    (routed_kept mid next (routed_by proc item whole) verdict bank is)

-- and one raw item fewer is left
pub item_fewer : (core mid next : CoreState) (item : Item) (proc : ProcPart) (whole : Option Content)
    (verdict : Verdict) (bank : BankMemory) → TakesNext core mid item
    → next ≡ after_route mid (routed_by proc item whole) verdict bank
    → length next.raw + 1 ≡ length core.raw
item_fewer core mid next item proc whole verdict bank takes is =
    let left : next.raw ≡ drop 1 core.raw = ap (λ (s : CoreState). s.raw) is ∙ ap (λ
    (s : CoreState). s.raw) takes.after in
    ap (λ (xs : List Content). length xs + 1) left ∙ first_gone core.raw item.metric takes.metric

-- of an item that was removed nothing is there at any output
no_view : (fs : List (Content → Option Content)) → AllByRecursion (λ (view : Option Content). view ≡ None)
    (map (λ (f : Content → Option Content). None) fs)
no_view [] = tt
no_view (f ∷ fs) = (refl, no_view fs)

either_none : (b : Bool) (views : List (Option Content)) → (if b then views else views) ≡ views
either_none true views = refl
either_none false views = refl

-- the same of two lists, one behind the other
no_view_at_all : (fs gs : List (Content → Option Content)) → AllByRecursion (λ (view : Option Content). view ≡ None)
    (map (λ (f : Content → Option Content). None) fs ++ map (λ (f : Content → Option Content). None) gs)
no_view_at_all [] gs = no_view gs
no_view_at_all (f ∷ fs) gs = (refl, no_view_at_all fs gs)

-- of an item with a whole anything may be seen, of another nothing; of one that was made no aggregator sees anything
pub has_views : (proc : ProcPart) (item : Item) (whole : Option Content)
    → HasViews whole (seen_by proc.aggs item.made whole ++ views_of (filters_of proc.outs) whole)
has_views proc item (Some whole) = tt
has_views proc item None =
    subst (λ (views : List (Option Content)). AllByRecursion (λ (view : Option Content). view ≡ None)
    (views ++ views_of (filters_of proc.outs) None)) (sym (either_none item.made (views_of
    (agg_filters proc.aggs) None)))
    (no_view_at_all (agg_filters proc.aggs) (filters_of proc.outs))

pub sees_nothing : (aggs : List AggConf) (item : Item) (whole : Option Content) → item.made ≡ true
    → AllByRecursion (λ (view : Option Content). view ≡ None) (seen_by aggs item.made whole)
sees_nothing aggs item whole is =
    subst (λ (b : Bool). AllByRecursion (λ (view : Option Content). view ≡ None) (seen_by aggs b whole)) (sym is)
    (no_view (agg_filters aggs))

-- the item in hand was made, where the mark of the first one says so
pub marked_first : (core mid : CoreState) (item : Item) → TakesNext core mid item → slice_get mid.made 0 ≡ Some true
    → item.made ≡ true
marked_first core mid item takes at = some_same item.made true
    (sym takes.mark ∙ ap (λ (s : CoreState). slice_get s.made 0) (sym takes.after) ∙ at)

-- items were routed: the core is ready as before
pub ready_routed : (old new : CoreState) → IsReady old → IsRoutable old new → new.held ≡ None → IsReady new
ready_routed old new h k held = record {
  lane_count = k.lane_count ∙ h.lane_count ∙ ap (λ (s : Setup). length s.outputs) (sym k.setup);
  each = λ o b. let l : o < length old.lanes = omega (arith, b, k.lane_count) in
      record {
        some = subst (λ (n : ℕ). 1 ≤ n) (sym (k.each o l).batch) (h.each o l).some;
        landed = (k.each o l).flight ∙ (h.each o l).landed;
      };
  empty_handed = held;
  limits = subst HasLimits (sym k.setup) h.limits;
}

-- a core whose lanes and set-up are as before is ready as before
pub ready_same : (old new : CoreState) → new.setup ≡ old.setup → new.lanes ≡ old.lanes → new.held ≡ old.held
    → IsReady old → IsReady new
ready_same old new setup lanes held h = record {
  lane_count = ap length lanes ∙ h.lane_count ∙ ap (λ (s : Setup). length s.outputs) (sym setup);
  each = subst (λ (xs : List (LaneState Offer)). (k : ℕ) → k < length xs → IsLaneReady (lane_at xs k))
      (sym lanes) h.each;
  empty_handed = held ∙ h.empty_handed;
  limits = subst HasLimits (sym setup) h.limits;
}

-- ---- parts of outputs

-- the parts with one of them set
pub outputs_set : (count : ℕ) (outs : List OutPart) (i : ℕ) (out : OutPart) → i < count → out.output ≡ i
    → AreOutputs count outs → AreOutputs count (set outs i out)
outputs_set count outs i out b e h =
    let at : (k : ℕ) → k < length (set outs i out) → (get_or (set outs i out) k no_out).output ≡ k =
    each_set (λ (k : ℕ) (x : OutPart). x.output ≡ k) outs i out no_out (omega (arith, b, h.count_is)) e
    (λ k l ne. h.numbered k (omega (arith, l, h.count_is))) in
    record {
      count_is = length-set outs i out ∙ h.count_is;
      numbered = λ k l. at k
          (omega (arith, l, h.count_is, length-set outs i out));
    }

pub at_anew : (outs : List OutPart) (k : ℕ) → k < length outs → out_at (map anew outs) k ≡ anew (out_at outs k)
at_anew outs k l = get_or-map anew outs k no_out no_out l

pub are_anew : (outs : List OutPart) → AreAnew (map anew outs)
are_anew outs = λ k l. ap (λ (x : OutPart). x.failed_since) (at_anew outs k (omega (arith, l, length-map outs anew)))

pub outputs_anew : (count : ℕ) (outs : List OutPart) → AreOutputs count outs → AreOutputs count (map anew outs)
outputs_anew count outs h = record {
  count_is = length-map outs anew ∙ h.count_is;
  numbered = λ k l. ap (λ (x : OutPart). x.output) (at_anew outs k (omega (arith, l, h.count_is))) ∙ h.numbered k l;
}

-- the same where the counts began anew, by other terms
pub outputs_still : (count last : ℕ) (outs fresh : List OutPart) → fresh ≡ map anew outs → last ≡ count
    → AreOutputs count outs → AreOutputs last fresh
outputs_still count last outs fresh are same h = rw (are, same) (outputs_anew count outs h)

-- nothing happened yet
pub ready_first : (setup : CoreSetup) (outputs : List OutSetup) (core : CoreState) → core ≡ first_state setup core.bank
    → setup.outputs ≡ outputs
    → All (λ (x : OutSetup). (1 ≤ x.batch) × (x.batch ≤ x.limit)) outputs
    → HasLimits (setup_of setup) → IsReady core
ready_first setup outputs core is same sizes_fit limits_fit = record {
  lane_count = ap (λ (s : CoreState). length s.lanes) is ∙ length-map setup.outputs lane_of
      ∙ sym (ap (λ (s : CoreState). length s.setup.outputs) is ∙ length-map setup.outputs sizes);
  each = λ o b.
      let d : OutSetup = record { batch = 0; limit = 0 } in
      let within : o < length setup.outputs = omega (
        arith,
        b,
        ap (λ (s : CoreState). length s.lanes) is,
        length-map setup.outputs lane_of,
      ) in
      let lane_is : lane_at core.lanes o ≡ lane_of (get_or setup.outputs o d) =
      ap (λ (s : CoreState). lane_at s.lanes o) is ∙ get_or-map lane_of setup.outputs o d (empty_lane 0 0) within in
      let fits = subst (λ (xs : List OutSetup). All (λ (x : OutSetup). (1 ≤ x.batch) × (x.batch ≤ x.limit)) xs)
      (sym same) sizes_fit o d within in
      subst IsLaneReady (sym lane_is) (record { some = fits.0; landed = refl });
  empty_handed = ap (λ (s : CoreState). s.held) is;
  limits = subst (λ (s : CoreState). HasLimits s.setup) (sym is) limits_fit;
}

-- the part of a job is the one at its index
pub part_here : {K C : Type 0} (told : K → Carried) (jobs : List (OutJob K C)) (i : ℕ) (d : OutJob K C)
    → i < length jobs → out_at (outs_of told jobs) i ≡ out_of told (get_or jobs i d)
part_here told jobs i d b = get_or-map (out_of told) jobs i d no_out b

-- and it has its index as its number
pub part_number : {K C : Type 0} (told : K → Carried) (jobs : List (OutJob K C)) (i : ℕ) (d : OutJob K C) (count : ℕ)
    → i < length jobs → AreOutputs count (outs_of told jobs) → (get_or jobs i d).output ≡ i
part_number told jobs i d count b h =
    ap (λ (x : OutPart). x.output) (sym (part_here told jobs i d b))
    ∙ h.numbered i (omega (arith, b, h.count_is, length-map jobs (out_of told)))

-- a job was set, whose number is its index
pub part_set : {K C : Type 0} (told : K → Carried) (jobs : List (OutJob K C)) (i : ℕ) (job : OutJob K C) (count : ℕ)
    → i < length jobs → job.output ≡ i → AreOutputs count (outs_of told jobs)
    → AreOutputs count (outs_of told (set jobs i job))
part_set told jobs i job count b number h =
    subst (AreOutputs count) (sym (map-set (out_of told) jobs i job))
    (outputs_set count (outs_of told jobs) i (out_of told job)
    (omega (arith, b, h.count_is, length-map jobs (out_of told))) number h)

-- one count more begins anew
pub anew_more : {K C : Type 0} (told : K → Carried) (jobs : List (OutJob K C)) (i : ℕ) (d : OutJob K C)
    (olds : List OutPart) → i < length jobs → outs_of told jobs ≡ map anew (take i olds) ++ drop i olds
    → i < length olds →
    outs_of told (set jobs i (record (get_or jobs i d) { failed_since = 0 })) ≡ map anew (take (i + 1) olds)
    ++ drop (i + 1) olds
anew_more told jobs i d olds b h l =
    map-set (out_of told) jobs i (record (get_or jobs i d) { failed_since = 0 })
    ∙ map_over_more anew olds (outs_of told jobs) i (out_of told (get_or jobs i d)) l h
    (sym (get_or-map (out_of told) jobs i d (out_of told (get_or jobs i d)) b))
