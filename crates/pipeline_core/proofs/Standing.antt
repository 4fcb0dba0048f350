-- A core that stands for a journal, and one entry more.
use Rattle.std.proofs.Common.{◌≡◌, ◌<◌, ℕ, ℤ, ◌+◌, Bool, false, ◌||◌, List, [], ◌∷◌, ◌++◌, length, map, drop, sym}
use Rattle.std.proofs.Common.{refl, ap, ◌∙◌, ◌^◌, arith, append_assoc, append-nil, filter, flat_map}
use Rattle.std.proofs.lemmas.Grind.{flat_map-append}
use Rattle.std.proofs.lemmas.List.Elements.{filter-append}
use Rattle.std.proofs.Math.Bool.{or-false}
use Rattle.std.specs.Prelude.{slice_get, OnErr}
use Rattle.std.specs.declared.result.Result.{Result}
use Rattle.std.specs.declared.result.Result.TheVariants.{Ok, Err}
use Rattle.std.specs.declared.option.Option.{Option}
use Rattle.std.specs.declared.option.Option.TheVariants.{Some}
use Rattle.metric.specs.declared.metric.Content.{Content}
use Rattle.account.specs.Items.{named_by, takes_by, routes_by, held_after}
use Rattle.account.specs.Origins.{Origin, origins_by}
use Rattle.account.specs.Says.{reports_of}
use Rattle.account.specs.declared.entry.Report.{Report}
use Rattle.track_groups.specs.Settling.{is_report_of}
use Rattle.agg_bank.specs.Bank.{BankMemory, BankStands}
use Rattle.agg_bank.specs.Events.{offered}
use Rattle.account.specs.declared.entry.Entry.{Entry}
use Rattle.out_lane.specs.Lane.{LaneState}
use Rattle.out_lane.specs.LaneLaws.{IsLaneOf}
use Rattle.pipeline_core.specs.declared.output.Offer.{Offer}
use Rattle.pipeline_core.specs.Offers.{offers, offered_by, lane_events, lane_events_by}
use Rattle.pipeline_core.specs.Legal.{is_stop, has_ended, is_ended_of, gathered_by, moment_after, Meets, MeetsLine}
use Rattle.pipeline_core.specs.Tracked.{marks, tracker_after}
use Rattle.pipeline_core.specs.Totals.{totals}
use Rattle.pipeline_core.specs.CoreState.{CoreState, IsCore, lane_at, marked_at, told_at, sizes_at}
use Rattle.pipeline_core.specs.Stands.{group_in, was_made, reports_for, IsTold, Stands}
use Rattle.pipeline_core.specs.Windows.{bank_events, bank_events_by, BankIs}
use Rattle.pipeline_core.proofs.BankLemmas.{bank_events-push, few_offered, marks-push}
use Rattle.pipeline_core.proofs.CopyGroups.{kept-push}
use Rattle.pipeline_core.proofs.CopyLanes.{IsPlain, nothing, plain_anywhere, plain_lane}
use Rattle.pipeline_core.proofs.JournalPush.{taken-push, in_hand-push, offers-push, lane_events-push}
use Rattle.pipeline_core.proofs.JournalPush.{has_stop-push, has_ended-push, gathered_count-push}
use Rattle.pipeline_core.proofs.JournalPush.{counted_from-push, IsLegal-push, raw_items-push}

-- what an entry that names, takes and routes items makes of those that a core keeps
pub record ItemsGrow (s : CoreState) (named : List Content) (takes routes : ℕ) (origins : List Origin)
    (raw : List Content) (taken : ℕ) (made : List Bool) (groups : List (Option ℕ)) : Type 0 where
  pub raw_is : raw ≡ drop takes (s.raw ++ named)
  pub taken_is : taken ≡ s.taken + takes
  pub made_is : made ≡ drop routes (s.made ++ map was_made origins)
  pub groups_are : groups ≡ drop routes (s.groups ++ map group_in origins)

-- what an entry makes of the outputs
pub record OutputsGrow (s : CoreState) (journal : List Entry) (e : Entry) (lanes : List (LaneState Offer))
    (marked : List (LaneState (Option ℕ))) : Type 0 where
  pub each : (o : ℕ) → o < length s.setup.outputs →
      IsLaneOf (sizes_at s.setup o).0 (sizes_at s.setup o).1 (lane_events o journal ++ lane_events_by o e)
      (offers o journal ++ offered_by o e) (lane_at lanes o)
  pub count : length lanes ≡ length s.lanes
  pub each_marked : (o : ℕ) → o < length marked →
      IsLaneOf (sizes_at s.setup o).0 (sizes_at s.setup o).1 (lane_events o (journal ++ e ∷ []))
      (marks o (journal ++ e ∷ [])) (marked_at marked o)
  pub mark_count : length marked ≡ length s.marked

-- what an entry that gathers so many metrics, names a moment, or ends an input or the run makes of the inputs
pub record InputsGrow (s : CoreState) (journal : List Entry) (more : ℕ) (moment : ℤ) (ends : ℕ → Bool) (stops : Bool)
    (gathered : ℕ) (counted : ℤ) (ended : List Bool) (stopped : Bool) : Type 0 where
  pub gathered_is : gathered ≡ s.gathered + more
  pub counted_is : counted ≡ moment
  pub each_ended : (i : ℕ) → i < length s.setup.inputs → slice_get ended i ≡ Some (has_ended i journal || ends i)
  pub ended_count : length ended ≡ length s.ended
  pub stopped_is : stopped ≡ (s.stopped || stops)

-- what one entry makes of a core that stands for a journal
pub record Grows (s t : CoreState) (journal : List Entry) (e : Entry) : Type 0 where
  pub meets : Meets s.setup journal e
  pub items : ItemsGrow s (named_by e) (takes_by e) (routes_by e) (origins_by e) t.raw t.taken t.made t.groups
  pub held : t.held ≡ held_after s.held e
  pub tracker : t.tracker ≡ tracker_after s.setup (journal ++ e ∷ [])
  pub bank : BankStands s.setup.aggs s.setup.start (bank_events journal ++ bank_events_by e) t.bank
  pub outputs : OutputsGrow s journal e t.lanes t.marked
  pub told : (i : ℕ) → i < length s.setup.inputs →
      told_at t.told i ≡ told_at s.told i ++ filter (is_report_of i) (reports_of e)
  pub numbers : t.numbers ≡ totals s.setup (journal ++ e ∷ [])
  pub stored : t.stored ≡ s.stored ++ e ∷ []
  pub inputs : InputsGrow s journal (gathered_by e) (moment_after s.counted e) (λ (i : ℕ). is_ended_of i e) (is_stop e)
      t.gathered t.counted t.ended t.stopped

-- the reports for an input with those of one entry more
reports_for-push : (i : ℕ) (journal : List Entry) (e : Entry) →
    reports_for i (journal ++ e ∷ []) ≡ reports_for i journal ++ filter (is_report_of i) (reports_of e)
reports_for-push i journal e =
    ap (filter (is_report_of i)) (flat_map-append reports_of journal (e ∷ [])
    ∙ ap (λ (xs : List Report). flat_map reports_of journal ++ xs) (append-nil (reports_of e)))
    ∙ filter-append (is_report_of i) (flat_map reports_of journal) (reports_of e)

told_more : (i : ℕ) (journal : List Entry) (e : Entry) (old new : List Report) → IsTold i journal old →
    new ≡ old ++ filter (is_report_of i) (reports_of e) → IsTold i (journal ++ e ∷ []) new
told_more i journal e old new h is = record {
  handed_out = h.handed_out;
  are = reports_for-push i journal e
      ∙ ap (λ (xs : List Report). xs ++ filter (is_report_of i) (reports_of e)) h.are
      ∙ append_assoc h.handed_out old (filter (is_report_of i) (reports_of e))
      ∙ ap (λ (xs : List Report). h.handed_out ++ xs) (sym is);
}

pub stands_grows : (s t : CoreState) (journal : List Entry) (e : Entry) → Stands s journal → Grows s t journal e
    → Stands (record t { setup = s.setup }) (journal ++ e ∷ [])
stands_grows s t journal e h g =
    record {
      legal = IsLegal-push s.setup journal e h.legal g.meets;
      raw = g.items.raw_is ∙ ap (λ (xs : List Content). drop (takes_by e) (xs ++ named_by e)) h.raw
          ∙ sym (raw_items-push s.setup journal e h.legal);
      taken_is = g.items.taken_is ∙ ap (λ (n : ℕ). n + takes_by e) h.taken_is ∙ sym (taken-push journal e);
      held = g.held ∙ ap (λ (x : Option ℕ). held_after x e) h.held ∙ sym (in_hand-push journal e);
      made = g.items.made_is ∙ ap (λ (xs : List Bool). drop (routes_by e) (xs ++ map was_made (origins_by e))) h.made
          ∙ sym (marks-push s.setup journal e h.legal);
      groups = g.items.groups_are
          ∙ ap (λ (xs : List (Option ℕ)). drop (routes_by e) (xs ++ map group_in (origins_by e))) h.groups
          ∙ sym (kept-push group_in s.setup journal e h.legal);
      tracker = g.tracker;
      bank = rw (bank_events-push journal e) g.bank;
      lanes = λ o b. rw (lane_events-push o journal e, offers-push o journal e) (g.outputs.each o b);
      lane_count = g.outputs.count ∙ h.lane_count;
      marked = g.outputs.each_marked;
      mark_count = g.outputs.mark_count ∙ h.mark_count;
      told = λ i b. told_more i journal e (told_at s.told i) (told_at t.told i) (h.told i b) (g.told i b);
      numbers = g.numbers;
      front = h.front;
      stored = ap (λ (j : List Entry). j ++ e ∷ []) h.stored ∙ append_assoc h.front s.stored (e ∷ [])
          ∙ ap (λ (j : List Entry). h.front ++ j) (sym g.stored);
      gathered = g.inputs.gathered_is ∙ ap (λ (n : ℕ). n + gathered_by e) h.gathered
          ∙ sym (gathered_count-push journal e);
      counted = g.inputs.counted_is ∙ ap (λ (m : ℤ). moment_after m e) h.counted
          ∙ sym (counted_from-push s.setup.start journal e);
      ended = λ i b. g.inputs.each_ended i b ∙ ap Some (sym (has_ended-push i journal e));
      ended_count = g.inputs.ended_count ∙ h.ended_count;
      stopped = g.inputs.stopped_is ∙ ap (λ (b : Bool). b || is_stop e) h.stopped ∙ sym (has_stop-push journal e);
    }

-- an entry that does nothing at the lanes
pub lanes_stay : (s : CoreState) (journal : List Entry) → Stands s journal → (o : ℕ) →
    o < length s.setup.outputs →
    IsLaneOf (sizes_at s.setup o).0 (sizes_at s.setup o).1 (lane_events o journal ++ []) (offers o journal ++ [])
    (lane_at s.lanes o)
lanes_stay s journal h o b =
    rw (append-nil (lane_events o journal), append-nil (offers o journal)) (h.lanes o b)

-- an entry by which no input ends
pub ended_stays : (s : CoreState) (journal : List Entry) → Stands s journal → (i : ℕ) →
    i < length s.setup.inputs → slice_get s.ended i ≡ Some (has_ended i journal || false)
ended_stays s journal h i b = h.ended i b ∙ ap Some (sym (or-false (has_ended i journal)))

-- an entry that does nothing at the outputs
pub outputs_stand : (s : CoreState) (journal : List Entry) (e : Entry) → Stands s journal →
    MeetsLine s.setup journal e → IsPlain e → OutputsGrow s journal e s.lanes s.marked
outputs_stand s journal e h line plain = record {
  each = λ o b. (let none = nothing o e (plain_anywhere o e plain) in
      rw (none.events, none.offers) (lanes_stay s journal h o b));
  count = refl;
  each_marked = λ o b. plain_lane s.setup (sizes_at s.setup o).0 (sizes_at s.setup o).1 o journal e
      (marked_at s.marked o) h.legal line (plain_anywhere o e plain) (h.marked o b);
  mark_count = refl;
}

-- one by which no item comes, is taken or is routed
pub items_stand : (s : CoreState) → ItemsGrow s [] 0 0 [] s.raw s.taken s.made s.groups
items_stand s = record {
  raw_is = sym (append-nil s.raw);
  taken_is = omega arith;
  made_is = sym (append-nil s.made);
  groups_are = sym (append-nil s.groups);
}

-- one by which nothing is gathered and no input ends; it may name a moment, and stop the run
pub inputs_at : (s : CoreState) (journal : List Entry) (moment : ℤ) (stops stopped : Bool) → Stands s journal →
    stopped ≡ (s.stopped || stops) →
    InputsGrow s journal 0 moment (λ (i : ℕ). false) stops s.gathered moment s.ended stopped
inputs_at s journal moment stops stopped h is = record {
  gathered_is = omega arith;
  counted_is = refl;
  each_ended = ended_stays s journal h;
  ended_count = refl;
  stopped_is = is;
}

-- one that does neither
pub inputs_stand : (s : CoreState) (journal : List Entry) → Stands s journal →
    InputsGrow s journal 0 s.counted (λ (i : ℕ). false) false s.gathered s.counted s.ended s.stopped
inputs_stand s journal h = inputs_at s journal s.counted false s.stopped h (sym (or-false s.stopped))

-- an entry without reports
pub told_stays : (s : CoreState) (i : ℕ) → told_at s.told i ≡ told_at s.told i ++ filter (is_report_of i) []
told_stays s i = sym (append-nil (told_at s.told i))

-- an entry that is nothing to the aggregators, and one by which no item comes
pub bank_stays : (s : CoreState) (journal : List Entry) → Stands s journal
    → BankStands s.setup.aggs s.setup.start (bank_events journal ++ []) s.bank
bank_stays s journal h = rw (append-nil (bank_events journal)) h.bank

-- where what the aggregators keep, the reports that weren't handed out and the stored entries have changed
pub stands_changed : (s : CoreState) (bank : BankMemory) (told : List (List Report)) (stored front journal : List Entry)
    → Stands s journal → BankIs s.setup journal bank
    → ((i : ℕ) → i < length s.setup.inputs → IsTold i journal (told_at told i)) → journal ≡ front ++ stored
    → Stands (record s { bank = bank; told = told; stored = stored }) journal
stands_changed s bank told stored front journal h banks tells stores =
    record {
      legal = h.legal;
      raw = h.raw;
      taken_is = h.taken_is;
      held = h.held;
      made = h.made;
      groups = h.groups;
      tracker = h.tracker;
      bank = banks;
      lanes = h.lanes;
      lane_count = h.lane_count;
      marked = h.marked;
      mark_count = h.mark_count;
      told = tells;
      numbers = h.numbers;
      front = front;
      stored = stores;
      gathered = h.gathered;
      counted = h.counted;
      ended = h.ended;
      ended_count = h.ended_count;
      stopped = h.stopped;
    }

-- what the aggregators keep has changed, and stands for the same events
pub stands_with : (s : CoreState) (bank : BankMemory) (journal : List Entry) → Stands s journal
    → BankIs s.setup journal bank → Stands (record s { bank = bank }) journal
stands_with s bank journal h is = stands_changed s bank s.told s.stored h.front journal h is h.told h.stored

-- fewer than 2^32 items were offered to them with a view
pub few_offers : (s : CoreState) (journal : List Entry) → IsCore s → Stands s journal
    → offered (bank_events journal) < 2 ^ 32
few_offers s journal core h = omega (
  arith,
  few_offered s.setup journal h.legal,
  h.gathered,
  core.items.few_gathered,
)

-- what holds after an error holds where it always does
pub on_err : {A B : Type 0} (r : Result A B) (P : Type 0) → P → OnErr r P
on_err (Ok a) P h = tt
on_err (Err b) P h = h
