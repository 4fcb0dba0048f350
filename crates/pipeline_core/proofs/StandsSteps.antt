-- A core that stands for a journal stands for it with the call's entry more.
use Rattle.std.proofs.Common.{◌≡◌, ◌<◌, ◌≤◌, ◌≤ℤ◌, ◌⊎◌, ℕ, zero, suc, ℤ, ◌+◌, ◌==◌, Bool, true, false, ◌||◌, List}
use Rattle.std.proofs.Common.{[], ◌∷◌, ◌++◌, length, drop, inl, inr, refl, sym, ap, ◌∙◌, subst, arith}
use Rattle.std.proofs.Common.{append-nil, length-drop, map, replicate, set, get_or, if◌then◌else◌}
use Rattle.std.proofs.Math.Bool.{or-false}
use Rattle.std.proofs.Math.Nat.{eq-or-lt_of_le}
use Rattle.std.proofs.lemmas.Bool.{cases_lt}
use Rattle.std.proofs.lemmas.Option.{slice_get-get_or, slice_get_within, get_or_from_slice_get}
use Rattle.std.proofs.lemmas.List.{get_or-set_same, get_or-set_other, length-set, nil_from_length}
use Rattle.std.specs.Int.{int_max}
use Rattle.std.specs.Prelude.{slice_get}
use Rattle.std.specs.declared.option.Option.{Option}
use Rattle.std.specs.declared.option.Option.TheVariants.{Some, None}
use Rattle.metric.specs.declared.metric.Content.{Content}
use Rattle.account.specs.Setup.{Setup}
use Rattle.account.specs.Items.{held_after, items, named_by, routes_by, taken, takes_by}
use Rattle.account.specs.Origins.{group_inputs_said, made, Origin, origins_by}
use Rattle.account.specs.Says.{gather_of, reports_of}
use Rattle.agg_bank.specs.Bank.{BankMemory, BankStands}
use Rattle.agg_bank.specs.Events as events
use Rattle.account.specs.Numbers.{Numbers, unread_input}
use Rattle.account.specs.declared.numbers.InputNumbers.{InputNumbers}
use Rattle.account.specs.declared.entry.Entry.{Entry}
use Rattle.account.specs.declared.entry.Entry.TheVariants.{Ended, Take, Tick, Stop}
use Rattle.pipeline_core.specs.Fates.{Fate}
use Rattle.pipeline_core.specs.Offers.{offered_by, lane_events_by}
use Rattle.pipeline_core.specs.Legal.{counted_from, gathered_by, has_ended, is_ended_of, is_stop, moment_after}
use Rattle.pipeline_core.specs.Legal.{MeetsLine, MeetsMoment}
use Rattle.pipeline_core.specs.Totals.{totals, reported_with, input_with}
use Rattle.pipeline_core.specs.Totals.{made_by, removed_by, routed_by}
use Rattle.pipeline_core.specs.Windows.{bank_events, bank_events_by, made_by_stop, made_by_tick}
use Rattle.pipeline_core.specs.CoreState.{CoreState, GroupsAgree, sizes_at}
use Rattle.pipeline_core.specs.Stands.{group_in, was_made, Stands, Continues}
use Rattle.pipeline_core.specs.Steps.{after_ended, after_take, after_tick, after_stop}
use Rattle.pipeline_core.specs.Steps.{tick_entry, stop_entry, moment_at}
use Rattle.std.proofs.lemmas.Int.{ints}
use Rattle.pipeline_core.proofs.GroupStanding.{quiet_lets, stays_silent, stays_tracker}
use Rattle.pipeline_core.proofs.Keeping.{differs, same_number}
use Rattle.pipeline_core.proofs.FateCounts.{kept_out}
use Rattle.pipeline_core.proofs.TotalPush.{inputs-same, inputs-set, outputs-same}
use Rattle.pipeline_core.proofs.OutputPush.{output_stays, totals-push}
use Rattle.pipeline_core.proofs.CopyGroups.{IsQuiet, quiet_plain}
use Rattle.pipeline_core.proofs.Standing.{InputsGrow, ItemsGrow, stands_grows, bank_stays, told_stays}
use Rattle.pipeline_core.proofs.Standing.{inputs_at, inputs_stand, items_stand, outputs_stand}

or_true : (b : Bool) → (b || true) ≡ true
or_true true = refl
or_true false = refl

pub some_same : (a b : Bool) → Some a ≡ Some b → a ≡ b
some_same a b h = cc

below_max : (a b : ℤ) → b ≤ℤ int_max a b
below_max a b = grind (arith, ints)

pub placed_raw : (raw : List Content) (n : ℕ) → (length raw ≡ 0) ⊎ (length raw + n ≤ 10000) →
    (raw ≡ []) ⊎ (length raw + n ≤ 10000)
placed_raw raw n (inl h) = inl (nil_from_length raw h)
placed_raw raw n (inr h) = inr h

-- without reports an input's numbers stay
pub nothing_reported : (input : ℕ) (x : InputNumbers) → reported_with input x [] ≡ x
unfolding reported_with
nothing_reported input x = refl

-- an entry that does nothing at the outputs
pub outputs_stay : (setup : Setup) (journal : List Entry) (e : Entry) → ((o : ℕ) → lane_events_by o e ≡ []) →
    ((o : ℕ) → offered_by o e ≡ []) → ((o : ℕ) (t : Fate → Bool) → kept_out t o e ≡ 0) →
    (totals setup (journal ++ e ∷ [])).outputs ≡ (totals setup journal).outputs
outputs_stay setup journal e l v k =
    outputs-same setup journal e (λ o b. output_stays (sizes_at setup o).1 o journal e (l o) (v o) (k o))

-- an entry that says nothing of inputs
pub inputs_stay : (s : CoreState) (journal : List Entry) (e : Entry) → Stands s journal →
    ((i : ℕ) (x : InputNumbers) → input_with i x e ≡ x) → s.numbers.inputs ≡ (totals s.setup (journal ++ e ∷ [])).inputs
inputs_stay s journal e h none =
    ap (λ (n : Numbers). n.inputs) h.numbers ∙ sym (inputs-same s.setup journal e none)

-- an entry that says nothing of inputs and outputs, and by which so many metrics are made
totals_stay : (s : CoreState) (journal : List Entry) (e : Entry) (more : ℕ) → Stands s journal →
    ((i : ℕ) (x : InputNumbers) → input_with i x e ≡ x) → ((o : ℕ) → lane_events_by o e ≡ []) →
    ((o : ℕ) → offered_by o e ≡ []) → ((o : ℕ) (t : Fate → Bool) → kept_out t o e ≡ 0) →
    more ≡ s.numbers.made + made_by e → removed_by e ≡ 0 → routed_by e ≡ 0 →
    record s.numbers { made = more } ≡ totals s.setup (journal ++ e ∷ [])
totals_stay s journal e more h none l v k made removed routed =
    totals-push s.setup journal e s.numbers (record s.numbers { made = more }) h.numbers
    (inputs_stay s journal e h none) made (omega (arith, removed)) (omega (arith, routed))
    (ap (λ (n : Numbers). n.outputs) h.numbers ∙ sym (outputs_stay s.setup journal e l v k))

-- what a quiet entry makes of a core that stands for a journal
record QuietGrows (s t : CoreState) (journal : List Entry) (e : Entry) : Type 0 where
  line : MeetsLine s.setup journal e
  items : ItemsGrow s (named_by e) (takes_by e) (routes_by e) (origins_by e) t.raw t.taken t.made t.groups
  held : t.held ≡ held_after s.held e
  bank : BankStands s.setup.aggs s.setup.start (bank_events journal ++ bank_events_by e) t.bank
  numbers : t.numbers ≡ totals s.setup (journal ++ e ∷ [])
  inputs : InputsGrow s journal (gathered_by e) (moment_after s.counted e) (λ (i : ℕ). is_ended_of i e) (is_stop e)
      t.gathered t.counted t.ended t.stopped

-- an entry by which no group begins or settles, and nothing happens at the outputs
quiet_stands : (s t : CoreState) (e : Entry) → GroupsAgree s → IsQuiet e → group_inputs_said (gather_of e) ≡ [] →
    reports_of e ≡ [] → ((journal : List Entry) → Stands s journal → QuietGrows s t journal e) →
    Continues s (record t {
      setup = s.setup;
      tracker = s.tracker;
      lanes = s.lanes;
      marked = s.marked;
      told = s.told;
      stored = s.stored ++ e ∷ [];
    }) e
quiet_stands s t e agree quiet none silent grows journal h =
    let g = grows journal h in
    let lets = quiet_lets s.setup journal e h.legal g.line quiet none in
    stands_grows s (record t {
      tracker = s.tracker;
      lanes = s.lanes;
      marked = s.marked;
      told = s.told;
      stored = s.stored ++ e ∷ [];
    }) journal e h
    (record {
      meets = record { line = g.line; reports = silent ∙ stays_silent s journal e agree h lets };
      items = g.items;
      held = g.held;
      tracker = stays_tracker s journal e agree h lets;
      bank = g.bank;
      outputs = outputs_stand s journal e h g.line (quiet_plain e quiet);
      told = λ i b. rw silent (told_stays s i);
      numbers = g.numbers;
      stored = refl;
      inputs = g.inputs;
    })

-- the same of a core that is what the call makes of the old one
pub by_step : (s n t : CoreState) (e : Entry) → n ≡ t → Continues s t e → Continues s n e
by_step s n t e q h = subst (λ (m : CoreState). Continues s m e) (sym q) h

pub take_stands : (s n : CoreState) → n ≡ after_take s → GroupsAgree s → s.held ≡ None → 0 < length s.raw →
    Continues s n (Take s.taken)
take_stands s n q agree none some =
    by_step s n (after_take s) (Take s.taken) q
    (quiet_stands s (after_take s) (Take s.taken) agree tt refl refl (λ journal h. record {
      line = record {
        empty_handed = sym h.held ∙ none;
        first = h.taken_is;
        raw = omega (arith, ap length h.raw, length-drop (taken journal) (items journal), h.taken_is);
      };
      items = record {
        raw_is = ap (drop 1) (sym (append-nil s.raw));
        taken_is = refl;
        made_is = sym (append-nil s.made);
        groups_are = sym (append-nil s.groups);
      };
      held = refl;
      bank = bank_stays s journal h;
      numbers = totals_stay s journal (Take s.taken) s.numbers.made h (λ i x. nothing_reported i x) (λ o. refl)
          (λ o. refl) (λ o t. refl) (omega arith) refl refl;
      inputs = inputs_stand s journal h;
    }))

-- the marks of items of one origin
pub marks_of : (n : ℕ) (origin : Origin) → replicate n (was_made origin) ≡ map was_made (replicate n origin)
marks_of zero origin = refl
marks_of (suc n) origin = ap (λ (marks : List Bool). was_made origin ∷ marks) (marks_of n origin)

pub groups_of : (n : ℕ) (origin : Origin) → replicate n (group_in origin) ≡ map group_in (replicate n origin)
groups_of zero origin = refl
groups_of (suc n) origin = ap (λ (groups : List (Option ℕ)). group_in origin ∷ groups) (groups_of n origin)

module _ (s n : CoreState) (moment : ℤ) (metrics : List Content) (bank : BankMemory) where
  -- the moment isn't below the last one counted
  later : (journal : List Entry) → Stands s journal → counted_from s.setup.start journal ≤ℤ moment_at s moment
  later journal h = subst (λ (m : ℤ). m ≤ℤ moment_at s moment) h.counted (below_max moment s.counted)

  -- the windows may close
  closes : (all : List Content) (journal : List Entry) → s.stopped ≡ false → Stands s journal → metrics ≡ all →
      MeetsMoment s.setup journal (moment_at s moment) metrics all
  closes all journal going h is = record { going = sym h.stopped ∙ going; later = later journal h; all_made = is }

  -- what they made becomes raw items
  items_made : ItemsGrow s metrics 0 0 (replicate (length metrics) made) (s.raw ++ metrics) s.taken
      (s.made ++ replicate (length metrics) true) (s.groups ++ replicate (length metrics) None)
  items_made = record {
    raw_is = refl;
    taken_is = omega arith;
    made_is = ap (λ (marks : List Bool). s.made ++ marks) (marks_of (length metrics) made);
    groups_are = ap (λ (groups : List (Option ℕ)). s.groups ++ groups) (groups_of (length metrics) made);
  }

  pub tick_stands : n ≡ after_tick s moment metrics bank → GroupsAgree s → s.stopped ≡ false
      → ((journal : List Entry) → Stands s journal →
      (metrics ≡ made_by_tick s.setup journal (moment_at s moment)) × BankStands s.setup.aggs s.setup.start
      (bank_events journal ++ events.Tick (moment_at s moment) ∷ []) bank)
      → Continues s n (tick_entry s moment metrics)
  unfolding tick_entry
  tick_stands q agree going closed =
      let e : Entry = Tick (moment_at s moment) metrics in
      by_step s n (after_tick s moment metrics bank) e q
      (quiet_stands s (after_tick s moment metrics bank) e agree tt refl refl (λ journal h. record {
        line = closes (made_by_tick s.setup journal (moment_at s moment)) journal going h (closed journal h).0;
        items = items_made;
        held = refl;
        bank = (closed journal h).1;
        numbers = totals_stay s journal e (s.numbers.made + length metrics) h (λ i x. nothing_reported i x)
            (λ o. refl) (λ o. refl) (λ o t. refl) refl refl refl;
        inputs = inputs_at s journal (moment_at s moment) false s.stopped h (sym (or-false s.stopped));
      }))

  pub stop_stands : n ≡ after_stop s moment metrics bank → GroupsAgree s → s.stopped ≡ false
      → ((journal : List Entry) → Stands s journal →
      (metrics ≡ made_by_stop s.setup journal (moment_at s moment)) × BankStands s.setup.aggs s.setup.start
      (bank_events journal ++ events.Stop (moment_at s moment) ∷ []) bank)
      → Continues s n (stop_entry s moment metrics)
  unfolding stop_entry
  stop_stands q agree going closed =
      let e : Entry = Stop (moment_at s moment) metrics in
      by_step s n (after_stop s moment metrics bank) e q
      (quiet_stands s (after_stop s moment metrics bank) e agree tt refl refl (λ journal h. record {
        line = closes (made_by_stop s.setup journal (moment_at s moment)) journal going h (closed journal h).0;
        items = items_made;
        held = refl;
        bank = (closed journal h).1;
        numbers = totals_stay s journal e (s.numbers.made + length metrics) h (λ i x. nothing_reported i x)
            (λ o. refl) (λ o. refl) (λ o t. refl) refl refl refl;
        inputs = inputs_at s journal (moment_at s moment) true true h (ap (λ (b : Bool). b || true) (sym going));
      }))

-- which inputs have ended with one more
ended_more : (s : CoreState) (journal : List Entry) (input : ℕ) → slice_get s.ended input ≡ Some false →
    Stands s journal → (i : ℕ) → i < length s.setup.inputs →
    slice_get (set s.ended input true) i ≡ Some (has_ended i journal || (input == i))
ended_more s journal input reading h i b =
    let n : input < length s.ended = slice_get_within s.ended input false reading in
    let len : length (set s.ended input true) ≡ length s.ended = length-set s.ended input true in
    let at : slice_get (set s.ended input true) i ≡ Some (get_or (set s.ended input true) i false) =
    slice_get-get_or (set s.ended input true) i false (omega (arith, h.ended_count)) in
    let was : get_or s.ended i false ≡ has_ended i journal =
    get_or_from_slice_get s.ended i (has_ended i journal) false (h.ended i b) in
    elim (cases_lt i input) [
      | inl l ↦ at ∙ ap Some (get_or-set_other s.ended input i true false (omega arith) ∙ was
          ∙ sym (or-false (has_ended i journal)) ∙ ap (λ (t : Bool). has_ended i journal || t)
          (sym (differs input i (omega arith))))
      | inr l ↦ elim (eq-or-lt_of_le l) [
        | inl q ↦ subst (λ (j : ℕ). slice_get (set s.ended input true) j ≡ Some (has_ended j journal || (input == j))) q
            (slice_get-get_or (set s.ended input true) input false (omega arith)
            ∙ ap Some (get_or-set_same s.ended input true false n ∙ sym (or_true (has_ended input journal))
            ∙ ap (λ (t : Bool). has_ended input journal || t) (sym (same_number input))))
        | inr q ↦ at ∙ ap Some (get_or-set_other s.ended input i true false (omega arith) ∙ was
            ∙ sym (or-false (has_ended i journal)) ∙ ap (λ (t : Bool). has_ended i journal || t)
            (sym (differs input i (omega arith))))
      ]
    ]

pub ended_stands : (s n : CoreState) (input : ℕ) → n ≡ after_ended s input → GroupsAgree s →
    slice_get s.ended input ≡ Some false → s.stopped ≡ false → Continues s n (Ended input)
ended_stands s n input q agree reading going =
    let e : Entry = Ended input in
    by_step s n (after_ended s input) e q
    (quiet_stands s (after_ended s input) e agree tt refl refl (λ journal h.
    let known : input < length s.setup.inputs = omega (
      arith,
      slice_get_within s.ended input false reading,
      h.ended_count,
    ) in
    let old : InputNumbers = get_or (totals s.setup journal).inputs input (unread_input false) in
    record {
      line = record {
        known = known;
        going = sym h.stopped ∙ going;
        reading = some_same (has_ended input journal) false (sym (h.ended input known) ∙ reading);
      };
      items = items_stand s;
      held = refl;
      bank = bank_stays s journal h;
      numbers = totals-push s.setup journal e s.numbers (after_ended s input).numbers h.numbers
          (ap (λ (m : Numbers). set m.inputs input (record (get_or m.inputs input (unread_input false))
          { has_ended = true })) h.numbers
          ∙ sym (inputs-set s.setup journal e input (record old { has_ended = true }) known
          (λ k x d. nothing_reported k (if input == k then record x { has_ended = true } else x)
          ∙ ap (λ (t : Bool). if t then record x { has_ended = true } else x) (differs input k (omega (arith, d))))
          (nothing_reported input (if input == input then record old { has_ended = true } else old)
          ∙ ap (λ (t : Bool). if t then record old { has_ended = true } else old) (same_number input))))
          (omega arith) (omega arith) (omega arith)
          (ap (λ (m : Numbers). m.outputs) h.numbers ∙ sym (outputs_stay s.setup journal e (λ o. refl) (λ o. refl)
          (λ o t. refl)));
      inputs = record {
        gathered_is = omega arith;
        counted_is = refl;
        each_ended = ended_more s journal input reading h;
        ended_count = length-set s.ended input true;
        stopped_is = sym (or-false s.stopped);
      };
    }))
