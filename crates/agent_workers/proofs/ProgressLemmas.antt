-- How far a run has come, with one entry more.
use Rattle.std.proofs.Common.{◌≡◌, ◌≢◌, ◌≤◌, ◌<◌, ℕ, ℤ, length, set, Bool, true, false, List, [], ◌∷◌, ◌++◌, refl, sym}
use Rattle.std.proofs.Common.{ap, ◌∙◌, subst, arith, append_assoc, append-nil, length-append}
use Rattle.std.proofs.Common.{inl, inr}
use Rattle.std.specs.Prelude.{not, count_by, slice_get, map}
use Rattle.std.specs.Int.{int_max}
use Rattle.std.specs.List.{filter}
use Rattle.std.specs.declared.option.Option.{Option}
use Rattle.std.specs.declared.option.Option.TheVariants.{Some, None}
use Rattle.account.specs.Setup.{Setup}
use Rattle.account.specs.Numbers.{Numbers, output_numbers}
use Rattle.account.specs.Items.{items, routes, routes_by, takes_by}
use Rattle.account.specs.Origins.{is_made, origins_by, is_of_input}
use Rattle.account.specs.declared.entry.Entry.{Entry}
use Rattle.account.specs.declared.entry.Entry.TheVariants.{Take, Route, Stop, Tick}
use Rattle.account.specs.declared.entry.Verdict.{Verdict}
use Rattle.metric.specs.declared.metric.Content.{Content}
use Rattle.agent_base.specs.Carried.{Timed}
use Rattle.agent_base.specs.Clocked.{last_of}
use Rattle.agent_base.specs.Counts.{RoseBy}
use Rattle.pipeline_core.specs.Work.{Work}
use Rattle.pipeline_core.specs.CoreState.{CoreState}
use Rattle.out_lane.specs.LaneEvents.{LaneEvent}
use Rattle.pipeline_core.specs.Legal.{IsLegal, has_stop, is_stop}
use Rattle.pipeline_core.specs.Offers.{lane_events, lane_events_by}
use Rattle.pipeline_core.specs.Moments.{IsStoppedAt, IsTickedAt}
use Rattle.pipeline_core.specs.Steps.{after_route, after_cut, route_entry, stop_entry, tick_entry}
use Rattle.pipeline_core.specs.Steps.{moment_at}
use Rattle.pipeline_core.specs.Shapes.{IsRouteEntry, IsStopEntry, IsTickEntry}
use Rattle.pipeline_core.proofs.ShapeLemmas.{entries-have-shape}
use Rattle.pipeline_core.proofs.JournalPush.{lane_events-push}
use Rattle.pipeline_core.proofs.RawLemmas.{raw_of-push, raw_of-none, none_of_made}
use Rattle.pipeline_core.specs.Stands.{Stands, Continues}
use Rattle.account.specs.Dones.{dones_by, dones}
use Rattle.pipeline_core.specs.Stopped.{behind_stop}
use Rattle.agent_workers.specs.Noted.{JournalPart, Notes, NotesOn}
use Rattle.journal_text.specs.Known.{AreKnown, IsKnownRoute}
use Rattle.journal_text.specs.declared.known.Known.{Known}
use Rattle.journal_text.proofs.SoFarLemmas.{items-append, known_behind, known_more, known_route}
use Rattle.account.proofs.RouteLemmas.{routes-push}
use Rattle.agent_workers.proofs.NotedLemmas.{no_routes}
use Rattle.account.specs.declared.entry.Report.{Report}
use Rattle.std.specs.Option.{option_to_list}
use Rattle.agent_workers.specs.Progress.{with_known}
use Rattle.pipeline_core.specs.Order.{EndsFailed, IsFlushed, IsOrderly, IsTicked, is_tick, routes_gathered}
use Rattle.pipeline_core.specs.Worked.{views_of, Worked}
use Rattle.proc_chain.specs.Chain.{steps_of, AllStand}
use Rattle.proc_chain.specs.declared.step.Step.{Step}
use Rattle.pipeline_core.specs.declared.gathering.Item.{Item}
use Rattle.agent_workers.specs.Job.{filters_of, journal_setup_of, output_sizes, work_of}
use Rattle.account.specs.Routes.{RouteOnInOrder}
use Rattle.agent_workers.specs.Inputs.{InPart, in_at, no_in}
use Rattle.agent_workers.specs.RunState.{RunState, Beginning, setup_at}
use Rattle.agent_workers.specs.Progress.{HasText, Heard, AllHeard, Said, AllSaid, HasOrder, Progress, StaysTicked}
use Rattle.agent_workers.specs.Progress.{pushed_items, StopsTo}
use Rattle.formats.specs.Batches.{batch_text}
use Rattle.agent_workers.specs.Output.{OutPart, out_at, anew, AreAnew}
use Rattle.pipeline_core.specs.Totals.{totals}
use Rattle.pipeline_core.specs.Windows.{HasNoAggs}
use Rattle.agent_workers.specs.Run.{buffered_at_end}
use Rattle.agent_workers.specs.Item.{IsSameProc, Makes, ProcPart, TakesNext, routed_by, seen_by, work_by}
use Rattle.agent_workers.specs.Running.{buffered_at, AllMade, AreSettled}
use Rattle.agent_config.specs.declared.config.AggConf.{AggConf}
use Rattle.agent_workers.proofs.OutLemmas.{each_set, at_anew}
use Rattle.agent_workers.proofs.FailedLemmas.{failed_same}
use Rattle.agent_workers.specs.Held.{HasFailed}
use Rattle.agent_workers.proofs.HeldLemmas.{failed_fewer, failed_none, failed_quiet}
use Rattle.agent_workers.proofs.HeardLemmas.{IsNotOf, heard_push}
use Rattle.std.proofs.lemmas.List.{length-map}
use Rattle.account.proofs.DoneLemmas.{dones-same, last_none, last_same}
use Rattle.pipeline_core.proofs.StopLemmas.{behind_stop-push, stop_before}
use Rattle.pipeline_core.proofs.RouteLemmas.{legal_rest_in_order}
use Rattle.account.proofs.MomentLemmas.{counted_moments-push, counted_moments-same}
use Rattle.agent_workers.proofs.MomentLemmas.{counted_from-last}
use Rattle.pipeline_core.proofs.OrderLemmas.{in_order-push, ticked_plain}
use Rattle.pipeline_core.proofs.SentLemmas.{EndsNone}
use Rattle.agent_workers.proofs.SentLemmas.{sent_same}
use Rattle.pipeline_core.proofs.WorkedLemmas.{worked-push, worked_route, first_raw, item_stays, made_stays}
use Rattle.agent_workers.proofs.PushedLemmas.{made_is, pushed_on, pushed_same, whole_made}
use Rattle.agent_workers.proofs.TickLemmas.{ticked-push, ticked-tick}
use Rattle.std.proofs.lemmas.Option.{slice_get_within}

-- the core stands for one entry more, and stores it; of it so much is known
with_entry : (start : Beginning) (core next : CoreState) (part : JournalPart) (journal : List Entry) (e : Entry)
    (h : HasText start core part journal) → Continues core next e → next.stored ≡ core.stored ++ e ∷ []
    → next.setup ≡ core.setup → (known : List Known) → AreKnown known (items h.written) (core.stored ++ e ∷ [])
    → length known ≡ routes (core.stored ++ e ∷ []) → HasText start next (with_known part known) (journal ++ e ∷ [])
with_entry start core next part journal e h more stored same known are count = record {
  stands = more journal h.stands;
  setup_is = same ∙ h.setup_is;
  more = h.more ++ e ∷ [];
  goes_on = ap (λ (es : List Entry). es ++ e ∷ []) h.goes_on ∙ append_assoc start.front h.more (e ∷ []);
  written = h.written;
  split = ap (λ (es : List Entry). es ++ e ∷ []) h.split ∙ append_assoc h.written core.stored (e ∷ [])
      ∙ ap (λ (es : List Entry). h.written ++ es) (sym stored);
  notes = record {
    about = h.notes.about;
    counted = h.notes.counted;
    kept_are = h.notes.kept_are;
    in_order = h.notes.in_order;
    later = h.notes.later;
    put = h.notes.put;
  };
  known = subst (AreKnown known (items h.written)) (sym stored) are;
  each_known = count ∙ ap routes (sym stored);
}

-- one that is no Route
pub text-push : (start : Beginning) (core next : CoreState) (part : JournalPart) (journal : List Entry) (e : Entry)
    → routes_by e ≡ 0 → HasText start core part journal → Continues core next e
    → next.stored ≡ core.stored ++ e ∷ [] → next.setup ≡ core.setup
    → HasText start next part (journal ++ e ∷ [])
text-push start core next part journal e other h more stored same =
    with_entry start core next part journal e h more stored same part.known
    (known_more part.known (items h.written) core.stored e other h.known)
    (let pushed = routes-push core.stored e in omega (arith, h.each_known, pushed, other))

-- a Route, of which this is known, as its item says
pub text-route : (start : Beginning) (core next : CoreState) (part : JournalPart) (journal : List Entry) (known : Known)
    (routed : ℕ) (whole : Option Content) (verdict : Verdict) (aggs outs : List (Option Content))
    (reports : List Report) (h : HasText start core part journal)
    → Continues core next (Route routed whole verdict aggs outs reports)
    → next.stored ≡ core.stored ++ Route routed whole verdict aggs outs reports ∷ [] → next.setup ≡ core.setup
    → IsKnownRoute known (option_to_list (slice_get (items journal) routed)) whole aggs outs
    → HasText start next (with_known part (part.known ++ known ∷ []))
    (journal ++ Route routed whole verdict aggs outs reports ∷ [])
text-route start core next part journal known routed whole verdict aggs outs reports h more stored same is =
    let e : Entry = Route routed whole verdict aggs outs reports in
    let named : items journal ≡ items h.written ++ items core.stored =
    ap items h.split ∙ items-append h.written core.stored in
    let one : routes_by e ≡ 1 = refl in
    with_entry start core next part journal e h more stored same (part.known ++ known ∷ [])
    (known_route part.known (items h.written) core.stored known routed whole verdict aggs outs reports h.each_known
    (subst (λ (xs : List Content). IsKnownRoute known (option_to_list (slice_get xs routed)) whole aggs outs) named is)
    h.known)
    (omega (arith, h.each_known, routes-push core.stored e, one, length-append part.known (known ∷ [])))

-- the Routes of the entries that the core stores come in order
pub stored_in_order : (start : Beginning) (core : CoreState) (part : JournalPart) (journal : List Entry)
    (h : HasText start core part journal) → RouteOnInOrder h.written core.stored
stored_in_order start core part journal h = legal_rest_in_order core.setup h.written core.stored
    (subst (IsLegal core.setup) h.split h.stands.legal)

-- whatever is known, it is so of no entries
pub none_known : (known : List Known) (named : List Content) → AreKnown known named []
unfolding AreKnown
none_known known named = tt

-- the entries that the core stored are noted
pub text-cut : (start : Beginning) (core next : CoreState) (part more : JournalPart) (journal : List Entry)
    → HasText start core part journal → ((es : List Entry) → Stands core es → Stands next es)
    → next.stored ≡ [] → next.setup ≡ core.setup → NotesOn core.stored part more
    → HasText start next more journal
text-cut start core next part more journal h stands none same notes = record {
  stands = stands journal h.stands;
  setup_is = same ∙ h.setup_is;
  more = h.more;
  goes_on = h.goes_on;
  written = journal;
  split = sym (append-nil journal) ∙ ap (λ (es : List Entry). journal ++ es) (sym none);
  notes = subst (λ (es : List Entry). Notes (journal_setup_of (setup_at start)) start.noted start.note_faults es more)
      (sym h.split)
      (notes.noted (journal_setup_of (setup_at start)) start.noted start.note_faults h.written h.notes
      (stored_in_order start core part journal h) h.known);
  known = subst (AreKnown more.known (items journal)) (sym none) (none_known more.known (items journal));
  each_known = ap length (notes.known_left ∙ known_behind part.known core.stored h.each_known)
      ∙ sym (ap routes none ∙ no_routes);
}

-- what is buffered at an output is what the journal says
pub buffered_is : (start : Beginning) (core : CoreState) (part : JournalPart) (journal : List Entry)
    → HasText start core part journal → (o : ℕ) → buffered_at core o ≡ buffered_at_end (setup_at start) journal o
buffered_is start core part journal h o = ap (λ (n : Numbers). (output_numbers n o).buffered) h.stands.numbers
    ∙ ap (λ (s : Setup). (output_numbers (totals s journal) o).buffered) h.setup_is

-- ---- what the journal says of the inputs

-- an entry that says nothing of any input
pub all_heard_push : (starts ins : List InPart) (journal : List Entry) (e : Entry) → ((input : ℕ) → IsNotOf input e)
    → AllHeard starts ins journal → AllHeard starts ins (journal ++ e ∷ [])
all_heard_push starts ins journal e quiet h = λ k l. heard_push (in_at starts k) (in_at ins k) k journal e (quiet k)
    (h k l)

-- one of the inputs changes, and the journal says nothing more of the others
pub all_heard_set : (starts ins : List InPart) (old new : List Entry) (i : ℕ) (part : InPart) → i < length ins
    → Heard (in_at starts i) part i new → ((k : ℕ) → k ≢ i → Heard (in_at starts k) (in_at ins k) k old
    → Heard (in_at starts k) (in_at ins k) k new) → AllHeard starts ins old
    → AllHeard starts (set ins i part) new
all_heard_set starts ins old new i part b here others h = each_set
    (λ (k : ℕ) (x : InPart). Heard (in_at starts k) x k new) ins i part no_in b here (λ k l ne. others k ne (h k l))

-- ---- the order

order_with : (start : Beginning) (core : CoreState) (next last : ℕ) (ticked new_ticked : Bool) (journal : List Entry)
    (e : Entry) → Stands core journal → next ≤ last → (start.first ≡ true → IsOrderly (setup_at start) journal e)
    → ((input : ℕ) → last ≤ input → filter (is_of_input input) (origins_by e) ≡ [])
    → (new_ticked ≡ true → start.first ≡ true → IsTicked (setup_at start) (journal ++ e ∷ []))
    → HasOrder start next ticked journal → HasOrder start last new_ticked (journal ++ e ∷ [])
order_with start core next last ticked new_ticked journal e stands l orderly none ticks h = record {
  in_order = λ f. in_order-push (setup_at start) journal e (h.in_order f) (orderly f);
  none_raw = λ f input b. raw_of-push core.setup input journal e stands.legal (h.none_raw f input (omega (arith, l, b)))
      (none input b);
  has_ticked = ticks;
}

-- an entry that is no tick, and routes nothing that was gathered
pub order-push : (start : Beginning) (core : CoreState) (next last : ℕ) (ticked : Bool) (journal : List Entry)
    (e : Entry)
    → is_tick e ≡ false → routes_gathered (journal ++ e ∷ []) e ≡ false → Worked start.job.work journal
    → Stands core journal → next ≤ last → (start.first ≡ true → IsOrderly (setup_at start) journal e)
    → ((input : ℕ) → last ≤ input → filter (is_of_input input) (origins_by e) ≡ []) → HasOrder start next ticked journal
    → HasOrder start last ticked (journal ++ e ∷ [])
order-push start core next last ticked journal e no_tick still worked stands l orderly none h =
    order_with start core next last ticked ticked journal e stands l orderly none
    (λ t f. ticked-push start.job.work journal (setup_at start) e no_tick still worked (h.has_ticked t f)) h

-- how far a run has come where its core, its journal's part, its next input, its timer and its count of failures are
-- others, and where it goes on from another front: all else is as it was
abbrev pub carried : (start : Beginning) (front : List Entry) (now : RunState) (core : CoreState) (part : JournalPart)
    (next : ℕ) (timer : Timed) (still : ℕ) (w : Progress start now)
    → HasText (record start { front = front }) core part w.journal
    → HasOrder start next now.ticked w.journal → HasFailed still w.journal
    → Progress (record start { front = front })
    (record now { core = core; journal = part; next = next; timer = timer; still = still })
carried start front now core part next timer still w text order failed = record {
  journal = w.journal;
  text = text;
  in_count = w.in_count;
  heard = w.heard;
  out_count = w.out_count;
  said = w.said;
  work_is = w.work_is;
  worked = w.worked;
  pushed = w.pushed;
  order = record { in_order = order.in_order; none_raw = order.none_raw; has_ticked = order.has_ticked };
  counted_at = w.counted_at;
  still = failed;
}

-- where no item is raw none is of an input
pub went_next : (start : Beginning) (core : CoreState) (now : RunState) (next : ℕ) → core.raw ≡ []
    → Progress start (record now { core = core }) → Progress start (record now { core = core; next = next })
went_next start core now next none w =
    carried start start.front (record now { core = core }) core now.journal next now.timer now.still w w.text (record {
      in_order = w.order.in_order;
      none_raw = λ f input b. raw_of-none input w.journal (sym w.text.stands.raw ∙ none);
      has_ticked = w.order.has_ticked;
    }) w.still

-- the timer says nothing of how far a run has come
abbrev pub went_timed : (start : Beginning) (now : RunState) (timer : Timed) → Progress start now
    → Progress start (record now { timer = timer })
went_timed start now timer w =
    carried start start.front now now.core now.journal now.next timer now.still w w.text w.order w.still

-- and none is of an input behind those of which none is
pub went_behind : (start : Beginning) (core : CoreState) (now : RunState) (next last : ℕ) → next ≤ last
    → Progress start (record now { core = core; next = next })
    → Progress start (record now { core = core; next = last })
went_behind start core now next last l w =
    let old : RunState = record now { core = core; next = next } in
    carried start start.front old core now.journal last now.timer now.still w w.text (record {
      in_order = w.order.in_order;
      none_raw = λ f input b. w.order.none_raw f input (omega (arith, l, b));
      has_ticked = w.order.has_ticked;
    }) w.still

-- fewer batches may be said to have failed since the run last came on
pub went_fewer : (start : Beginning) (now : RunState) (still : ℕ) → still ≤ now.still → Progress start now
    → Progress start (record now { still = still })
went_fewer start now still few w =
    carried start start.front now now.core now.journal now.next now.timer still w w.text w.order
    (failed_fewer still now.still w.journal few w.still)

-- what has come so far is a front of whatever is to come
pub went_front : (start : Beginning) (now : RunState) (w : Progress start now)
    → Progress (record start { front = w.journal }) now
went_front start now w =
    carried start w.journal now now.core now.journal now.next now.timer now.still w (record {
      stands = w.text.stands;
      setup_is = w.text.setup_is;
      more = [];
      goes_on = sym (append-nil w.journal);
      written = w.text.written;
      split = w.text.split;
      notes = w.text.notes;
      known = w.text.known;
      each_known = w.text.each_known;
    }) w.order w.still

-- and that front goes on from the one before it
abbrev pub went_back : (start : Beginning) (now last : RunState) (w : Progress start now)
    → Progress (record start { front = w.journal }) last → Progress start last
went_back start now last w v =
    let behind : Beginning = record start { front = w.journal } in
    carried behind start.front last last.core last.journal last.next last.timer last.still v (record {
      stands = v.text.stands;
      setup_is = v.text.setup_is;
      more = w.text.more ++ v.text.more;
      goes_on = v.text.goes_on ∙ ap (λ (es : List Entry). es ++ v.text.more) w.text.goes_on
          ∙ append_assoc start.front w.text.more v.text.more;
      written = v.text.written;
      split = v.text.split;
      notes = v.text.notes;
      known = v.text.known;
      each_known = v.text.each_known;
    }) (record { in_order = v.order.in_order; none_raw = v.order.none_raw; has_ticked = v.order.has_ticked }) v.still

-- ---- steps

-- an entry that says nothing of an output
pub record IsQuietAt (output : ℕ) (e : Entry) : Type 0 where
  pub ends : EndsNone output e
  pub none : dones_by output e ≡ []
  pub quiet : lane_events_by output e ≡ []

-- a journal with the same batches
pub said_push : (start now : OutPart) (output : ℕ) (journal : List Entry) (e : Entry) → IsQuietAt output e
    → is_stop e ≡ false → Said start now output journal → Said start now output (journal ++ e ∷ [])
said_push start now output journal e q going h =
    let same : dones output (journal ++ e ∷ []) ≡ dones output journal = dones-same output journal e q.none in
    record {
      format = h.format;
      sent = sent_same (batch_text start.format) output journal e start.held now.held q.ends h.sent;
      put_faults = subst (λ (bs : List Bool). RoseBy (count_by not bs) start.put_faults now.put_faults)
          (sym same) h.put_faults;
      failed = failed_same now.failed (dones output journal) (dones output (journal ++ e ∷ [])) same h.failed;
      stuck = λ some. subst EndsFailed (sym (lane_events-push output journal e
          ∙ ap (λ (es : List LaneEvent). lane_events output journal ++ es) q.quiet
          ∙ append-nil (lane_events output journal))) (h.stuck some);
      last = λ stopped.
          let before : has_stop journal ≡ true = stop_before journal e going stopped in
          last_same now.failed_since (dones output (behind_stop journal))
          (dones output (behind_stop (journal ++ e ∷ [])))
          (ap (dones output) (behind_stop-push journal e before) ∙ dones-same output (behind_stop journal) e q.none)
          (h.last before);
    }

-- the same where no put failed in succession, whatever came to the output
pub said_anew : (start now : OutPart) (output : ℕ) (journal : List Entry) (e : Entry) → now.failed_since ≡ 0
    → EndsNone output e → dones_by output e ≡ [] → Said start now output journal
    → Said start now output (journal ++ e ∷ [])
said_anew start now output journal e nil ends none h = record {
  format = h.format;
  sent = sent_same (batch_text start.format) output journal e start.held now.held ends h.sent;
  put_faults = subst (λ (bs : List Bool). RoseBy (count_by not bs) start.put_faults now.put_faults)
      (sym (dones-same output journal e none)) h.put_faults;
  failed = failed_same now.failed (dones output journal) (dones output (journal ++ e ∷ []))
      (dones-same output journal e none) h.failed;
  stuck = λ some. absurd (omega (arith, some, nil));
  last = λ stopped. rw nil (last_none (dones output (behind_stop (journal ++ e ∷ []))));
}

-- the counts of failed batches begin anew
said_fresh : (start now : OutPart) (output : ℕ) (journal : List Entry) → Said start now output journal
    → Said start (anew now) output journal
said_fresh start now output journal h = record {
  format = h.format;
  sent = h.sent;
  put_faults = h.put_faults;
  failed = h.failed;
  stuck = λ some. absurd (omega (arith, some));
  last = λ stopped. last_none (dones output (behind_stop journal));
}

-- an entry that says nothing of any output
pub all_said_push : (starts outs : List OutPart) (journal : List Entry) (e : Entry)
    → ((output : ℕ) → IsQuietAt output e) → is_stop e ≡ false → AllSaid starts outs journal
    → AllSaid starts outs (journal ++ e ∷ [])
all_said_push starts outs journal e quiet going h = λ o l. said_push (out_at starts o) (out_at outs o) o journal e
    (quiet o) going (h o l)

pub all_said_anew : (starts outs : List OutPart) (journal : List Entry) (e : Entry) → AreAnew outs
    → ((output : ℕ) → EndsNone output e) → ((output : ℕ) → dones_by output e ≡ []) → AllSaid starts outs journal
    → AllSaid starts outs (journal ++ e ∷ [])
all_said_anew starts outs journal e fresh ends none h = λ o l. said_anew (out_at starts o) (out_at outs o) o journal e
    (fresh o l) (ends o) (none o) (h o l)

pub all_said_fresh : (starts outs new_outs : List OutPart) (journal : List Entry) → new_outs ≡ map anew outs
    → AllSaid starts outs journal → AllSaid starts new_outs journal
all_said_fresh starts outs new_outs journal are h =
    subst (λ (all : List OutPart). AllSaid starts all journal) (sym are)
    (λ o l. let b : o < length outs = omega (arith, l, length-map outs anew) in
    subst (λ (out : OutPart). Said (out_at starts o) out o journal) (sym (at_anew outs o b))
    (said_fresh (out_at starts o) (out_at outs o) o journal (h o b)))

-- the counts of failed batches of all outputs begin anew
pub went_anew : (start : Beginning) (core : CoreState) (now : RunState) (outs new_outs : List OutPart)
    → new_outs ≡ map anew outs → Progress start (record now { core = core; outs = outs })
    → Progress start (record now { core = core; outs = new_outs })
went_anew start core now outs new_outs are w = record {
  journal = w.journal;
  text = w.text;
  in_count = w.in_count;
  heard = w.heard;
  out_count = ap length are ∙ length-map outs anew ∙ w.out_count;
  said = all_said_fresh start.outs outs new_outs w.journal are w.said;
  work_is = w.work_is;
  worked = w.worked;
  pushed = w.pushed;
  order = w.order;
  counted_at = w.counted_at;
  still = w.still;
}

-- the steps stand for the same items after an entry that takes none
pub pushed_still : (core : CoreState) (proc : ProcPart) (journal : List Entry) (e : Entry) → Stands core journal
    → takes_by e ≡ 0 → AllStand proc.chain (pushed_items proc.skip journal)
    → AllStand proc.chain (pushed_items proc.skip (journal ++ e ∷ []))
pushed_still core proc journal e stands none h =
    subst (AllStand proc.chain) (sym (pushed_same core.setup proc.skip journal e stands.legal none)) h

-- the work stays, where the steps, the aggregators and the outputs do
work_same : (work : Work) (proc new_proc : ProcPart) → IsSameProc proc new_proc → work ≡ work_by proc → work
    ≡ work_by new_proc
work_same work proc new_proc same is =
    is ∙ ap (λ (steps : List Step). work_of proc.skip steps proc.aggs proc.outs) (sym same.steps)
    ∙ ap (λ (skip : Bool). work_of skip (steps_of new_proc.chain) proc.aggs proc.outs) (sym same.skip)
    ∙ ap (λ (aggs : List AggConf). work_of new_proc.skip (steps_of new_proc.chain) aggs proc.outs) (sym same.aggs)
    ∙ ap (work_of new_proc.skip (steps_of new_proc.chain) new_proc.aggs) (sym same.outs)

first_mark : (marks : List Bool) (mark : Bool) → AllMade marks → slice_get marks 0 ≡ Some mark → mark ≡ true
first_mark [] mark h at = absurd (let x : None ≡ Some mark = at in cc)
first_mark (m ∷ marks) mark h at =
    let same : Some m ≡ Some mark = at in
    let one : m ≡ true = h.0 in
    cc

-- the first raw item was taken and routed, and so much is known of its Route
module _ (start : Beginning) (core mid next : CoreState) (now : RunState) (proc new_proc : ProcPart) (item : Item)
    (whole : Option Content) (answer : Verdict) (known : List Known) (of_it : Known) (ticked : Bool)
    (fresh : AreAnew now.outs)
    (stays : StaysTicked now.ticked ticked core) (takes : TakesNext core mid item)
    (routed : next ≡ after_route mid (routed_by proc item whole) answer next.bank)
    (routes : Continues mid next (route_entry mid (routed_by proc item whole) answer))
    (makes : Makes proc new_proc item whole) (same : IsSameProc proc new_proc)
    (it_is : IsKnownRoute of_it (item.metric ∷ []) whole (seen_by proc.aggs item.made whole)
    (views_of (filters_of proc.outs) whole))
    (w : Progress start (record now { core = core; proc = proc; journal = with_known now.journal known })) where
  abbrev taking : Entry
  taking = Take core.taken

  abbrev between : List Entry
  between = w.journal ++ Take core.taken ∷ []

  shape : IsRouteEntry (routed_by proc item whole) (route_entry mid (routed_by proc item whole) answer)
  shape = entries-have-shape.routes mid (routed_by proc item whole) answer

  abbrev routing : Entry
  routing = Route core.taken whole shape.0 (seen_by proc.aggs item.made whole) (views_of (filters_of proc.outs) whole)
      shape.1

  at : slice_get (items w.journal) core.taken ≡ Some item.metric
  at = first_raw core w.journal item.metric w.text.stands takes.metric

  stood : Stands mid between
  stood = takes.continues w.journal w.text.stands

  made_is_so : is_made between core.taken ≡ item.made
  made_is_so = made_is core mid proc new_proc item.made item.metric whole w.journal takes.after w.text.stands stood
      takes.mark at makes w.pushed

  -- its entry
  entry_is : route_entry mid (routed_by proc item whole) answer ≡ routing
  entry_is = shape.2 ∙ ap (λ (n : ℕ). Route n whole shape.0 (seen_by proc.aggs item.made whole)
      (views_of (filters_of proc.outs) whole) shape.1) takes.number

  worked_between : Worked start.job.work between
  worked_between = worked-push start.job.work w.journal taking tt w.worked

  worked_now : Worked start.job.work (between ++ routing ∷ [])
  worked_now = subst (λ (x : Work). Worked x (between ++ routing ∷ [])) (sym w.work_is)
      (worked_route (work_by proc) between core.taken item.metric whole shape.0
      (seen_by proc.aggs item.made whole) shape.1
      (item_stays w.journal taking core.taken item.metric at)
      (whole_made core mid proc new_proc item.made item.metric whole w.journal takes.after w.text.stands stood
      takes.mark at makes w.pushed)
      (ap (λ (b : Bool). seen_by proc.aggs b whole) (sym made_is_so))
      (subst (λ (x : Work). Worked x between) w.work_is worked_between))

  pushed_now : AllStand new_proc.chain (pushed_items new_proc.skip (between ++ routing ∷ []))
  pushed_now = pushed_still mid new_proc between routing stood refl
      (subst (λ (skip : Bool). AllStand new_proc.chain (pushed_items skip between)) (sym same.skip)
      (pushed_on core mid proc new_proc item.made item.metric whole w.journal takes.after w.text.stands stood
      takes.mark at makes w.pushed))

  -- where it had been made, and all before it, a tick has come still
  ticked_now : ticked ≡ true → start.first ≡ true → IsTicked (setup_at start) (between ++ routing ∷ [])
  ticked_now t f =
      let so : (now.ticked ≡ true) × AllMade core.made = stays t in
      let here : is_made between core.taken ≡ true =
      made_is_so ∙ first_mark core.made item.made so.1 takes.mark in
      let there : is_made (between ++ routing ∷ []) core.taken ≡ true =
      made_stays between routing core.taken (slice_get_within (items between) core.taken item.metric
      (item_stays w.journal taking core.taken item.metric at)) ∙ here in
      ticked-push start.job.work between (setup_at start) routing refl (ap not there) worked_between
      (ticked-push start.job.work w.journal (setup_at start) taking refl refl w.worked (w.order.has_ticked so.0 f))

  -- what is known of its Route is so of the item that the journal names
  known_so : IsKnownRoute of_it (option_to_list (slice_get (items between) core.taken)) whole
      (seen_by proc.aggs item.made whole) (views_of (filters_of proc.outs) whole)
  known_so = subst (λ (xs : List Content). IsKnownRoute of_it xs whole (seen_by proc.aggs item.made whole)
      (views_of (filters_of proc.outs) whole))
      (sym (ap option_to_list (item_stays w.journal taking core.taken item.metric at))) it_is

  pub went_item : Progress start (record now {
    core = next;
    proc = new_proc;
    journal = with_known now.journal (known ++ of_it ∷ []);
    ticked = ticked;
    still = 0;
  })
  went_item = record {
    journal = between ++ routing ∷ [];
    text = text-route start mid next (with_known now.journal known) between of_it core.taken whole shape.0
        (seen_by proc.aggs item.made whole) (views_of (filters_of proc.outs) whole) shape.1
        (text-push start core mid (with_known now.journal known) w.journal taking refl w.text takes.continues
        (ap (λ (x : CoreState). x.stored) takes.after)
        (ap (λ (x : CoreState). x.setup) takes.after)) (subst (Continues mid next) entry_is routes)
        (ap (λ (x : CoreState). x.stored) routed ∙ ap (λ (x : Entry). mid.stored ++ x ∷ []) entry_is)
        (ap (λ (x : CoreState). x.setup) routed) known_so;
    in_count = w.in_count;
    heard = all_heard_push start.ins now.ins between routing (λ k. record { none = refl; other = refl })
        (all_heard_push start.ins now.ins w.journal taking (λ k. record { none = refl; other = refl }) w.heard);
    out_count = w.out_count;
    said = all_said_anew start.outs now.outs between routing fresh (λ o. tt) (λ o. refl)
        (all_said_push start.outs now.outs w.journal taking (λ o. record { ends = tt; none = refl; quiet = refl }) refl
        w.said);
    work_is = work_same start.job.work proc new_proc same w.work_is;
    worked = worked_now;
    pushed = pushed_now;
    order = order_with start mid now.next now.next now.ticked ticked between routing stood
        (omega arith) (λ f. tt) (λ k b. refl) ticked_now
        (order-push start core now.next now.next now.ticked w.journal taking refl refl w.worked w.text.stands
        (omega arith) (λ f. tt) (λ k b. refl) w.order);
    counted_at = counted_moments-same between routing refl ∙ counted_moments-same w.journal taking refl ∙ w.counted_at;
    still = failed_none (between ++ routing ∷ []);
  }

-- the stored entries were noted
pub went_cut : (start : Beginning) (core next : CoreState) (part more : JournalPart) (now : RunState)
    → ((es : List Entry) → Stands core es → Stands next es) → next ≡ after_cut core → NotesOn core.stored part more
    → Progress start (record now { core = core; journal = part })
    → Progress start (record now { core = next; journal = more })
went_cut start core next part more now stands is notes w =
    carried start start.front (record now { core = core; journal = part }) next more now.next now.timer now.still w
    (text-cut start core next part more w.journal w.text stands (ap (λ (s : CoreState). s.stored) is)
    (ap (λ (s : CoreState). s.setup) is) notes) w.order w.still

-- no entry was stored
pub went_uncut : (start : Beginning) (core next : CoreState) (now : RunState) → next ≡ core
    → Progress start (record now { core = core }) → Progress start (record now { core = next })
went_uncut start core next now is w = subst (λ (s : CoreState). Progress start (record now { core = s })) (sym is) w

-- where the outputs are settled, and a tick has come, all was sent, as far as that could be
pub all_flushed : (start : Beginning) (core : CoreState) (now : RunState)
    (w : Progress start (record now { core = core })) → IsTicked (setup_at start) w.journal → AreSettled core now.outs
    → IsFlushed (setup_at start) w.journal
all_flushed start core now w ticked settled = record {
  each = λ o within.
      let b : o < length now.outs = omega (arith, within, w.out_count, length-map start.job.outputs output_sizes) in
      elim (settled o b) [
        | inl none ↦ inl (sym (buffered_is start core now.journal w.journal w.text o) ∙ none)
        | inr some ↦ inr ((w.said o b).stuck some)
      ];
  ticked = ticked;
}

-- the moment of a step counts behind those that were counted
counted_so : (start : Beginning) (core : CoreState) (now : RunState) (w : Progress start (record now { core = core }))
    → core.counted ≡ last_of start.start now.counted_at
counted_so start core now w =
    w.text.stands.counted ∙ counted_from-last core.setup.start w.journal
    ∙ ap (λ (ms : List ℤ). last_of core.setup.start ms) w.counted_at
    ∙ ap (λ (s : Setup). last_of s.start now.counted_at) w.text.setup_is

-- the counts of failed batches begin anew, and the run is stopped at a moment: no item was raw, the outputs were
-- settled, and a tick had come
pub went_stop : (start : Beginning) (core next : CoreState) (now : RunState) (outs new_outs : List OutPart) (moment : ℤ)
    → core.raw ≡ [] → AreSettled core outs → new_outs ≡ map anew outs → AreAnew new_outs
    → IsStoppedAt moment core next
    → (w : Progress start (record now { core = core; outs = outs; ticked = true }))
    → StopsTo start w.journal (record now {
      core = next;
      outs = new_outs;
      counted_at = now.counted_at ++ int_max moment (last_of start.start now.counted_at) ∷ [];
      ticked = true;
    })
went_stop start core next now outs new_outs moment none_raw settled are fresh stops w =
    let shape : IsStopEntry (moment_at core moment) (stop_entry core moment stops.metrics) =
    entries-have-shape.stops core moment stops.metrics in
    let e : Entry = Stop (int_max moment core.counted) shape.0 in
    record {
      progress = record {
        journal = w.journal ++ e ∷ [];
        text = text-push start core next now.journal w.journal e refl w.text (subst
            (Continues core next) shape.1 stops.continues)
            (ap (λ (s : CoreState). s.stored) stops.after ∙ ap (λ (x : Entry). core.stored ++ x ∷ []) shape.1)
            (ap (λ (s : CoreState). s.setup) stops.after);
        in_count = w.in_count;
        heard = all_heard_push start.ins now.ins w.journal e (λ k. record { none = refl; other = refl }) w.heard;
        out_count = ap length are ∙ length-map outs anew ∙ w.out_count;
        said = all_said_anew start.outs new_outs w.journal e fresh (λ o. tt) (λ o. refl)
            (all_said_fresh start.outs outs new_outs w.journal are w.said);
        work_is = w.work_is;
        worked = worked-push start.job.work w.journal e tt w.worked;
        pushed = pushed_still core now.proc w.journal e w.text.stands refl w.pushed;
        order = order-push start core now.next now.next true w.journal e refl refl w.worked w.text.stands (omega arith)
            (λ f. record {
              none_raw = sym w.text.stands.raw ∙ none_raw;
              flushed = all_flushed start core (record now { outs = outs; ticked = true }) w (w.order.has_ticked refl f)
                  settled;
            })
            (λ k b. none_of_made k (length shape.0)) w.order;
        counted_at = counted_moments-push w.journal e ∙ ap (λ (ms : List ℤ). ms ++ int_max moment core.counted ∷ [])
            w.counted_at ∙ ap (λ (m : ℤ). now.counted_at ++ int_max moment m ∷ [])
            (counted_so start core (record now { outs = outs; ticked = true }) w);
        still = failed_quiet now.still w.journal e refl refl w.still;
      };
      moment = int_max moment core.counted;
      made = shape.0;
      behind = [];
      stops = refl;
    }

-- windows are closed at a moment, which counts: a tick has come
pub went_tick : (start : Beginning) (core next : CoreState) (now : RunState) (moment : ℤ) → IsTickedAt moment core next
    → Progress start (record now { core = core })
    → Progress start (record now {
      core = next;
      counted_at = now.counted_at ++ int_max moment (last_of start.start now.counted_at) ∷ [];
      ticked = true;
    })
went_tick start core next now moment ticks w =
    let shape : IsTickEntry (moment_at core moment) (tick_entry core moment ticks.metrics) =
    entries-have-shape.ticks core moment ticks.metrics in
    let e : Entry = Tick (int_max moment core.counted) shape.0 in
    record {
      journal = w.journal ++ e ∷ [];
      text = text-push start core next now.journal w.journal e refl w.text (subst
          (Continues core next) shape.1 ticks.continues)
          (ap (λ (s : CoreState). s.stored) ticks.after ∙ ap (λ (x : Entry). core.stored ++ x ∷ []) shape.1)
          (ap (λ (s : CoreState). s.setup) ticks.after);
      in_count = w.in_count;
      heard = all_heard_push start.ins now.ins w.journal e (λ k. record { none = refl; other = refl }) w.heard;
      out_count = w.out_count;
      said = all_said_push start.outs now.outs w.journal e (λ o. record { ends = tt; none = refl; quiet = refl }) refl
          w.said;
      work_is = w.work_is;
      worked = worked-push start.job.work w.journal e tt w.worked;
      pushed = pushed_still core now.proc w.journal e w.text.stands refl w.pushed;
      order = order_with start core now.next now.next now.ticked true w.journal e w.text.stands (omega arith)
          (λ f. tt) (λ k b. none_of_made k (length shape.0))
          (λ t f. ticked-tick (setup_at start) w.journal (int_max moment core.counted) shape.0) w.order;
      counted_at = counted_moments-push w.journal e ∙ ap (λ (ms : List ℤ). ms ++ int_max moment core.counted ∷ [])
          w.counted_at ∙ ap (λ (m : ℤ). now.counted_at ++ int_max moment m ∷ []) (counted_so start core now w);
      still = failed_quiet now.still w.journal e refl refl w.still;
    }

-- another mark, where it is true that a tick has come if the mark says so
went_marked : (start : Beginning) (now : RunState) (ticked : Bool) (w : Progress start now)
    → (ticked ≡ true → start.first ≡ true → IsTicked (setup_at start) w.journal)
    → Progress start (record now { ticked = ticked })
went_marked start now ticked w has_ticked = record {
  journal = w.journal;
  text = w.text;
  in_count = w.in_count;
  heard = w.heard;
  out_count = w.out_count;
  said = w.said;
  work_is = w.work_is;
  worked = w.worked;
  pushed = w.pushed;
  order = record { in_order = w.order.in_order; none_raw = w.order.none_raw; has_ticked = has_ticked };
  counted_at = w.counted_at;
  still = w.still;
}

-- whether a tick has come may be left open
pub went_unticked : (start : Beginning) (now : RunState) (ticked : Bool) → (ticked ≡ true → now.ticked ≡ true)
    → Progress start now → Progress start (record now { ticked = ticked })
went_unticked start now ticked only w = went_marked start now ticked w (λ t f. w.order.has_ticked (only t) f)

-- and so may be how many batches failed
pub went_open : (start : Beginning) (now : RunState) (ticked : Bool) → (ticked ≡ true → now.ticked ≡ true)
    → Progress start now → Progress start (record now { ticked = ticked; still = 0 })
went_open start now ticked only w =
    went_fewer start (record now { ticked = ticked }) 0 (omega arith) (went_unticked start now ticked only w)

-- where there are no aggregators no tick has to come
pub went_tickless : (start : Beginning) (core : CoreState) (now : RunState) → HasNoAggs core.setup
    → Progress start (record now { core = core }) → Progress start (record now { core = core; ticked = true })
went_tickless start core now none w = went_marked start (record now { core = core }) true w
    (λ t f. ticked_plain (setup_at start) w.journal (subst HasNoAggs w.text.setup_is none))
