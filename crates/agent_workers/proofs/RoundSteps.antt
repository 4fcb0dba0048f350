-- How far a run has come behind its rounds.
use Rattle.pipeline_core.specs.Moments.{IsTickedAt}
use Rattle.pipeline_core.specs.Windows.{HasNoAggs}
use Rattle.agent_workers.specs.Running.{AllMade}
use Rattle.agent_workers.specs.Progress.{StaysTicked, TicksOn}
use Rattle.agent_workers.proofs.ProgressLemmas.{went_tick, went_tickless}
use Rattle.agent_workers.proofs.TickLemmas.{ticked_first}
use Rattle.std.proofs.Common.{◌≡◌, ◌≤◌, ◌<◌, ℕ, zero, suc, ℤ, Bool, true, false, List, [], ◌∷◌, ◌++◌}
use Rattle.std.proofs.Common.{length, refl, sym, ap, ◌∙◌, subst, inl, inr, arith}
use Rattle.std.specs.Prelude.{IfSome, not, ◌⊎◌, map}
use Rattle.std.specs.Int.{int_max}
use Rattle.std.specs.declared.option.Option.{Option}
use Rattle.std.specs.declared.option.Option.TheVariants.{Some, None}
use Rattle.account.specs.Setup.{Setup}
use Rattle.account.specs.declared.entry.Entry.{Entry}
use Rattle.agent_base.specs.Clocked.{Counted, last_of}
use Rattle.agent_base.specs.Moments.{Moments, Gives}
use Rattle.agent_base.proofs.ClockLemmas.{counted_wider}
use Rattle.agent_base.specs.Carried.{Timed}
use Rattle.agent_workers.specs.Item.{ProcPart}
use Rattle.pipeline_core.specs.CoreState.{CoreState}
use Rattle.pipeline_core.specs.Stands.{Stands}
use Rattle.pipeline_core.specs.Steps.{after_cut}
use Rattle.agent_workers.specs.Inputs.{InPart, in_at, AreInputs, AreOut}
use Rattle.agent_workers.specs.Noted.{JournalPart}
use Rattle.agent_workers.specs.RunState.{RunState, Beginning, setup_at}
use Rattle.agent_workers.specs.Progress.{Progress, GoesOn, RoutesOn, SendsOn, GathersOn, RunsOn}
use Rattle.agent_workers.specs.Progress.{NotesRun}
use Rattle.agent_workers.specs.Running.{IsReady, AreSettled, buffered_at}
use Rattle.agent_workers.specs.Output.{OutPart, out_at, anew, AreAnew}
use Rattle.agent_workers.proofs.OutLemmas.{are_anew}
use Rattle.agent_workers.proofs.ProgressLemmas.{carried, went_anew, went_next, went_timed}
use Rattle.agent_base.specs.Moments.{Waits}
use Rattle.std.specs.Prelude.{◌||◌, ◌+◌, if◌then◌else◌}
use Rattle.account.specs.Items.{items, routes}
use Rattle.journal_text.specs.Known.{AreKnown}
use Rattle.journal_text.specs.declared.known.Known.{Known}
use Rattle.agent_workers.specs.Progress.{routing, with_known, still_after, still_flushed, RoutesWhere, TellsOn}
use Rattle.agent_workers.specs.Rounds.{still_behind}
use Rattle.agent_workers.specs.declared.output.Flush.{Flush}
use Rattle.agent_workers.specs.declared.rounds.Round.{Round}
use Rattle.agent_workers.proofs.FinishSteps.{counts_one, counts_then}
use Rattle.agent_workers.proofs.ProgressLemmas.{went_fewer, went_unticked}
use Rattle.agent_workers.proofs.OutLemmas.{ready_same}
use Rattle.agent_workers.specs.Running.{AreOutOrFull, IsOutOrHeld}
use Rattle.track_groups.specs.Tracker.{TrackerState, live_of}
use Rattle.std.specs.Prelude.{slice_get, All}
use Rattle.agent_workers.specs.Inputs.{IsOut}
use Rattle.agent_workers.specs.RunState.{AreFit}
use Rattle.agent_workers.specs.Running.{IsAtLimit, IsRunning}
use Rattle.agent_workers.specs.Rounds.{HasRounded, HasSent}
use Rattle.agent_workers.proofs.HeldLemmas.{held_back, none_live}
use Rattle.agent_workers.specs.Held.{IsHeldBack}
use Rattle.account.specs.declared.entry.Entry.TheVariants.{Stop}
use Rattle.metric.specs.declared.metric.Content.{Content}

-- ---- rounds

-- where it is said that a tick has come it had come
stays_then : (before after : Bool) (core next : CoreState) → (AllMade core.made → AllMade next.made)
    → StaysTicked before after core → StaysTicked after after next
stays_then before after core next made h = λ t. (t, made (h t).1)

-- more items were routed, and the entries spelled
pub routes_more : (first old routed new : CoreState) (proc0 proc new_proc : ProcPart)
    (part0 part new_part : JournalPart) (known : List Known) → (AllMade first.made → AllMade old.made)
    → RoutesOn (routing first proc0 part0) (routing old proc part)
    → GoesOn old routed proc new_proc part.known known → NotesRun routed new (with_known part known) new_part
    → RoutesOn (routing first proc0 part0) (routing new new_proc new_part)
routes_more first old routed new proc0 proc new_proc part0 part new_part known made routes goes notes =
    λ start now ticked anew stays w.
    notes start (record now { proc = new_proc; ticked = ticked; still = 0 })
    (goes start (record now { journal = part; ticked = ticked; still = 0 }) ticked anew
    (stays_then now.ticked ticked first old made stays) (routes start now ticked anew stays w))

-- the last items were routed
pub routes_last : (first old new : CoreState) (proc0 proc new_proc : ProcPart) (part0 part : JournalPart)
    (known : List Known) → (AllMade first.made → AllMade old.made)
    → RoutesOn (routing first proc0 part0) (routing old proc part) → GoesOn old new proc new_proc part.known known
    → RoutesOn (routing first proc0 part0) (routing new new_proc (with_known part known))
routes_last first old new proc0 proc new_proc part0 part known made routes goes = λ start now ticked anew stays w.
    goes start (record now { journal = part; ticked = ticked; still = 0 }) ticked anew
    (stays_then now.ticked ticked first old made stays) (routes start now ticked anew stays w)

-- items were routed, and then more
pub goes_more : (first old new : CoreState) (proc0 proc new_proc : ProcPart) (known0 known new_known : List Known)
    → (AllMade first.made → AllMade old.made) → GoesOn first old proc0 proc known0 known
    → GoesOn old new proc new_proc known new_known → GoesOn first new proc0 new_proc known0 new_known
goes_more first old new proc0 proc new_proc known0 known new_known made routes goes = λ start now ticked anew stays w.
    goes start (record now { ticked = ticked; still = 0 }) ticked anew
    (stays_then now.ticked ticked first old made stays)
    (routes start now ticked anew stays w)

-- windows were closed at a moment of the timer, and what they made was routed
pub ticks_routed : (made : Bool) (core mid new : CoreState) (proc new_proc : ProcPart) (part new_part : JournalPart)
    (timer new_timer : Timed) (moment : ℤ) → IsTickedAt moment core mid → AllMade mid.made
    → Gives timer.moments timer.next new_timer.next moment → RoutesWhere made (routing mid proc part)
    (routing new new_proc new_part)
    → TicksOn made (routing core proc part) (routing new new_proc new_part) timer new_timer
ticks_routed made core mid new proc new_proc part new_part timer new_timer moment ticks all gives routes =
    λ start now anew w.
    let counts : List ℤ = now.counted_at ++ int_max moment (last_of start.start now.counted_at) ∷ [] in
    record {
      counted_now = counts;
      counts = counts_one timer new_timer.next start.start moment now.counted_at gives;
      progress = routes start (record now { counted_at = counts; ticked = true }) true anew (λ t. (refl, all))
          (went_tick start core mid (record now { proc = proc; journal = part }) moment ticks w);
    }

-- there are no aggregators, so no tick has to come
pub ticks_none : (core : CoreState) (proc : ProcPart) (part : JournalPart) (timer : Timed) → HasNoAggs core.setup
    → TicksOn false (routing core proc part) (routing core proc part) timer timer
ticks_none core proc part timer none = λ start now anew w. record {
  counted_now = now.counted_at;
  counts = λ first h. h;
  progress = went_tickless start core (record now { proc = proc; journal = part }) none w;
}

-- items were routed where some were raw
pub routes_some : (core new : CoreState) (proc new_proc : ProcPart) (part new_part : JournalPart)
    → RoutesOn (routing core proc part) (routing new new_proc new_part) → RoutesWhere true (routing core proc part)
    (routing new new_proc new_part)
routes_some core new proc new_proc part new_part routes = λ start now ticked anew stays w.
    routes start now ticked anew stays w

-- and none was
pub routes_none : (core : CoreState) (proc : ProcPart) (part : JournalPart)
    → RoutesWhere false (routing core proc part) (routing core proc part)
routes_none core proc part = λ start now ticked anew stays w.
    went_unticked start (record now { core = core; proc = proc; journal = part }) ticked (λ t. (stays t).0) w

-- how many batches failed behind the steps of a round
round_fewer : (accepted routed made : Bool) (sweep : Flush) (round : Round) (still : ℕ)
    → round.moved ≡ (accepted || routed || made || sweep.accepted) → round.left ≡ not sweep.emptied
    → still_behind round still ≤ still_flushed sweep (still_after made (still_after routed
    (still_after accepted still)))
round_fewer accepted routed made sweep round still moves leaves =
    subst (λ (b : Bool). (if b then 0 else if round.left then still + 1 else still) ≤ after) (sym moves)
    (subst (λ (b : Bool). (if moved then 0 else if b then still + 1 else still) ≤ after) (sym leaves)
    (by_marks accepted routed made sweep.accepted sweep.emptied))
  where
    moved : Bool
    moved = accepted || routed || made || sweep.accepted

    after : ℕ
    after = still_flushed sweep (still_after made (still_after routed (still_after accepted still)))

    by_marks : (a r m s e : Bool) → (if (a || r || m || s) then 0 else if not e then still + 1 else still)
        ≤ still_flushed (record { emptied = e; accepted = s }) (still_after m (still_after r (still_after a still)))
    by_marks true r m s e = omega arith
    by_marks false true m s e = omega arith
    by_marks false false true s e = omega arith
    by_marks false false false true e = omega arith
    by_marks false false false false true = omega arith
    by_marks false false false false false = omega arith

-- A round: inputs were gathered, the items were routed, windows were closed, batches were sent, the entries spelled,
-- and
-- reports taken out.
pub round_runs : (old last : RunState) (accepted routed made : Bool) (sweep : Flush) (round : Round)
    (gathered worked ticked sent noted : CoreState) (mid_proc : ProcPart) (fresh : List OutPart)
    (mid_part tick_part : JournalPart) → round.moved ≡ (accepted || routed || made || sweep.accepted)
    → round.left ≡ not sweep.emptied → old.next ≡ 0 → old.ticked ≡ true → last.next ≡ 0 → last.ticked ≡ true
    → GathersOn accepted old.core gathered old.ins last.ins → fresh ≡ map anew old.outs
    → RoutesWhere routed (routing gathered old.proc old.journal) (routing worked mid_proc mid_part)
    → TicksOn made (routing worked mid_proc mid_part) (routing ticked last.proc tick_part) old.timer last.timer
    → ticked.raw ≡ []
    → SendsOn (still_flushed sweep) ticked sent fresh last.outs → NotesRun sent noted tick_part last.journal
    → TellsOn noted last.core → RunsOn (still_behind round) old last
round_runs old last accepted routed made sweep round gathered worked ticked sent noted mid_proc fresh mid_part tick_part
    moves leaves at_first ticked_first at_last ticked_last gathers anews routes ticks none sends notes tells =
    λ start counted still settled w.
    let here : RunState = record old { counted_at = counted; still = still } in
    let a0 = subst (λ (k : ℕ). Progress start (record here { next = k })) at_first w in
    let a1 = subst (λ (b : Bool). Progress start (record here { next = 0; ticked = b })) ticked_first a0 in
    let b = gathers start here settled a1 in
    let after : RunState = record here
    { ins = last.ins; next = length old.ins; ticked = true; still = still_after accepted still } in
    let c = went_anew start gathered after old.outs fresh anews b in
    let zeros : AreAnew fresh = subst AreAnew (sym anews) (are_anew old.outs) in
    let d = routes start (record after { outs = fresh }) false zeros (λ t. absurd (let no : false ≡ true = t
    in cc)) c in
    let went : RunState = record after {
      outs = fresh;
      proc = mid_proc;
      journal = mid_part;
      ticked = false;
      still = still_after routed (still_after accepted still);
    } in
    let t = ticks start went zeros d in
    let closed : RunState = record went {
      proc = last.proc;
      journal = tick_part;
      counted_at = t.counted_now;
      ticked = true;
      still = still_after made (still_after routed (still_after accepted still));
    } in
    let n = went_next start ticked closed 0 none t.progress in
    let zero : RunState = record closed { next = 0 } in
    let e = sends start zero n in
    let swept : RunState = record zero { outs = last.outs; still = still_flushed sweep zero.still } in
    let f = tells start (record swept { journal = last.journal }) (notes start swept e) in
    let fewer = went_fewer start (record swept { core = last.core; journal = last.journal }) (still_behind round still)
    (round_fewer accepted routed made sweep round still moves leaves) f in
    let last_zero : RunState = record swept
    { core = last.core; journal = last.journal; still = still_behind round still } in
    record {
      counted_now = t.counted_now;
      counts = t.counts;
      progress =
          subst (λ (b : Bool). Progress start (record last
          { counted_at = t.counted_now; ticked = b; still = still_behind round still })) (sym ticked_last)
          (subst (λ (k : ℕ). Progress start (record last
          { next = k; counted_at = t.counted_now; ticked = true; still = still_behind round still }))
          (sym at_last) (went_timed start last_zero last.timer fewer));
    }

-- rounds, one behind the other
pub runs_more : (count more : ℕ → ℕ) (first old last : RunState) → old.timer.moments ≡ first.timer.moments
    → (AreSettled first.core first.outs → AreSettled old.core old.outs)
    → RunsOn count first old → RunsOn more old last → RunsOn (λ still. more (count still)) first last
runs_more count more first old last same settles before after = λ start counted still settled w.
    let a = before start counted still settled w in
    let b = after start a.counted_now (count still) (λ f. settles (settled f)) a.progress in
    record {
      counted_now = b.counted_now;
      counts = counts_then first.timer old.timer last.timer.next start.start counted a.counted_now b.counted_now same
          a.counts b.counts;
      progress = b.progress;
    }

-- of rounds it may be said that fewer batches failed
pub runs_fewer : (count few : ℕ → ℕ) (old new : RunState) → ((still : ℕ) → few still ≤ count still)
    → RunsOn count old new → RunsOn few old new
runs_fewer count few old new less h = λ start counted still settled w.
    let a = h start counted still settled w in
    record {
      counted_now = a.counted_now;
      counts = a.counts;
      progress = went_fewer start (record new { counted_at = a.counted_now; still = count still }) (few still)
          (less still) a.progress;
    }

-- no round yet
pub runs_none : (now : RunState) → RunsOn (λ still. 0) now now
runs_none now = λ start counted still settled w. record {
  counted_now = counted;
  counts = λ first h. h;
  progress = went_fewer start (record now { counted_at = counted; still = still }) 0 (omega arith) w;
}

-- the timer was waited for: it may have passed a moment, which doesn't count
counted_later : (all : Option Moments) (first next last : ℕ) (floor : ℤ) (ms : List ℤ) → next ≤ last
    → IfSome all (λ moments. Counted moments first next floor ms)
    → IfSome all (λ moments. Counted moments first last floor ms)
counted_later None first next last floor ms l h = tt
counted_later (Some moments) first next last floor ms l h =
    counted_wider moments first first next last floor ms (omega arith) l h

-- a wait goes on, never back
pub waits_on : (moments : Option Moments) (old new : ℕ) (was stopped : Bool) (waits waited : ℕ) (answer : Option ℤ)
    → Waits moments old new was stopped waits waited answer → IfSome moments (λ m. old ≤ new)
waits_on None old new was stopped waits waited answer h = tt
waits_on (Some moments) old new was stopped waits waited None h = omega (arith, h.next)
waits_on (Some moments) old new was stopped waits waited (Some moment) h =
    omega (arith, h.gives.within, h.gives.next)

pub runs_waited : (count : ℕ → ℕ) (first now : RunState) (timer : Timed) → now.timer.moments ≡ first.timer.moments
    → IfSome now.timer.moments (λ m. now.timer.next ≤ timer.next) → RunsOn count first now
    → RunsOn count first (record now { timer = timer })
runs_waited count first now timer same later h = λ start counted still settled w.
    let a = h start counted still settled w in
    record {
      counted_now = a.counted_now;
      counts = λ n c. passed first.timer.moments n now.timer.next timer.next start.start a.counted_now
          (subst (λ (all : Option Moments). IfSome all (λ m. now.timer.next ≤ timer.next)) same later) (a.counts n c);
      progress = went_timed start (record now { counted_at = a.counted_now; still = count still }) timer a.progress;
    }
  where
    passed : (all : Option Moments) (n next last : ℕ) (floor : ℤ) (ms : List ℤ) → IfSome all (λ m. next ≤ last)
        → IfSome all (λ moments. Counted moments n next floor ms)
        → IfSome all (λ moments. Counted moments n last floor ms)
    passed None n next last floor ms l h = tt
    passed (Some moments) n next last floor ms l h = counted_later (Some moments) n next last floor ms l h

-- the outputs are settled still, once the entries were spelled
pub settled_still : (sent new : CoreState) (outs : List OutPart) → new ≡ after_cut sent → AreSettled sent outs
    → AreSettled new outs
settled_still sent new outs is h = rw is h

-- ---- a round in which nothing came on

-- a core of which reports were taken out is ready
pub ready_told : (core next : CoreState) → next ≡ record core { told = next.told } → IsReady core → IsReady next
ready_told core next same h =
    ready_same core next (ap (λ (s : CoreState). s.setup) same) (ap (λ (s : CoreState). s.lanes) same)
    (ap (λ (s : CoreState). s.held) same) h

pub settled_told : (core next : CoreState) (outs : List OutPart) → next ≡ record core { told = next.told }
    → AreSettled core outs → AreSettled next outs
settled_told core next outs same h = λ o l.
    subst (λ (n : ℕ). (n ≡ 0) ⊎ (1 ≤ (out_at outs o).failed_since))
    (sym (ap (λ (s : CoreState). buffered_at s o) same)) (h o l)

-- reports were taken out: it says nothing of how far a run has come
pub went_told : (core next : CoreState) → next ≡ record core { told = next.told }
    → ((journal : List Entry) → Stands core journal → Stands next journal) → TellsOn core next
went_told core next same stands = λ start now w.
    carried start start.front (record now { core = core }) next now.journal now.next now.timer now.still w (record {
      stands = stands w.journal w.text.stands;
      setup_is = ap (λ (s : CoreState). s.setup) same ∙ w.text.setup_is;
      more = w.text.more;
      goes_on = w.text.goes_on;
      written = w.text.written;
      split = w.text.split ∙ ap (λ (s : CoreState). w.text.written ++ s.stored) (sym same);
      notes = w.text.notes;
      known = subst (λ (s : CoreState). AreKnown now.journal.known (items w.text.written) s.stored) (sym same)
          w.text.known;
      each_known = w.text.each_known ∙ ap (λ (s : CoreState). routes s.stored) (sym same);
    }) w.order w.still

-- reports were taken out twice
pub told_then : (first old new : CoreState) → old ≡ record first { told = old.told } → new
    ≡ record old { told = new.told }
    → new ≡ record first { told = new.told }
told_then first old new h k = k ∙ ap (λ (s : CoreState). record s { told = new.told }) h

-- none of four
pub four_none : (a b m d : Bool) → (a || b || m || d) ≡ false
    → (a ≡ false) × (b ≡ false) × (m ≡ false) × (d ≡ false)
four_none false false false false e = (refl, refl, refl, refl)
four_none true b m d e = absurd (let x : true ≡ false = e in cc)
four_none false true m d e = absurd (let x : true ≡ false = e in cc)
four_none false false true d e = absurd (let x : true ≡ false = e in cc)
four_none false false false true e = absurd (let x : true ≡ false = e in cc)

pub not_false : (b : Bool) → not b ≡ false → b ≡ true
not_false true e = refl
not_false false e = absurd (let x : true ≡ false = e in cc)

-- where no item is raw what is held back is so since its groups are as many as may be, and the groups stay so
pub held_full : (core next : CoreState) (ins : List InPart) (count : ℕ) (ended : List Bool) → core.raw ≡ []
    → next.tracker ≡ core.tracker → next.setup ≡ core.setup → AreInputs count ended ins
    → ((k : ℕ) → k < length ins → IsOutOrHeld core (in_at ins k)) → AreOutOrFull next ins
held_full core next ins count ended none same setup fit each = λ k l. elim (each k l) [
  | inl out ↦ inl out
  | inr (inl raw) ↦ absurd (raw none)
  | inr (inr full) ↦ inr (record {
    most = full.most;
    tracked = ap (λ (s : Setup). slice_get s.inputs k) setup
        ∙ subst (λ (i : ℕ). slice_get core.setup.inputs i ≡ Some (Some full.most))
        (fit.each k (omega (arith, l, fit.count_is))).number full.tracked;
    full = subst (λ (t : TrackerState). full.most ≤ live_of t k) (sym same)
        (subst (λ (i : ℕ). full.most ≤ live_of core.tracker i) (fit.each k (omega (arith, l, fit.count_is))).number
        full.full);
  })
]

some_same : (x y : Option ℕ) → Some x ≡ Some y → x ≡ y
some_same x y e = cc

-- of a tracked input a group may be live
limit_some : (all : List (Option ℕ)) (k most : ℕ) → slice_get all k ≡ Some (Some most)
    → All (λ (x : Option ℕ). IfSome x (λ n. 1 ≤ n)) all → 1 ≤ most
limit_some [] k most e h = absurd (let x : None ≡ Some (Some most) = e in cc)
limit_some (x ∷ all) zero most e h =
    let is : x ≡ Some most = some_same x (Some most) e in
    subst (λ (y : Option ℕ). IfSome y (λ n. 1 ≤ n)) is (h zero None (omega arith))
limit_some (x ∷ all) (suc k) most e h = limit_some all k most e (λ i d l. h (suc i) d (omega (arith, l)))

-- where the run didn't come on, and an input isn't out, batches are left: the groups of that input wait somewhere
pub left_there : (now : RunState) (round : Round) → IsRunning now.core → AreFit now → HasSent now → HasRounded round now
    → round.full ≡ false → round.moved ≡ false → (AreOut now.ins → ⊥) → round.left ≡ true
left_there now round running fit sent rounded whole none not_out = by_mark round.left refl
  where
    by_mark : (left : Bool) → round.left ≡ left → left ≡ true
    by_mark true is = refl
    by_mark false is = absurd (not_out (λ k l. out k l (rounded.idle whole none k l)))
      where
        empty : (output : ℕ) → output < length now.core.setup.outputs → buffered_at now.core output ≡ 0
        empty o l = rounded.emptied is o (omega (arith, l, fit.outputs.count_is))

        nothing : (input : ℕ) → live_of now.core.tracker input ≡ 0
        nothing = none_live now.core running.stands.journal running.stands.stands sent.none_raw
            running.ready.empty_handed empty

        out : (k : ℕ) → k < length now.ins → IsOut (in_at now.ins k) ⊎ IsAtLimit now.core k → IsOut (in_at now.ins k)
        out k l (inl is_out) = is_out
        out k l (inr full) =
            let some : 1 ≤ full.most = limit_some now.core.setup.inputs k full.most full.tracked running.ready.limits in
            absurd (omega (arith, some, full.full, nothing k))

-- how many rounds in succession didn't come on, behind one more
pub enough : (round : Round) (idle next : ℕ) → (round.moved ≡ false → next ≡ idle + 1) → (round.moved ≡ true → next ≡ 0)
    → (round.moved ≡ false → round.left ≡ true) → next ≤ still_behind round idle
enough round idle next none some left = by_mark round.moved refl
  where
    by_mark : (moved : Bool) → round.moved ≡ moved → next ≤ still_behind round idle
    by_mark true is = omega (arith, some is)
    by_mark false is =
        let counted : still_behind round idle ≡ idle + 1 =
        ap (λ (b : Bool). if b then 0 else if round.left then idle + 1 else idle) is
        ∙ ap (λ (b : Bool). if b then idle + 1 else idle) (left is) in
        omega (arith, none is, counted)

-- the inputs that weren't out are held back, once the run was stopped
pub all_held : (start : Beginning) (now : RunState) (w : Progress start now) (ins : List InPart) (journal : List Entry)
    (moment : ℤ) (made : List Content) (behind : List Entry) → start.job.tries ≤ now.still
    → AreOutOrFull now.core now.ins → ins ≡ now.ins → journal ≡ w.journal ++ Stop moment made ∷ behind
    → (k : ℕ) → k < length ins
    → IsOut (in_at ins k) ⊎ IsHeldBack start.job.tries (setup_at start) journal k
all_held start now w ins journal moment made behind tried each same stops = λ k l.
    elim (each k (omega (arith, l, ap (λ (xs : List InPart). length xs) same))) [
      | inl out ↦ inl (subst (λ (xs : List InPart). IsOut (in_at xs k)) (sym same) out)
      | inr full ↦ inr (subst (λ (es : List Entry). IsHeldBack start.job.tries (setup_at start) es k) (sym stops)
          (subst (λ (s : Setup). IsHeldBack start.job.tries s (w.journal
          ++ Stop moment made ∷ behind) k) w.text.setup_is
          (held_back start.job.tries now.still now.core w.journal k moment made behind w.text.stands full w.still
          tried)))
    ]
