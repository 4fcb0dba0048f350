-- How far a run has come once a batch was sent.
use Rattle.std.proofs.Common.{◌≢◌, ◌==◌, set, if◌then◌else◌, ◌≡◌, ◌≤◌, ◌<◌, ℕ, ◌+◌, ◌-◌, ◌^◌, min, Bool, true, false}
use Rattle.std.proofs.Common.{List, [], ◌∷◌, ◌++◌, length, refl, sym, ap, ◌∙◌, subst, arith, Err}
use Rattle.std.specs.Prelude.{not, count_by, ◌&&◌, ◌||◌}
use Rattle.std.specs.Io.KnownBytes.{Appends}
use Rattle.std.specs.declared.option.Option.{Option}
use Rattle.account.specs.declared.entry.Entry.{Entry}
use Rattle.account.specs.declared.entry.Entry.TheVariants.{Begin, Done}
use Rattle.agent_base.specs.Counts.{Rose, RoseBy}
use Rattle.agent_base.specs.Puts.{PutAppends}
use Rattle.agent_base.specs.declared.outside.PutFault.{PutFault}
use Rattle.agent_base.specs.declared.outside.PutFault.TheVariants.{Failed}
use Rattle.pipeline_core.specs.CoreState.{CoreState, lane_at}
use Rattle.pipeline_core.specs.Legal.{has_stop}
use Rattle.pipeline_core.specs.Offers.{lane_events}
use Rattle.pipeline_core.proofs.JournalPush.{lane_events-push}
use Rattle.pipeline_core.specs.Stands.{Continues}
use Rattle.pipeline_core.specs.Shapes.{IsDoneEntry}
use Rattle.pipeline_core.specs.Steps.{batch_views, IsBatchOf, after_begin, after_done, done_entry}
use Rattle.pipeline_core.proofs.ShapeLemmas.{entries-have-shape}
use Rattle.account.specs.declared.entry.Report.{Report}
use Rattle.pipeline_core.specs.declared.batches.Batch.{Batch}
use Rattle.account.specs.Dones.{dones}
use Rattle.pipeline_core.specs.Stopped.{behind_stop}
use Rattle.agent_workers.specs.RunState.{RunState, Beginning}
use Rattle.agent_workers.specs.Progress.{still_flushed, Said, AllSaid, SendsOn, SendsAt, Progress}
use Rattle.agent_workers.specs.declared.output.Flush.{Flush}
use Rattle.format_words.specs.declared.format.OutFormat.{OutFormat}
use Rattle.formats.specs.Batches.{batch_text}
use Rattle.agent_base.specs.Carried.{Carried}
use Rattle.agent_workers.specs.Output.{OutPart, out_at, after_put, no_out}
use Rattle.agent_workers.specs.Run.{change, IsPut}
use Rattle.agent_workers.specs.Running.{BeginsNext}
use Rattle.agent_workers.specs.Held.{HasFailed}
use Rattle.agent_workers.proofs.FailedLemmas.{failed_accepted, failed_once}
use Rattle.agent_workers.proofs.HeldLemmas.{failed_more, failed_none, failed_quiet}
use Rattle.agent_workers.proofs.OutLemmas.{each_set}
use Rattle.agent_workers.proofs.ProgressLemmas.{IsQuietAt, said_push}
use Rattle.out_lane.specs.LaneEvents as events
use Rattle.pipeline_core.proofs.Keeping.{differs, same_number}
use Rattle.std.proofs.lemmas.List.{length-set, get_or-set_same, set-set, set-get_or}
use Rattle.account.proofs.DoneLemmas.{dones-same, dones-more, failed-more, last_none, last_more, last_fewer, last_same}
use Rattle.agent_workers.proofs.RoseLemmas.{rose_later, rose_more}
use Rattle.pipeline_core.proofs.StopLemmas.{behind_stop-push, stop_before}
use Rattle.account.proofs.MomentLemmas.{counted_moments-same}
use Rattle.agent_workers.proofs.ProgressLemmas.{text-push, all_heard_push, order-push, pushed_still, went_fewer}
use Rattle.agent_workers.proofs.SentLemmas.{sent_accepted, sent_failed}
use Rattle.pipeline_core.proofs.WorkedLemmas.{worked-push}

dones_of : (reports : List Report) (output : ℕ) (journal : List Entry) (from to : ℕ) (ok : Bool)
    → dones output ((journal ++ Begin output from to ∷ []) ++ Done output ok reports ∷ []) ≡ dones output journal
    ++ ok ∷ []
dones_of reports output journal from to ok =
    dones-more reports output (journal ++ Begin output from to ∷ []) ok
    ∙ ap (λ (bs : List Bool). bs ++ ok ∷ []) (dones-same output journal (Begin output from to) refl)

-- a batch of one output says nothing of another
begin_quiet : (output other from to : ℕ) → other ≢ output → IsQuietAt other (Begin output from to)
begin_quiet output other from to ne = record {
  ends = tt;
  none = refl;
  quiet = ap (λ (here : Bool). if here then events.Begin from to ∷ [] else []) (differs output other (λ e. ne (sym e)));
}

done_quiet : (reports : List Report) (output other : ℕ) (ok : Bool) → other ≢ output
    → IsQuietAt other (Done output ok reports)
done_quiet reports output other ok ne =
    let apart : (output == other) ≡ false = differs output other (λ e. ne (sym e)) in
    record {
      ends = apart;
      none = ap (λ (here : Bool). if here then ok ∷ [] else []) apart;
      quiet = ap (λ (here : Bool). if here then events.Done ok ∷ [] else []) apart;
    }

-- how many batches failed since the run last came on, behind one more
abbrev pub still_done : Bool → ℕ → ℕ
still_done true still = 0
still_done false still = still + 1

failed_done : (still : ℕ) (journal : List Entry) (output : ℕ) (ok : Bool) (reports : List Report)
    → HasFailed still journal → HasFailed (still_done ok still) (journal ++ Done output ok reports ∷ [])
failed_done still journal output true reports h = failed_none (journal ++ Done output true reports ∷ [])
failed_done still journal output false reports h = failed_more still journal output reports h

module _ (start : Beginning) (core mid next : CoreState) (now : RunState) (old new : OutPart) (batch : Batch)
    (text : List ℕ)
    (within : old.output < length core.setup.outputs) (routed : core.raw ≡ [])
    (is : IsBatchOf (lane_at core.lanes old.output) batch)
    (spelled : text ≡ batch_text old.format (batch_views (lane_at core.lanes old.output)))
    (kept_format : new.format ≡ old.format) (later : old.put_faults ≤ new.put_faults)
    (began : mid ≡ after_begin core old.output batch.from batch.to)
    (begins : Continues core mid (Begin old.output batch.from batch.to))
    (b : old.output < length now.outs) (at : out_at now.outs old.output ≡ old) where
  -- what is said of the outputs, where it is said of the one
  said_done : (reports : List Report) (ok : Bool) (journal : List Entry) → AllSaid start.outs now.outs journal
      → Said (out_at start.outs old.output) new old.output ((journal ++ Begin old.output batch.from batch.to ∷ [])
      ++ Done old.output ok reports ∷ [])
      → AllSaid start.outs (set now.outs old.output new) ((journal ++ Begin old.output batch.from batch.to ∷ [])
      ++ Done old.output ok reports ∷ [])
  said_done reports ok journal h here =
      let begin : Entry = Begin old.output batch.from batch.to in
      let end : Entry = Done old.output ok reports in
      each_set (λ (k : ℕ) (out : OutPart). Said (out_at start.outs k) out k ((journal ++ begin ∷ []) ++ end ∷ []))
      now.outs old.output new no_out b here
      (λ k l ne. said_push (out_at start.outs k) (out_at now.outs k) k (journal ++ begin ∷ []) end
      (done_quiet reports old.output k ok ne) refl
      (said_push (out_at start.outs k) (out_at now.outs k) k journal begin
      (begin_quiet old.output k batch.from batch.to ne) refl (h k l)))

  went_done : (ok : Bool) (w : Progress start (record now { core = core })) → next ≡ after_done mid old.output ok
      → Continues mid next (done_entry mid old.output ok) → ((reports : List Report) →
      Said (out_at start.outs old.output) new old.output ((w.journal ++ Begin old.output batch.from batch.to ∷ [])
      ++ Done old.output ok reports ∷ [])) → Progress start (record now
      { core = next; outs = set now.outs old.output new; still = still_done ok now.still })
  went_done ok w done ends said =
      let shape : IsDoneEntry old.output ok (done_entry mid old.output ok) =
      entries-have-shape.dones mid old.output ok in
      let reports : List Report = shape.0 in
      let stored : next.stored ≡ mid.stored ++ Done old.output ok reports ∷ [] =
      ap (λ (s : CoreState). s.stored) done ∙ ap (λ (e : Entry). mid.stored ++ e ∷ []) shape.1 in
      let begin : Entry = Begin old.output batch.from batch.to in
      let end : Entry = Done old.output ok reports in
      let between : List Entry = w.journal ++ begin ∷ [] in
      record {
        journal = between ++ end ∷ [];
        text = text-push start mid next now.journal between end refl
            (text-push start core mid now.journal w.journal begin refl w.text begins
            (ap (λ (s : CoreState). s.stored) began) (ap (λ (s : CoreState). s.setup) began))
            (subst (Continues mid next) shape.1 ends) stored (ap (λ (s : CoreState). s.setup) done);
        in_count = w.in_count;
        heard = all_heard_push start.ins now.ins between end (λ k. record { none = refl; other = refl })
            (all_heard_push start.ins now.ins w.journal begin (λ k. record { none = refl; other = refl }) w.heard);
        out_count = length-set now.outs old.output new ∙ w.out_count;
        said = said_done reports ok w.journal w.said (said reports);
        work_is = w.work_is;
        worked = worked-push start.job.work between end tt (worked-push start.job.work w.journal begin tt w.worked);
        pushed = pushed_still mid now.proc between end (begins w.journal w.text.stands) refl
            (pushed_still core now.proc w.journal begin w.text.stands refl w.pushed);
        order = order-push start mid now.next now.next now.ticked between end refl refl
            (worked-push start.job.work w.journal begin tt w.worked) (begins w.journal w.text.stands) (omega arith)
            (λ f. tt) (λ k b. refl)
            (order-push start core now.next now.next now.ticked w.journal begin refl refl w.worked w.text.stands
            (omega arith)
            (λ f. sym w.text.stands.raw ∙ routed) (λ k b. refl) w.order);
        counted_at = counted_moments-same between end refl ∙ counted_moments-same w.journal begin refl ∙ w.counted_at;
        still = failed_done now.still between old.output ok reports
            (failed_quiet now.still w.journal begin refl refl w.still);
      }

  -- what was said of the output
  said_before : (w : Progress start (record now { core = core }))
      → Said (out_at start.outs old.output) old old.output w.journal
  said_before w = subst (λ (out : OutPart). Said (out_at start.outs old.output) out old.output w.journal) at
      (w.said old.output b)

  -- the batch was accepted
  pub went_accepted : new.failed ≡ 0 → new.failed_since ≡ 0 → next ≡ after_done mid old.output true
      → Continues mid next (done_entry mid old.output true) → Appends old.held new.held text
      → Progress start (record now { core = core }) → Progress start
      (record now { core = next; outs = set now.outs old.output new; still = 0 })
  went_accepted none nil done ends put w =
      let o : ℕ = old.output in
      let said = said_before w in
      let first : OutPart = out_at start.outs o in
      went_done true w done ends (λ reports.
      let same = dones_of reports o w.journal batch.from batch.to true in
      record {
        format = kept_format ∙ said.format;
        sent = sent_accepted (batch_text first.format) reports core w.journal o batch first.held old.held new.held text
            w.text.stands within is
            (spelled ∙ ap (λ (f : OutFormat). batch_text f (batch_views (lane_at core.lanes old.output))) said.format)
            said.sent put;
        put_faults = subst (λ (bs : List Bool). RoseBy (count_by not bs) first.put_faults new.put_faults) (sym same)
            (let n : count_by not (dones o w.journal ++ true ∷ []) ≡ count_by not (dones o w.journal) = omega
            (arith, failed-more (dones o w.journal) true) in
            subst (λ (k : ℕ). RoseBy k first.put_faults new.put_faults) (sym n)
            (rose_later (count_by not (dones o w.journal)) first.put_faults old.put_faults new.put_faults
            said.put_faults later));
        failed = failed_accepted new.failed (dones o w.journal)
            (dones o ((w.journal ++ Begin o batch.from batch.to ∷ []) ++ Done o true reports ∷ [])) none same;
        stuck = λ some. absurd (omega (arith, some, nil));
        last = λ stopped. rw nil (last_none (dones o (behind_stop ((w.journal ++ Begin o batch.from batch.to ∷ [])
            ++ Done o true reports ∷ []))));
      })

  -- its put failed
  pub went_failed : (fault : PutFault) → fault ≡ Failed → new.failed ≡ min (old.failed + 1) (2 ^ 32 - 1)
      → new.failed_since ≤ old.failed_since + 1 → next ≡ after_done mid old.output false
      → Continues mid next (done_entry mid old.output false) → PutAppends old.held new.held text (Err fault)
      → Rose old.put_faults new.put_faults
      → Progress start (record now { core = core }) → Progress start
      (record now { core = next; outs = set now.outs old.output new; still = now.still + 1 })
  went_failed fault f one few done ends put rose w =
      let o : ℕ = old.output in
      let said = said_before w in
      let first : OutPart = out_at start.outs o in
      let begin : Entry = Begin o batch.from batch.to in
      went_done false w done ends (λ reports.
      let same = dones_of reports o w.journal batch.from batch.to false in
      let end : Entry = Done o false reports in
      record {
        format = kept_format ∙ said.format;
        sent = sent_failed (batch_text first.format) reports core w.journal o batch first.held old.held new.held text
            fault f w.text.stands within is
            (spelled ∙ ap (λ (f : OutFormat). batch_text f (batch_views (lane_at core.lanes old.output))) said.format)
            said.sent put;
        put_faults = subst (λ (bs : List Bool). RoseBy (count_by not bs) first.put_faults new.put_faults) (sym same)
            (let n : count_by not (dones o w.journal ++ false ∷ []) ≡ count_by not (dones o w.journal) + 1 = omega
            (arith, failed-more (dones o w.journal) false) in
            subst (λ (k : ℕ). RoseBy k first.put_faults new.put_faults) (sym n)
            (rose_more (count_by not (dones o w.journal)) first.put_faults old.put_faults new.put_faults said.put_faults
            rose));
        failed = failed_once old.failed new.failed (dones o w.journal) (dones o ((w.journal ++ begin ∷ []) ++ end ∷ []))
            one same said.failed;
        stuck = λ some. record {
          front = lane_events o (w.journal ++ begin ∷ []);
          is = lane_events-push o (w.journal ++ begin ∷ []) end
              ∙ ap (λ (here : Bool). lane_events o (w.journal ++ begin ∷ [])
              ++ (if here then events.Done false ∷ [] else [])) (same_number o);
        };
        last = λ stopped.
            let mid_stopped : has_stop (w.journal ++ begin ∷ []) ≡ true =
            stop_before (w.journal ++ begin ∷ []) end refl stopped in
            let before : has_stop w.journal ≡ true = stop_before w.journal begin refl mid_stopped in
            let behind : behind_stop ((w.journal ++ begin ∷ []) ++ end ∷ []) ≡ (behind_stop w.journal ++ begin ∷ [])
            ++ end ∷ [] =
            behind_stop-push (w.journal ++ begin ∷ []) end mid_stopped
            ∙ ap (λ (es : List Entry). es ++ end ∷ []) (behind_stop-push w.journal begin before) in
            last_fewer new.failed_since (old.failed_since + 1)
            (dones o (behind_stop ((w.journal ++ begin ∷ []) ++ end ∷ []))) few
            (last_same (old.failed_since + 1) (dones o (behind_stop w.journal) ++ false ∷ [])
            (dones o (behind_stop ((w.journal ++ begin ∷ []) ++ end ∷ [])))
            (ap (dones o) behind ∙ dones_of reports o (behind_stop w.journal) batch.from batch.to false)
            (last_more old.failed_since (dones o (behind_stop w.journal)) (said.last before)));
      })

-- what a sink carries counts once
pub put_again : (failed : Bool) (sink : Carried) (out : OutPart) (held : Option (List ℕ)) (faults : ℕ)
    → after_put failed sink (record out { held = held; put_faults = faults }) ≡ after_put failed sink out
put_again false sink out held faults = refl
put_again true sink out held faults = refl

-- its batch was put, or the put failed
pub went_put : (start : Beginning) (core mid next : CoreState) (now : RunState) (old : OutPart) (batch : Batch)
    (text : List ℕ) (failed : Bool) (sink : Carried) → old.output < length core.setup.outputs → core.raw ≡ []
    → BeginsNext old.output core mid batch
    → text ≡ batch_text old.format (batch_views (lane_at core.lanes old.output)) →
    old.output < length now.outs → out_at now.outs old.output ≡ old
    → IsPut failed (change old.held sink.bytes old.put_faults sink.faults) text
    → next ≡ after_done mid old.output (not failed) → Continues mid next (done_entry mid old.output (not failed)) →
    Progress start (record now { core = core }) → Progress start (record now {
      core = next;
      outs = set now.outs old.output (after_put failed sink old);
      still = still_done (not failed) now.still;
    })
went_put start core mid next now old batch text false sink within routed begins spelled b at put done ends w =
    went_accepted start core mid next now old (after_put false sink old) batch text within routed begins.batch_is
    spelled refl put.1 begins.after begins.continues b at refl refl done ends put.0 w
went_put start core mid next now old batch text true sink within routed begins spelled b at put done ends w =
    went_failed start core mid next now old (after_put true sink old) batch text within routed begins.batch_is spelled
    refl put.1 begins.after begins.continues b at Failed refl refl (omega arith) done ends put.0.1 put.0.0 w

-- nothing was put
pub sends_none : (old new : CoreState) (out : OutPart) → new ≡ old → SendsAt (λ still. still) old new out out
sends_none old new out core = λ outs b at start now w.
    let same : set outs out.output out ≡ outs = subst (λ (x : OutPart). set outs out.output x ≡ outs) at
    (set-get_or outs out.output no_out) in
    subst (λ (all : List OutPart). Progress start (record now { core = new; outs = all })) (sym same)
    (subst (λ (s : CoreState). Progress start (record now { core = s; outs = outs })) (sym core) w)

-- one batch after another
pub sends_more : (count more : ℕ → ℕ) (old mid new : CoreState) (out mid_out new_out : OutPart)
    → mid_out.output ≡ out.output → SendsAt count old mid out mid_out → SendsAt more mid new mid_out new_out
    → SendsAt (λ still. more (count still)) old new out new_out
sends_more count more old mid new out mid_out new_out number first second = λ outs b at start now w.
    let i : ℕ = out.output in
    let l : mid_out.output < length (set outs i mid_out) = omega (arith, b, number, length-set outs i mid_out) in
    let here : out_at (set outs i mid_out) mid_out.output ≡ mid_out =
    ap (out_at (set outs i mid_out)) number ∙ get_or-set_same outs i mid_out no_out b in
    let twice : set (set outs i mid_out) mid_out.output new_out ≡ set outs i new_out =
    ap (λ (k : ℕ). set (set outs i mid_out) k new_out) number ∙ set-set outs i mid_out new_out in
    subst (λ (all : List OutPart). Progress start (record now
    { core = new; outs = all; still = more (count now.still) })) twice
    (second (set outs i mid_out) l here start (record now { still = count now.still }) (first outs b at start now w))

-- a put to one of the outputs is one to the outputs
pub sends_at : (count : ℕ → ℕ) (old new : CoreState) (i : ℕ) (out new_out : OutPart) (outs : List OutPart)
    → out.output ≡ i → i < length outs → out_at outs i ≡ out → SendsAt count old new out new_out
    → SendsOn count old new outs (set outs i new_out)
sends_at count old new i out new_out outs number b at h =
    subst (λ (k : ℕ). SendsOn count old new outs (set outs k new_out)) number
    (h outs (omega (arith, b, number)) (ap (out_at outs) number ∙ at))

pub sends_then : (count more : ℕ → ℕ) (old mid new : CoreState) (outs mid_outs new_outs : List OutPart)
    → SendsOn count old mid outs mid_outs → SendsOn more mid new mid_outs new_outs
    → SendsOn (λ still. more (count still)) old new outs new_outs
sends_then count more old mid new outs mid_outs new_outs first second = λ start now w.
    second start (record now { still = count now.still }) (first start now w)

-- of what was sent it may be said that fewer batches failed
pub sends_fewer : (count few : ℕ → ℕ) (old new : CoreState) (outs new_outs : List OutPart)
    → ((still : ℕ) → few still ≤ count still) → SendsOn count old new outs new_outs → SendsOn few old new outs new_outs
sends_fewer count few old new outs new_outs less h = λ start now w.
    went_fewer start (record now { core = new; outs = new_outs; still = count now.still }) (few now.still)
    (less now.still) (h start now w)

pub sends_fewer_at : (count few : ℕ → ℕ) (old new : CoreState) (out new_out : OutPart)
    → ((still : ℕ) → few still ≤ count still) → SendsAt count old new out new_out → SendsAt few old new out new_out
sends_fewer_at count few old new out new_out less h = λ outs b at.
    sends_fewer count few old new outs (set outs out.output new_out) less (h outs b at)

-- how many failed behind so many batches that were accepted
abbrev pub still_from : ℕ → ℕ → ℕ
still_from batch still = if batch == 0 then still else 0

pub from_more : (batch still other : ℕ) → still_from (batch + 1) still ≤ other
from_more batch still other =
    let apart : ((batch + 1) == 0) ≡ false = differs (batch + 1) 0 (λ e. omega (arith, e)) in
    let none : still_from (batch + 1) still ≡ 0 = ap (λ (b : Bool). if b then still else 0) apart in
    omega (arith, none)

-- one more failed behind them, or none was left
pub flushed_fewer : (batch still : ℕ) (emptied : Bool)
    → still_flushed (record { emptied = emptied; accepted = not (batch == 0) }) still
    ≤ (if emptied then still_from batch still else still_from batch still + 1)
flushed_fewer batch still emptied = by_mark (batch == 0) emptied
  where
    by_mark : (none emptied : Bool) → still_flushed (record { emptied = emptied; accepted = not none }) still
        ≤ (if emptied then (if none then still else 0) else (if none then still else 0) + 1)
    by_mark true true = omega arith
    by_mark true false = omega arith
    by_mark false true = omega arith
    by_mark false false = omega arith

-- of batches of one output more fewer may be said to have failed than of each
pub flushed_both : (sweep flush : Flush) (emptied accepted : Bool) (still : ℕ) → emptied ≡ (sweep.emptied
    && flush.emptied)
    → accepted ≡ (sweep.accepted || flush.accepted)
    → still_flushed (record { emptied = emptied; accepted = accepted }) still
    ≤ still_flushed flush (still_flushed sweep still)
flushed_both sweep flush emptied accepted still e a =
    subst (λ (x : Bool). still_flushed (record { emptied = emptied; accepted = x }) still
    ≤ still_flushed flush (still_flushed sweep still)) (sym a)
    (subst (λ (x : Bool). still_flushed (record { emptied = x; accepted = sweep.accepted || flush.accepted }) still
    ≤ still_flushed flush (still_flushed sweep still)) (sym e)
    (by_marks sweep.emptied sweep.accepted flush.emptied flush.accepted))
  where
    by_marks : (p q r s : Bool) → still_flushed (record { emptied = p && r; accepted = q || s }) still
        ≤ still_flushed (record { emptied = r; accepted = s }) (still_flushed
        (record { emptied = p; accepted = q }) still)
    by_marks true true r s = omega arith
    by_marks false true r s = omega arith
    by_marks p false r true = omega arith
    by_marks true false true false = omega arith
    by_marks true false false false = omega arith
    by_marks false false true false = omega arith
    by_marks false false false false = omega arith
