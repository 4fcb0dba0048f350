-- What each status of a run says.
use Rattle.std.proofs.Common.{◌≡◌, ◌≤◌, ◌<◌, ◌+◌, ℕ, zero, suc, ℤ, ◌^◌, Bool, true, false, List, [], ◌∷◌, length, refl}
use Rattle.std.proofs.Common.{ap, subst, inl, inr, arith, cond, replicate, ◌++◌}
use Rattle.std.specs.Prelude.{◌≢◌, not, ◌⊎◌, ◌||◌, count_by, IfOk, Ok, Result}
use Rattle.fixed_num.specs.declared.memory.OutOfMemory.{OutOfMemory}
use Rattle.std.proofs.lemmas.Bool.{cases_Bool}
use Rattle.std.proofs.lemmas.List.Sums.{sum_by-append}
use Rattle.account.specs.Setup.{Setup}
use Rattle.account.specs.declared.entry.Entry.{Entry}
use Rattle.account.specs.declared.entry.Entry.TheVariants.{Gather, Ended, Take, Route, Tick, Stop, Begin, Done}
use Rattle.agent_base.specs.Counts.{Rose, RoseBy}
use Rattle.agent_config.specs.declared.config.Config.{Config}
use Rattle.account.specs.Dones.{dones, dones_by, failed_count, LastFailed}
use Rattle.pipeline_core.specs.Legal.{AreLegal, Meets, has_ended}
use Rattle.pipeline_core.specs.Stopped.{behind_stop}
use Rattle.pipeline_core.proofs.CopyCounts.{count-append, count-cons}
use Rattle.pipeline_core.proofs.CopySteps.{one_if}
use Rattle.pipeline_core.proofs.Keeping.{same_number}
use Rattle.pipeline_core.proofs.StopLemmas.{behind_fewer}
use Rattle.std.proofs.lemmas.List.{length-map}
use Rattle.agent_workers.specs.Held.{has_failed, IsHeldBack}
use Rattle.agent_workers.specs.Job.{job_of, job_input, job_output, setup_of, output_sizes}
use Rattle.agent_workers.specs.Inputs.{IsOneOf}
use Rattle.agent_workers.specs.Run.{Change, run_at, out_run_at, Ran, RunChange, RunsFull, SomeIsFull, EndsSo, IsPutSo}
use Rattle.agent_workers.specs.Run.{Course, course_of, IsLeft, SomeIsLeft, account_of, text_of}
use Rattle.agent_workers.proofs.HeldLemmas.{none_living}
use Rattle.formats.specs.declared.pieces.InState.{InState}
use Rattle.formats.specs.declared.pieces.InState.TheVariants as states
use Rattle.agent_workers.specs.declared.rounds.Ending.{Ending}
use Rattle.agent_run.specs.Headline.{WorldChange, IsRunOf, Headline, IsWhole, IsBroken, IsHeld, IsReportFault, Ends}
use Rattle.agent_run.specs.Headline.{course_in, IsDone, SomeIsBuffered, SomeIsHeld}
use Rattle.agent_run.specs.Headline.{NothingRose, status_of, place_change, world_change, world_ins, world_outs}
use Rattle.agent_base.specs.Views.{WorldView}
use Rattle.agent_config.specs.declared.config.InputConf.{InputConf}
use Rattle.agent_config.specs.declared.config.OutputConf.{OutputConf}
use Rattle.agent_run.specs.PlaceLists.{place_at, places_in, places_out}
use Rattle.agent_run.specs.Running.{IsRefusedBy}
use Rattle.agent_run.specs.declared.status.Status.{Status}
use Rattle.agent_run.specs.declared.status.Status.TheVariants as statuses

module _ (config : Config) (x : WorldChange) where
  -- how many outputs the set-up has
  within : (start : ℤ) (o : ℕ) → o < length config.outputs → o < length (setup_of (job_of config) start).outputs
  within start o b =
      omega (arith, b, length-map config.outputs job_output, length-map (job_of config).outputs output_sizes)

  within_back : (start : ℤ) (o : ℕ) → o < length (setup_of (job_of config) start).outputs → o < length config.outputs
  within_back start o b =
      omega (arith, b, length-map config.outputs job_output, length-map (job_of config).outputs output_sizes)

  -- the run isn't full where no limit was reached
  not_full : (journal : List Entry) → RunsFull false x.run.ins journal → ⊥
  not_full journal h = let e : false ≡ true = h.0 in cc

  -- how an input of a run ended that reached no limit
  module _ (headline : Headline config x false false) where
    abbrev EndedSo : ℕ → InState → Type 0
    EndedSo k state = EndsSo false (course_in config x headline) k state (headline.run.has.taken k)

    was_whole : (k : ℕ) → EndedSo k states.Ended → IsWhole config x headline k
    was_whole k h = record { few = h.0; ended = h.1 }

    was_broken : (k : ℕ) → EndedSo k states.Faulted → IsBroken config x headline k
    was_broken k h = record {
      few = h.0;
      unended = h.1;
      broken_off = elim h.2 [ inl off ↦ off | inr full ↦ absurd (not_full headline.journal full) ];
    }

    was_held : (k : ℕ) → EndedSo k states.Reading → IsHeld config x headline k
    was_held k h = record {
      few = h.0;
      unended = h.1;
      held = elim h.2 [ inl full ↦ absurd (not_full headline.journal full) | inr stays ↦ stays ];
    }

    in_one : (all : ℕ → InState) (state : InState) (one : IsOneOf state (length config.inputs) all true)
        → ((k : ℕ) → k < length config.inputs → EndedSo k (all k)) → EndedSo one.0 state
    in_one all state one each = subst (EndedSo one.0) one.2 (each one.0 one.1)

    is_whole : (k : ℕ) (state : InState) → (state ≢ states.LimitReached) → (state ≢ states.Faulted)
        → (state ≢ states.Reading) → EndedSo k state → IsWhole config x headline k
    is_whole k states.Ended l f r h = was_whole k h
    is_whole k states.Reading l f r h = absurd (r refl)
    is_whole k states.Faulted l f r h = absurd (f refl)
    is_whole k states.LimitReached l f r h = absurd (l refl)

    whole_or_held : (k : ℕ) (state : InState) → (state ≢ states.LimitReached) → (state ≢ states.Faulted)
        → EndedSo k state → IsWhole config x headline k ⊎ IsHeld config x headline k
    whole_or_held k states.Ended l f h = inl (was_whole k h)
    whole_or_held k states.Reading l f h = inr (was_held k h)
    whole_or_held k states.Faulted l f h = absurd (f refl)
    whole_or_held k states.LimitReached l f h = absurd (l refl)

    one_of_three : (k : ℕ) (state : InState) → (state ≢ states.LimitReached) → EndedSo k state
        → IsWhole config x headline k ⊎ IsBroken config x headline k ⊎ IsHeld config x headline k
    one_of_three k states.Ended l h = inl (was_whole k h)
    one_of_three k states.Faulted l h = inr (inl (was_broken k h))
    one_of_three k states.Reading l h = inr (inr (was_held k h))
    one_of_three k states.LimitReached l h = absurd (l refl)

    some_left : (all : ℕ → InState) → ((k : ℕ) → k < length config.inputs → EndedSo k (all k))
        → IsLeft true (setup_of (job_of config) headline.start) headline.journal (length config.inputs) all
        → SomeIsBuffered config x headline ⊎ SomeIsHeld config x headline
    some_left all each (inl l) = inl (l.0, within_back headline.start l.0 l.1, l.2)
    some_left all each (inr one) = inr (one.0, one.1, was_held one.0 (in_one all states.Reading one each))

    -- where no metric is left at an output no group is live
    done : ((k : ℕ) → k < length config.inputs → IsWhole config x headline k)
        → SomeIsLeft false (setup_of (job_of config) headline.start) headline.journal → IsDone config x
    done whole left = record {
      headline = headline;
      whole = whole;
      none_left = λ o b. left o (within headline.start o b);
      none_live = λ k b. none_living (setup_of (job_of config) headline.start) headline.journal
          headline.run.has.legal headline.run.has.none_raw headline.run.has.none_held left k;
    }

  module _ (start : ℤ) (journal : List Entry) (run : IsRunOf config x start journal) where
    abbrev headline_of : (journal_failed report_failed : Bool) → IsPutSo journal_failed x.run.journal
        (text_of (setup_of (job_of config) start) journal) → IsPutSo report_failed x.report
        (account_of (setup_of (job_of config) start) journal) → Headline config x journal_failed report_failed
    headline_of journal_failed report_failed put report = record
        { start = start; journal = journal; run = run; noted = put; reported = report }

    abbrev course : Course
    course = course_of (job_of config) start x.run.ins journal

    limited : (k : ℕ) (state : InState) → state ≡ states.LimitReached
        → EndsSo true course k state (run.has.taken k)
        → (has_ended k journal ≡ false) × ((run.has.taken k ≡ 2 ^ 40) ⊎ SomeIsFull x.run.ins journal)
    limited k states.LimitReached e h = (h.0, elim h.1 [ inl many ↦ inl many | inr full ↦ inr full.1 ])
    limited k states.Reading e h = absurd (let y : states.Reading ≡ states.LimitReached = e in cc)
    limited k states.Ended e h = absurd (let y : states.Ended ≡ states.LimitReached = e in cc)
    limited k states.Faulted e h = absurd (let y : states.Faulted ≡ states.LimitReached = e in cc)

    few_of : (k : ℕ) (state : InState) → (state ≢ states.LimitReached)
        → EndsSo false course k state (run.has.taken k) → run.has.taken k < 2 ^ 40
    few_of k states.Reading l h = h.0
    few_of k states.Ended l h = h.0
    few_of k states.Faulted l h = h.0
    few_of k states.LimitReached l h = absurd (l refl)

    report_fault : (journal_failed report_failed : Bool) → (journal_failed ≡ true) ⊎ (report_failed ≡ true)
        → IsPutSo journal_failed x.run.journal (text_of (setup_of (job_of config) start) journal)
        → IsPutSo report_failed x.report (account_of (setup_of (job_of config) start) journal)
        → ((k : ℕ) → k < length config.inputs → run.has.taken k < 2 ^ 40) → IsReportFault config x
    report_fault journal_failed report_failed either put report few = record {
      journal_failed = journal_failed;
      report_failed = report_failed;
      headline = headline_of journal_failed report_failed put report;
      few = few;
      failed = either;
    }

    -- the status that a run ends with says what it left
    pub ends_of : (limit_reached fault : Bool) (state : ℕ → InState) (journal_failed failed left : Bool)
        → IsOneOf states.LimitReached (length config.inputs) state limit_reached
        → IsOneOf states.Faulted (length config.inputs) state fault →
        ((k : ℕ) → k < length config.inputs → EndsSo limit_reached course k (state k) (run.has.taken k))
        → IsLeft left (setup_of (job_of config) start) journal (length config.inputs) state
        → IsPutSo journal_failed x.run.journal (text_of (setup_of (job_of config) start) journal)
        → IsPutSo failed x.report (account_of (setup_of (job_of config) start) journal)
        → Ends config x (status_of limit_reached fault (journal_failed || failed) left)
    ends_of true fault state journal_failed failed left one some e l put report =
        let h = limited one.0 (state one.0) one.2 (e one.0 one.1) in
        record {
          journal_failed = journal_failed;
          report_failed = failed;
          headline = headline_of journal_failed failed put report;
          number = one.0;
          known = one.1;
          unended = h.0;
          reached = h.1;
        }
    ends_of false true state true failed left none some e l put report =
        report_fault true failed (inl refl) put report (λ k b. few_of k (state k) (none k b) (e k b))
    ends_of false false state true failed left none some e l put report =
        report_fault true failed (inl refl) put report (λ k b. few_of k (state k) (none k b) (e k b))
    ends_of false true state false true left none some e l put report =
        report_fault false true (inr refl) put report (λ k b. few_of k (state k) (none k b) (e k b))
    ends_of false false state false true left none some e l put report =
        report_fault false true (inr refl) put report (λ k b. few_of k (state k) (none k b) (e k b))
    ends_of false true state false false left none some e l put report =
        let headline : Headline config x false false = headline_of false false put report in
        record {
          headline = headline;
          each = λ k b. one_of_three headline k (state k) (none k b) (e k b);
          number = some.0;
          known = some.1;
          broken = was_broken headline some.0 (in_one headline state states.Faulted some e);
        }
    ends_of false false state false false true none unfaulted e l put report =
        let headline : Headline config x false false = headline_of false false put report in
        record {
          headline = headline;
          each = λ k b. whole_or_held headline k (state k) (none k b) (unfaulted k b) (e k b);
          some_left = some_left headline state e l;
        }
    ends_of false false state false false false none unfaulted e l put report =
        let headline : Headline config x false false = headline_of false false put report in
        done headline (λ k b. is_whole headline k (state k) (none k b) (unfaulted k b) (l.1 k b) (e k b)) l.0

-- a run that was reported
module _ (config : Config) (run : RunChange) (reported : Change) where
  -- what it left
  abbrev pub left : WorldChange
  left = record { run = run; report = reported }

  ran_ends : (ending : Ending) (failed : Bool) → Ran (job_of config) ending run
      → IsPutSo failed reported ending.account.items → Ends config left
      (status_of ending.limit ending.read_fault (ending.journal_fault || failed) ending.left)
  ran_ends ending failed r report =
      let same : length (job_of config).inputs ≡ length config.inputs = length-map config.inputs (job_input config) in
      ends_of config left r.start r.journal r.run ending.limit ending.read_fault r.state ending.journal_fault failed
      ending.left
      (subst (λ (n : ℕ). IsOneOf states.LimitReached n r.state ending.limit) same r.limit)
      (subst (λ (n : ℕ). IsOneOf states.Faulted n r.state ending.read_fault) same r.read_fault)
      (λ k b. r.ends k (omega (arith, b, same)))
      (subst (λ (n : ℕ). IsLeft ending.left (setup_of (job_of config) r.start) r.journal n r.state) same r.left) r.noted
      (subst (IsPutSo failed reported) r.account report)

  pub reported_ends : (ending : Ending) (status : Status) → Ran (job_of config) ending run →
      (status ≡ statuses.OutOfMemory) ⊎ ((failed : Bool) × (status ≡ status_of ending.limit ending.read_fault
      (ending.journal_fault || failed) ending.left) × IsPutSo failed reported ending.account.items)
      → Ends config left status
  reported_ends ending status r (inl short) = rw short tt
  reported_ends ending status r (inr so) = rw so.1 (ran_ends ending so.0 r so.2)

-- ---- without a count that rose

count_false : (n : ℕ) → count_by not (replicate n false) ≡ n
count_false zero = refl
count_false (suc n) = omega (
  arith,
  count_false n,
  sum_by-append (λ (b : Bool). cond (not b) 1 0) (false ∷ [])
      (replicate n false),
)

failed_some : (n : ℕ) (all : List Bool) → 1 ≤ n → LastFailed n all → 1 ≤ count_by not all
failed_some n all some h = omega (
  arith,
  some,
  ap (λ (bs : List Bool). count_by not bs) h.is,
  sum_by-append (λ (b : Bool). cond (not b) 1 0) h.front (replicate n false),
  count_false n,
)

rose_of : (n a b : ℕ) → 1 ≤ n → RoseBy n a b → Rose a b
rose_of n a b some r = omega arith

-- the batches of an output that failed, with an entry more in front
failed_first : (output : ℕ) (e : Entry) (es : List Entry)
    → failed_count output (e ∷ es) ≡ count_by not (dones_by output e) + failed_count output es
unfolding dones
failed_first output e es =
    sum_by-append (λ (b : Bool). cond (not b) 1 0) (dones_by output e) (dones output es)

-- a batch that failed did so at an output that is there
failed_there : (setup : Setup) (before : List Entry) (e : Entry) → Meets setup before e → has_failed e ≡ true
    → (output : ℕ) × (output < length setup.outputs) × (1 ≤ count_by not (dones_by output e))
failed_there setup before (Done output false reports) m h =
    (output, m.line.known, rw (same_number output) (let one : 1 ≤ 1 = omega arith in one))
failed_there setup before (Done output true reports) m h = absurd (let x : false ≡ true = h in cc)
failed_there setup before (Gather input moment pieces refused passed filtered metrics group reports) m h =
    absurd (let x : false ≡ true = h in cc)
failed_there setup before (Ended input) m h = absurd (let x : false ≡ true = h in cc)
failed_there setup before (Take item) m h = absurd (let x : false ≡ true = h in cc)
failed_there setup before (Route item whole verdict aggs outs reports) m h = absurd (let x : false ≡ true = h in cc)
failed_there setup before (Tick moment made) m h = absurd (let x : false ≡ true = h in cc)
failed_there setup before (Stop moment made) m h = absurd (let x : false ≡ true = h in cc)
failed_there setup before (Begin output from to) m h = absurd (let x : false ≡ true = h in cc)

-- where a batch failed, some output that is there has one that failed
some_failed : (setup : Setup) (before es : List Entry) → AreLegal setup before es → 1 ≤ count_by has_failed es
    → (output : ℕ) × (output < length setup.outputs) × (1 ≤ failed_count output es)
unfolding AreLegal
some_failed setup before [] legal some = absurd (omega (arith, some))
some_failed setup before (e ∷ es) legal some =
    elim (cases_Bool (has_failed e)) [
      | inl h ↦
          (let there = failed_there setup before e legal.0 h in
          (there.0, there.1, omega (arith, there.2, failed_first there.0 e es)))
      | inr h ↦
          (let none : count_by has_failed (e ∷ es) ≡ count_by has_failed es =
          omega (arith, count-cons has_failed e es, ap one_if h) in
          let later = some_failed setup (before ++ e ∷ []) es legal.1 (omega (arith, some, none)) in
          (later.0, later.1, omega (arith, later.2, failed_first later.0 e es)))
    ]

-- where an input is held back so many batches failed, at least
held_failed : (tries : ℕ) (setup : Setup) (journal : List Entry) (input : ℕ) → IsHeldBack tries setup journal input
    → tries ≤ count_by has_failed journal
held_failed tries setup journal input h =
    omega (
      arith,
      h.failed,
      ap (count_by has_failed) h.are,
      count-append has_failed h.before (h.stretch ++ Stop h.moment h.made ∷ h.behind),
      count-append has_failed h.stretch (Stop h.moment h.made ∷ h.behind),
    )

-- no count of what a run touches rose
pub record NoneRose (config : Config) (x : WorldChange) : Type 0 where
  pub ins : (k : ℕ) → k < length config.inputs → Rose (run_at x.run.ins k).place.faults_before
      (run_at x.run.ins k).place.faults_after → ⊥
  pub outs : (o : ℕ) → o < length config.outputs → Rose (out_run_at x.run.outs o).place.faults_before
      (out_run_at x.run.outs o).place.faults_after → ⊥
  pub journal : Rose x.run.journal.faults_before x.run.journal.faults_after → ⊥
  pub report : Rose x.report.faults_before x.report.faults_after → ⊥

module _ (config : Config) (x : WorldChange) (sound : 1 ≤ config.agent.final_tries) (none : NoneRose config x) where
  -- at no output a batch failed
  no_put_failed : (start : ℤ) (journal : List Entry) (run : IsRunOf config x start journal) (output : ℕ)
      → output < length config.outputs → 1 ≤ failed_count output journal → ⊥
  no_put_failed start journal run output known many =
      let change : Change = (out_run_at x.run.outs output).place in
      none.outs output known (rose_of (failed_count output journal) change.faults_before change.faults_after many
      (run.has.sent_to output (omega (arith, known, length-map config.outputs job_output))).put_faults)

  none_buffered : (headline : Headline config x false false) → SomeIsBuffered config x headline → ⊥
  none_buffered headline left =
      let journal : List Entry = headline.journal in
      let o : ℕ = left.0 in
      let sent = headline.run.has.sent_to o (omega (arith, left.1, length-map config.outputs job_output)) in
      let behind : 1 ≤ failed_count o (behind_stop journal) =
      failed_some config.agent.final_tries (dones o (behind_stop journal)) sound (sent.left left.2) in
      no_put_failed headline.start journal headline.run o left.1 (omega (arith, behind, behind_fewer o journal))

  none_held : (headline : Headline config x false false) → SomeIsHeld config x headline → ⊥
  none_held headline one =
      let journal : List Entry = headline.journal in
      let setup : Setup = setup_of (job_of config) headline.start in
      let many : config.agent.final_tries ≤ count_by has_failed journal =
      held_failed config.agent.final_tries setup journal one.0 one.2.held in
      let some = some_failed setup [] journal headline.run.has.legal (omega (arith, many, sound)) in
      let known : some.0 < length config.outputs = within_back config x headline.start some.0 some.1 in
      no_put_failed headline.start journal headline.run some.0 known some.2

  -- without a count that rose and without a limit a run is done, or memory was short
  pub done_or_short : (status : Status) → Ends config x status → (status ≢ statuses.Limit)
      → (status ≡ statuses.Done) ⊎ (status ≡ statuses.OutOfMemory)
  done_or_short statuses.Done e l = inl refl
  done_or_short statuses.OutOfMemory e l = inr refl
  done_or_short statuses.Left e l = elim e.some_left [
    | inl left ↦ absurd (none_buffered e.headline left)
    | inr one ↦ absurd (none_held e.headline one)
  ]
  done_or_short statuses.ReadFault e l = elim e.broken.broken_off [
    | inl cut ↦ absurd (none.ins e.number e.known cut.0)
    | inr rose ↦ absurd (none.ins e.number e.known rose.0)
  ]
  done_or_short statuses.ReportFault e l =
      elim e.failed [
        | inl j ↦ absurd (none.journal (subst (λ (b : Bool). IsPutSo b x.run.journal
            (text_of (setup_of (job_of config) e.headline.start) e.headline.journal)) j e.headline.noted).0)
        | inr j ↦ absurd (none.report (subst (λ (b : Bool). IsPutSo b x.report
            (account_of (setup_of (job_of config) e.headline.start) e.headline.journal)) j e.headline.reported).0)
      ]
  done_or_short statuses.Limit e l = absurd (l refl)
  done_or_short statuses.Usage e l = absurd e
  done_or_short statuses.Config e l = absurd e
  done_or_short statuses.OpenFault e l = absurd e

module _ (config : Config) (x : WorldChange) (status : Status) where
  -- a run doesn't end so
  pub never_open : Ends config x status → status ≡ statuses.OpenFault → ⊥
  never_open h e = subst (Ends config x) e h

  pub never_usage : Ends config x status → status ≡ statuses.Usage → ⊥
  never_usage h e = subst (Ends config x) e h

  pub never_config : Ends config x status → status ≡ statuses.Config → ⊥
  never_config h e = subst (Ends config x) e h

  -- where memory was short nothing is promised
  pub short_ends : status ≡ statuses.OutOfMemory → Ends config x status
  short_ends e = rw e tt

-- ---- a command

-- a place of a refusal whose count didn't rise
not_refused : (config : Config) (old new : WorldView) → NothingRose old new → IsRefusedBy config old new → ⊥
not_refused config old new nothing refused =
    elim refused.unopened [
      | inl i ↦ nothing.ins_opened refused.place i.1.failed.rose
      | inr o ↦ nothing.outs_opened refused.place o.2.failed.rose
    ]

ins_at : (config : Config) (n : ℕ) (confs : List InputConf) (old new : WorldView) (k : ℕ) → k < length confs
    → (run_at (world_ins config n confs old new) k).place ≡ place_change (old.ins (place_at (places_in confs) k))
    (new.ins (place_at (places_in confs) k))
unfolding world_ins
ins_at config n [] old new k l = absurd (omega (arith, l))
ins_at config n (conf ∷ confs) old new zero l = refl
ins_at config n (conf ∷ confs) old new (suc k) l = ins_at config (n + 1) confs old new k (omega (arith, l))

outs_at : (confs : List OutputConf) (old new : WorldView) (k : ℕ) → k < length confs
    → (out_run_at (world_outs confs old new) k).place ≡ place_change (old.outs (place_at (places_out confs) k))
    (new.outs (place_at (places_out confs) k))
unfolding world_outs
outs_at [] old new k l = absurd (omega (arith, l))
outs_at (conf ∷ confs) old new zero l = refl
outs_at (conf ∷ confs) old new (suc k) l = outs_at confs old new k (omega (arith, l))

none_rose : (config : Config) (old new : WorldView) → NothingRose old new
    → NoneRose config (world_change config old new)
none_rose config old new nothing = record {
  ins = λ k l rose. nothing.ins_used (place_at (places_in config.inputs) k)
      (subst (λ (x : Change). Rose x.faults_before x.faults_after) (ins_at config 0 config.inputs old new k l) rose);
  outs = λ o l rose. nothing.outs_used (place_at (places_out config.outputs) o)
      (subst (λ (x : Change). Rose x.faults_before x.faults_after) (outs_at config.outputs old new o l) rose);
  journal = nothing.outs_used config.agent.journal;
  report = nothing.reported;
}

-- a run that no fault and no limit ended
pub completes : (config : Config) (old new : WorldView) (status : Status) → 1 ≤ config.agent.final_tries
    → (status ≡ statuses.OpenFault → IsRefusedBy config old new)
    → ((status ≢ statuses.OpenFault) → Ends config (world_change config old new) status) →
    NothingRose old new → (status ≢ statuses.Limit) → (status ≡ statuses.Done) ⊎ (status ≡ statuses.OutOfMemory)
completes config old new status some refused ends nothing l =
    done_or_short config (world_change config old new) some (none_rose config old new nothing) status
    (ends (λ e. not_refused config old new nothing (refused e))) l
