-- A run of a configuration over generated inputs.
use Rattle.std.proofs.Common.{◌≡◌, ◌≤◌, ◌<◌, ℕ, zero, suc, List, [], ◌∷◌, length, map, refl, sym, ap, ◌∙◌, subst}
use Rattle.std.proofs.Common.{inl, inr, arith, Some}
use Rattle.std.specs.Prelude.{◌≢◌, ◌⊎◌, All, Contains, String}
use Rattle.std.specs.declared.alloc.Global.{Global}
use Rattle.std.proofs.lemmas.List.{length-map}
use Rattle.agent_base.specs.Carried.{Carried, Timed}
use Rattle.agent_base.specs.Counts.{Rose}
use Rattle.agent_base.specs.Places.{Rest, SameAtAll}
use Rattle.agent_base.specs.Views.{WorldView}
use Rattle.agent_config.specs.declared.config.Config.{Config}
use Rattle.agent_config.specs.declared.config.InputConf.{InputConf}
use Rattle.agent_config.specs.declared.config.OutputConf.{OutputConf}
use Rattle.agent_workers.specs.Job.{rule_by}
use Rattle.agent_workers.specs.Opened.{Carries, Times, change_by, config_ins}
use Rattle.agent_workers.specs.Run.{InRun, change, out_run_at, run_at}
use Rattle.agent_config.specs.Faults.{text_faults}
use Rattle.agent_run.specs.Agent.{NamesConfig}
use Rattle.agent_run.specs.Command.{IsCheck, IsGen, IsPipe, IsRunAt, NamesNoConfig}
use Rattle.agent_run.specs.Configured.{IsReadAt, IsRunUnread, NeitherFailed}
use Rattle.agent_run.specs.Generated.{generated_moments}
use Rattle.agent_run.specs.Generating.{EndsGenerated, GenEnds, IsOutRefusedBy, SaysGen, clock_given, clocks_given}
use Rattle.agent_run.specs.Generating.{generated_change, generated_ins, sources_given, text_given, unfailing}
use Rattle.agent_run.specs.Headline.{Ends, IsReadFault, NothingRose, WorldChange, report_change, world_outs}
use Rattle.agent_run.specs.PlaceLists.{AreOpened, out_places}
use Rattle.agent_run.specs.Places.{IsUnopened, ReportsLine, open_fault_line}
use Rattle.agent_run.specs.Running.{IsOpenedSame, OnlyWritten, left_with}
use Rattle.agent_run.specs.declared.status.Status.{Status}
use Rattle.agent_run.specs.declared.status.Status.TheVariants as statuses
use Rattle.agent_run.proofs.HeadlineLemmas.{NoneRose, done_or_short, never_usage}
use Rattle.agent_run.proofs.PlaceLemmas.{unopened_along}
use Rattle.agent_run.proofs.RunCallLemmas.{nothing_since, opened_since, read_faulty, unread_faulty, unread_run}
use Rattle.agent_run.proofs.RunCallLemmas.{unrun_never_usage}
use Rattle.agent_run.proofs.RunningLemmas.{written_runs}

-- ---- the sources and the clocks

-- each clock is at its first moment
given_first : {T : Type 0} (parts : List T) → All (λ (clock : Timed). clock.next ≡ 0) (clocks_given parts)
given_first [] k d l = absurd (omega (arith, l))
given_first (part ∷ parts) zero d l = refl
given_first (part ∷ parts) (suc k) d l = given_first parts k d (omega (arith, l))

pub all_given_first : {T : Type 0} (clocks : List Timed) (parts : List T) → clocks ≡ clocks_given parts
    → All (λ (clock : Timed). clock.next ≡ 0) clocks
all_given_first clocks parts e = subst (All (λ (clock : Timed). clock.next ≡ 0)) (sym e) (given_first parts)

-- ---- the inputs

-- inputs with what they are given, and with generated clocks, as a run leaves them
generated_ins_are : (config : Config) (lines : ℕ) (confs : List InputConf) (left : List (List ℕ))
    → length left ≡ length confs
    → config_ins config confs (sources_given lines confs) (map unfailing left) (clocks_given confs)
    ≡ generated_ins config lines confs left
unfolding config_ins generated_ins
generated_ins_are config lines [] left count = refl
generated_ins_are config lines (conf ∷ confs) [] count = absurd (omega (arith, count))
generated_ins_are config lines (conf ∷ confs) (bytes ∷ left) count =
    ap (λ (runs : List InRun). let run : InRun = record {
      rule = rule_by config conf;
      place = change (Some (text_given lines conf)) (Some bytes) 0 0;
      moments = Some generated_moments;
    } in run ∷ runs) (generated_ins_are config lines confs left (omega (arith, count)))

-- no read of theirs failed
ins_unrisen : (config : Config) (lines : ℕ) (confs : List InputConf) (left : List (List ℕ)) → length left ≡ length confs
    → (k : ℕ) → k < length confs → Rose (run_at (generated_ins config lines confs left) k).place.faults_before
    (run_at (generated_ins config lines confs left) k).place.faults_after → ⊥
unfolding generated_ins
ins_unrisen config lines [] left count k l rose = absurd (omega (arith, l))
ins_unrisen config lines (conf ∷ confs) [] count k l rose = absurd (omega (arith, count))
ins_unrisen config lines (conf ∷ confs) (bytes ∷ left) count zero l rose = absurd (omega (arith, rose))
ins_unrisen config lines (conf ∷ confs) (bytes ∷ left) count (suc k) l rose =
    ins_unrisen config lines confs left (omega (arith, count)) k (omega (arith, l)) rose

-- a run of whose inputs no count rose doesn't end with a failed read
never_broken : (config : Config) (x : WorldChange)
    → ((k : ℕ) → k < length config.inputs → Rose (run_at x.run.ins k).place.faults_before
    (run_at x.run.ins k).place.faults_after → ⊥) → (status : Status) → Ends config x status
    → status ≢ statuses.ReadFault
never_broken config x none status ends e =
    let fault : IsReadFault config x = subst (Ends config x) e ends in
    none fault.number fault.known (elim fault.broken.broken_off [ inl short ↦ short.0 | inr both ↦ both.0 ])

-- ---- a run

module _ (config : Config) (lines : ℕ) (status : Status) (start last : WorldView) where
  -- what a run left says how it ended
  ends_so : (left : List (List ℕ)) → length left ≡ length config.inputs
      → Ends config (generated_change config lines left start last) status
      → EndsGenerated config lines start last status
  ends_so left count ends = record {
    left = left;
    count = count;
    ends = ends;
    unbroken = never_broken config (generated_change config lines left start last)
        (ins_unrisen config lines config.inputs left count) status ends;
  }

  -- so it is where memory was short
  pub short_generated : status ≡ statuses.OutOfMemory → EndsGenerated config lines start last status
  short_generated short = ends_so (map (λ (conf : InputConf). text_given lines conf) config.inputs)
      (length-map config.inputs (λ (conf : InputConf). text_given lines conf)) (rw short tt)

  -- a run over the sources, the clocks, and the opened parts that are written
  pub ends_generated : (opened_at : WorldView) (opened : Carries) (times : Times) (left : List (List ℕ))
      → AreOpened (out_places config) (opened.journal ∷ opened.sinks) start.outs opened_at.outs
      → opened_at.report ≡ start.report
      → opened.sources ≡ sources_given lines config.inputs → times.ins ≡ clocks_given config.inputs
      → times.timer ≡ clock_given → length left ≡ length config.inputs →
      Ends config (record {
        run = change_by config opened (left_with config (map unfailing left) last) times;
        report = report_change opened_at.report last.report;
      }) status → EndsGenerated config lines start last status
  ends_generated opened_at opened times left outputs report sources_are clocks_are timer_is count ends =
      ends_so left count (written_runs config status start opened_at last opened outputs times (map unfailing left)
      opened_at.report (generated_ins config lines config.inputs left) (Some generated_moments) report
      (ap (λ (xs : List Carried). config_ins config config.inputs xs (map unfailing left) times.ins) sources_are
      ∙ ap (λ (xs : List Timed). config_ins config config.inputs (sources_given lines config.inputs)
      (map unfailing left) xs) clocks_are
      ∙ generated_ins_are config lines config.inputs left count)
      (ap (λ (t : Timed). t.moments) timer_is) ends)

-- a place wasn't opened, and the line that names it was reported
pub refused_so : (config : Config) (status : Status) (place : List ℕ) (old mid last : WorldView)
    → Contains (out_places config) place × IsUnopened place old.outs mid.outs → mid.report ≡ old.report
    → SameAtAll mid.outs last.outs →
    ((status ≡ statuses.OpenFault) × ReportsLine mid.report last.report (open_fault_line place))
    ⊎ (status ≡ statuses.OutOfMemory) → status ≡ statuses.OpenFault → IsOutRefusedBy config old last
refused_so config status place old mid last refused report same (inl told_so) e = record {
  place = place;
  known = refused.0;
  unopened = unopened_along place old.outs old.outs mid.outs last.outs (λ q. refl) refused.1 same;
  told = subst (λ (r : Rest). ReportsLine r last.report (open_fault_line place)) report told_so.1;
}
refused_so config status place old mid last refused report same (inr short) e =
    absurd (let x : statuses.OutOfMemory ≡ statuses.OpenFault = sym short ∙ e in cc)

-- ---- a run without a count that rose

outs_unrisen : (confs : List OutputConf) (old new : WorldView) → NothingRose old new → (k : ℕ) → k < length confs
    → Rose (out_run_at (world_outs confs old new) k).place.faults_before
    (out_run_at (world_outs confs old new) k).place.faults_after → ⊥
unfolding world_outs
outs_unrisen [] old new nothing k l rose = absurd (omega (arith, l))
outs_unrisen (conf ∷ confs) old new nothing zero l rose = nothing.outs_used conf.place rose
outs_unrisen (conf ∷ confs) old new nothing (suc k) l rose =
    outs_unrisen confs old new nothing k (omega (arith, l)) rose

none_rose : (config : Config) (lines : ℕ) (left : List (List ℕ)) (old new : WorldView)
    → length left ≡ length config.inputs → NothingRose old new
    → NoneRose config (generated_change config lines left old new)
none_rose config lines left old new count nothing = record {
  ins = ins_unrisen config lines config.inputs left count;
  outs = outs_unrisen config.outputs old new nothing;
  journal = nothing.outs_used config.agent.journal;
  report = nothing.reported;
}

-- ---- a run of the configuration of a place

module _ (status : Status) (lines : ℕ) (place : List ℕ) (config : Config) (old mid last : WorldView)
    (read : IsReadAt place config old mid) (refused : status ≡ statuses.OpenFault → IsOutRefusedBy config mid last)
    (ends : (status ≢ statuses.OpenFault) → EndsGenerated config lines mid last status) where
  pub generated : ((status ≢ statuses.OpenFault) → (status ≢ statuses.OutOfMemory) → IsOpenedSame mid last)
      → OnlyWritten config mid last → SaysGen status lines place old last
  generated opened only = inr (record {
    config = config;
    mid = mid;
    read = read;
    refused = refused;
    ends = ends;
    opened = λ o s. opened_since status place config old mid last read (opened o s);
    only = only;
    clocks = λ who. only.clocks who ∙ read.only.clocks who;
  })

  pub generated_completes : 1 ≤ config.agent.final_tries → NothingRose old last → (status ≢ statuses.Limit)
      → (status ≡ statuses.Done) ⊎ (status ≡ statuses.OutOfMemory)
  generated_completes some nothing limit =
      let since = nothing_since status place config old mid last read nothing in
      let ran = ends (λ e. since.outs_opened (refused e).place (refused e).unopened.failed.rose) in
      done_or_short config (generated_change config lines ran.left mid last) some
      (none_rose config lines ran.left mid last ran.count since) status ran.ends limit

-- ---- a command

pub gen_never_usage : (status : Status) (lines : ℕ) (place : List ℕ) (old last : WorldView)
    → SaysGen status lines place old last → status ≡ statuses.Usage → ⊥
gen_never_usage status lines place old last (inl h) e = unrun_never_usage status place old last h e
gen_never_usage status lines place old last (inr h) e =
    let ran = h.ends (λ o. let x : statuses.Usage ≡ statuses.OpenFault = sym e ∙ o in cc) in
    never_usage h.config (generated_change h.config lines ran.left h.mid last) status ran.ends e

pub gen_faulty : (status : Status) (lines : ℕ) (place bytes : List ℕ) (old last : WorldView)
    → SaysGen status lines place old last → (old.ins place).bytes ≡ Some bytes → (text_faults bytes ≢ [])
    → NeitherFailed (old.ins place) (last.ins place) → (status ≡ statuses.Config) ⊎ (status ≡ statuses.OutOfMemory)
gen_faulty status lines place bytes old last (inl h) told faulty n = unread_faulty status place old last h.answer n
gen_faulty status lines place bytes old last (inr h) told faulty n =
    absurd (read_faulty place bytes h.config old h.mid h.read told faulty)

-- what a run over generated inputs left that wasn't refused
pub gen_ends : (status : Status) (words : List (String Global)) (lines : ℕ) (place : List ℕ) (old last : WorldView)
    → IsGen words lines place → SaysGen status lines place old last → (status ≢ statuses.Config)
    → (status ≢ statuses.OpenFault) → (status ≢ statuses.OutOfMemory)
    → GenEnds status words old last ⊎ IsRunUnread status words old last
gen_ends status words lines place old last command (inr h) config shut short =
    inl (record { lines = lines; place = place; command = command; ran = h })
gen_ends status words lines place old last command (inl h) config shut short =
    inr (unread_run status words place old last (inr (lines, command)) h config shut short)

-- words are no two commands
pub pipe_or_gen : (words : List (String Global)) (input output : List ℕ) (batch limit lines : ℕ) (place : List ℕ)
    → IsPipe words input output batch limit → IsGen words lines place → ⊥
pipe_or_gen words input output batch limit lines place p h =
    let lengths : 5 ≡ 3 = ap length (sym p.words_are ∙ h.words_are) in
    absurd (omega (arith, lengths))

pub check_or_gen : (words : List (String Global)) (lines : ℕ) (place other : List ℕ) → IsCheck words other
    → IsGen words lines place → ⊥
check_or_gen words lines place other e h =
    let lengths : 2 ≡ 3 = ap length (sym e ∙ h.words_are) in
    absurd (omega (arith, lengths))

pub run_or_gen : (words : List (String Global)) (lines : ℕ) (place other : List ℕ) → IsRunAt words other
    → IsGen words lines place → ⊥
run_or_gen words lines place other e h =
    let lengths : 2 ≡ 3 = ap length (sym e ∙ h.words_are) in
    absurd (omega (arith, lengths))

-- words that name no configuration name none
pub names_none : (words : List (String Global)) (place : List ℕ) → NamesNoConfig words → NamesConfig words place → ⊥
names_none words place none (inl check) = none.no_check place check
names_none words place none (inr (inl run)) = none.no_run place run
names_none words place none (inr (inr gen)) = none.no_gen gen.0 place gen.1
