-- What running a configuration leaves of a world.
use Rattle.std.proofs.Common.{◌≡◌, ◌<◌, ◌≤◌, ◌+◌, ℕ, suc, List, [], ◌∷◌, length, get_or, refl, sym, ap, ◌∙◌}
use Rattle.std.proofs.Common.{subst, inl, inr, arith, Option}
use Rattle.std.specs.Prelude.{◌⊎◌, All, Contains, Err, IfOk, None, Ok, OnErr, Result}
use Rattle.fixed_num.specs.declared.memory.OutOfMemory.{OutOfMemory}
use Rattle.std.proofs.lemmas.List.{length-map, get_or-map, get_or_default}
use Rattle.agent_base.specs.Moments.{Moments}
use Rattle.agent_base.specs.Places.{Place, Rest, SameAtAll, AreHome, Opens, TakesIn}
use Rattle.agent_base.specs.Views.{WorldView, SameButAt}
use Rattle.agent_config.specs.declared.config.Config.{Config}
use Rattle.agent_config.specs.declared.config.InputConf.{InputConf}
use Rattle.agent_config.specs.declared.config.OutputConf.{OutputConf}
use Rattle.agent_base.specs.Carried.{no_part, Carried, Timed}
use Rattle.agent_workers.specs.Job.{job_of, rule_by}
use Rattle.agent_workers.specs.Opened.{Carries, Times, change_by, config_ins, config_outs}
use Rattle.agent_workers.proofs.OpenedLemmas.{carries_is}
use Rattle.agent_workers.specs.Run.{Ran, Change, change, InRun, OutRun}
use Rattle.agent_workers.specs.declared.rounds.Ending.{Ending}
use Rattle.agent_run.specs.ClockLists.{HasInputClocks, clock_count, from_first, timed_at}
use Rattle.agent_run.specs.Headline.{Ends, place_change, report_change, world_change, world_ins, world_outs}
use Rattle.agent_run.specs.Headline.{input_clock, run_clock}
use Rattle.agent_run.specs.PlaceLists.{GoEach, AreOpened, AreGiven, AreHomeBut, PartsAreOut, IsInUnopened}
use Rattle.agent_run.specs.PlaceLists.{IsOutUnopened, OnlyIns, OpensAll, carried_at, in_places, out_places, place_at}
use Rattle.agent_run.specs.PlaceLists.{places_in, places_out}
use Rattle.agent_run.specs.Places.{AreOpensSame, ReportsLine, open_fault_line}
use Rattle.agent_run.specs.Running.{left_with, IsOpenedSame, IsRefusedBy, OnlyNamed, OnlyWritten, ReportsEnd}
use Rattle.agent_run.specs.Running.{told, told_at}
use Rattle.agent_run.specs.declared.status.Status.{Status}
use Rattle.agent_run.specs.declared.status.Status.TheVariants as statuses
use Rattle.agent_run.proofs.HeadlineLemmas.{reported_ends}
use Rattle.agent_run.proofs.PlaceLemmas.{unopened_along}
use Rattle.agent_run.proofs.PartLemmas.{in_or_not}

-- ---- what parts carry, as the world tells it

same_lists : (xs ys : List Carried) → length xs ≡ length ys → ((k : ℕ) → k < length ys
    → carried_at xs k ≡ carried_at ys k) → xs ≡ ys
same_lists [] [] count each = refl
same_lists [] (y ∷ ys) count each = absurd (omega (arith, count))
same_lists (x ∷ xs) [] count each = absurd (omega (arith, count))
same_lists (x ∷ xs) (y ∷ ys) count each = ap (λ (z : Carried). z ∷ xs) (each 0 (omega arith))
    ∙ ap (λ (zs : List Carried). y ∷ zs) (same_lists xs ys (omega (arith, count))
    (λ k l. each (suc k) (omega (arith, l))))

told_here : (places : List (List ℕ)) (told_of : List ℕ → Place) (k : ℕ) → k < length places
    → carried_at (told_at places told_of) k ≡ told (told_of (place_at places k))
told_here places told_of k l = get_or-map (λ (place : List ℕ). told (told_of place)) places k [] no_part l

go_told : (Goes : Carried → Place → Place → Type 0) (places : List (List ℕ)) (parts : List Carried)
    (w0 w1 : List ℕ → Place) (by : List ℕ → Place) → ((k : ℕ) → k < length places
    → Goes (carried_at parts k) (w0 (place_at places k)) (w1 (place_at places k))
    → carried_at parts k ≡ told (by (place_at places k)))
    → GoEach Goes places parts w0 w1 → parts ≡ told_at places by
go_told Goes places parts w0 w1 by f h =
    let count : length (told_at places by) ≡ length places = length-map places (λ (place : List ℕ). told (by place)) in
    same_lists parts (told_at places by) (h.count ∙ sym count)
    (λ k l. let b : k < length places = omega (arith, l, count) in f k b (h.each k b) ∙ sym (told_here places by k b))

told_is : (part : Carried) (place : Place) → part.bytes ≡ place.bytes → part.faults ≡ place.part_faults
    → part ≡ told place
told_is part place b f = go part.bytes part.faults b f
  where
    go : (bytes : Option (List ℕ)) (faults : ℕ) → bytes ≡ place.bytes → faults ≡ place.part_faults
        → (let c : Carried = record { bytes = bytes; faults = faults } in c) ≡ told place
    go bytes faults e g = rw (e, g) refl

-- parts that were opened carry what their places told
pub opened_told : (places : List (List ℕ)) (parts : List Carried) (w0 w1 : List ℕ → Place)
    → AreOpened places parts w0 w1 → parts ≡ told_at places w0
opened_told places parts w0 w1 h = go_told Opens places parts w0 w1 w0
    (λ k l o. told_is (carried_at parts k) (w0 (place_at places k)) o.bytes o.faults) h

-- and places tell what the parts carry that were given back
pub given_told : (places : List (List ℕ)) (parts : List Carried) (w0 w1 : List ℕ → Place) → AreGiven places parts w0 w1
    → parts ≡ told_at places w1
given_told places parts w0 w1 h = go_told TakesIn places parts w0 w1 w1
    (λ k l g. told_is (carried_at parts k) (w1 (place_at places k)) (sym g.bytes) (sym g.faults)) h

-- the same places tell the same
pub told_same : (places : List (List ℕ)) (w0 w1 : List ℕ → Place) → SameAtAll w0 w1
    → told_at places w1 ≡ told_at places w0
told_same [] w0 w1 same = refl
told_same (place ∷ places) w0 w1 same = ap (λ (x : Carried). x ∷ told_at places w1) (ap told (same place))
    ∙ ap (λ (xs : List Carried). told (w0 place) ∷ xs) (told_same places w0 w1 same)

-- ---- the inputs and the outputs, as the world tells them

timed_first : (clocks : List Timed) (clock : Timed) (k : ℕ) → timed_at (clock ∷ clocks) (suc k) ≡ timed_at clocks k
timed_first clocks clock k = refl

pub ins_told : (config : Config) (n : ℕ) (confs : List InputConf) (clocks : List Timed) (old new : WorldView)
    → length clocks ≡ length confs → ((k : ℕ) → k < length confs
    → (timed_at clocks k).moments ≡ old.clocks (input_clock (n + k)))
    → config_ins config confs (told_at (places_in confs) old.ins) (told_at (places_in confs) new.ins) clocks ≡ world_ins
    config n confs old new
unfolding config_ins world_ins
ins_told config n [] clocks old new count timed = refl
ins_told config n (conf ∷ confs) [] old new count timed = absurd (omega (arith, count))
ins_told config n (conf ∷ confs) (clock ∷ clocks) old new count timed =
    ap (λ (m : Option Moments). let run : InRun = record {
      rule = rule_by config conf;
      place = place_change (old.ins conf.place) (new.ins conf.place);
      moments = m;
    } in run ∷ config_ins config confs (told_at (places_in confs) old.ins) (told_at (places_in confs) new.ins) clocks)
    (timed 0 (omega arith) ∙ ap (λ (k : ℕ). old.clocks (input_clock k)) (let e : n + 0 ≡ n = omega arith in e))
    ∙ ap (λ (runs : List InRun). let run : InRun = record {
      rule = rule_by config conf;
      place = place_change (old.ins conf.place) (new.ins conf.place);
      moments = old.clocks (input_clock n);
    } in run ∷ runs)
    (ins_told config (n + 1) confs clocks old new (omega (arith, count)) (λ k l. timed (suc k) (omega (arith, l))
    ∙ ap (λ (j : ℕ). old.clocks (input_clock j)) (let e : n + suc k ≡ n + 1 + k = omega arith in e)))

pub outs_told : (confs : List OutputConf) (old new : WorldView)
    → config_outs confs (told_at (places_out confs) old.outs) (told_at (places_out confs) new.outs) ≡ world_outs confs
    old new
unfolding config_outs world_outs
outs_told [] old new = refl
outs_told (conf ∷ confs) old new =
    ap (λ (runs : List OutRun). let run : OutRun = record {
      format = conf.format;
      place = place_change (old.outs conf.place) (new.outs conf.place);
    } in run ∷ runs) (outs_told confs old new)

-- two lists with the same first element and the same others
pub head_is : (x y : Carried) (xs ys : List Carried) → x ∷ xs ≡ y ∷ ys → x ≡ y
head_is x y xs ys e = ap (λ (zs : List Carried). get_or zs 0 no_part) e

pub tail_is : (x y : Carried) (xs ys : List Carried) → x ∷ xs ≡ y ∷ ys → xs ≡ ys
tail_is x y xs ys e = ap rest e
  where
    rest : List Carried → List Carried
    rest [] = []
    rest (z ∷ zs) = zs

-- ---- what a run left, by other terms

change_of : (config : Config) (status : Status) (ins other_ins : List InRun) (outs other_outs : List OutRun)
    (noted other_noted reported other_reported : Change) (moments other_moments : Option Moments) → ins ≡ other_ins
    → outs ≡ other_outs → noted ≡ other_noted → reported ≡ other_reported → moments ≡ other_moments →
    Ends config (record {
      run = record { ins = ins; outs = outs; journal = noted; moments = moments };
      report = reported;
    }) status → Ends config (record {
      run = record {
        ins = other_ins;
        outs = other_outs;
        journal = other_noted;
        moments = other_moments;
      };
      report = other_reported;
    }) status
change_of config status ins other_ins outs other_outs noted other_noted reported other_reported moments other_moments a
    b c d e h =
    subst (λ (x : Option Moments). Ends config (record {
      run =
          record { ins = other_ins; outs = other_outs; journal = other_noted; moments = x };
      report = other_reported;
    }) status) e
    (subst (λ (x : Change). Ends config (record {
      run = record
          { ins = other_ins; outs = other_outs; journal = other_noted; moments = moments };
      report = x;
    }) status) d
    (subst (λ (x : Change). Ends config (record {
      run = record
          { ins = other_ins; outs = other_outs; journal = x; moments = moments };
      report = reported;
    }) status) c
    (subst (λ (x : List OutRun). Ends config (record {
      run =
          record { ins = other_ins; outs = x; journal = noted; moments = moments };
      report = reported;
    }) status) b
    (subst (λ (x : List InRun). Ends config (record {
      run = record
          { ins = x; outs = outs; journal = noted; moments = moments };
      report = reported;
    }) status) a h))))

pub change_told : (a b : Carried) (before after : Place) → a ≡ told before → b ≡ told after
    → change a.bytes b.bytes a.faults b.faults ≡ place_change before after
change_told a b before after e f = rw (e, f) refl

pub reports_same : (r0 r1 r2 : Rest) → r1 ≡ r0 → report_change r1 r2 ≡ report_change r0 r2
reports_same r0 r1 r2 e = rw e refl

-- ---- places that aren't named, and counts of failed opens

pub go_opens : (Goes : Carried → Place → Place → Type 0) (places : List (List ℕ)) (parts : List Carried)
    (w0 w1 : List ℕ → Place) → ((part : Carried) (old new : Place) → Goes part old new
    → new.open_faults ≡ old.open_faults) → GoEach Goes places parts w0 w1 → AreOpensSame w0 w1
go_opens Goes places parts w0 w1 f h = λ q.
    elim (in_or_not places q) [
      | inl c ↦ subst (λ (place : List ℕ). (w1 place).open_faults ≡ (w0 place).open_faults)
          (get_or_default places c.0 [] q c.1 ∙ c.2) (f (carried_at parts c.0) (w0 (place_at places c.0))
          (w1 (place_at places c.0)) (h.each c.0 c.1))
      | inr away ↦ ap (λ (p : Place). p.open_faults) (h.others q away)
    ]

pub opened_opens : (places : List (List ℕ)) (parts : List Carried) (w0 w1 : List ℕ → Place)
    → AreOpened places parts w0 w1 → AreOpensSame w0 w1
opened_opens places parts w0 w1 h = go_opens Opens places parts w0 w1 (λ part old new o. o.open_faults) h

pub given_opens : (places : List (List ℕ)) (parts : List Carried) (w0 w1 : List ℕ → Place) → AreGiven places parts w0 w1
    → AreOpensSame w0 w1
given_opens places parts w0 w1 h = go_opens TakesIn places parts w0 w1 (λ part old new g. g.open_faults) h

pub opens_then : (w0 w1 w2 : List ℕ → Place) → AreOpensSame w0 w1 → AreOpensSame w1 w2 → AreOpensSame w0 w2
opens_then w0 w1 w2 h k = λ q. k q ∙ h q

pub opens_along : (w0 w1 w2 : List ℕ → Place) → AreOpensSame w0 w1 → SameAtAll w1 w2 → AreOpensSame w0 w2
opens_along w0 w1 w2 h same = λ q. ap (λ (p : Place). p.open_faults) (same q) ∙ h q

pub but_then : (places : List (List ℕ)) (w0 w1 w2 : List ℕ → Place) → SameButAt places w0 w1 → SameButAt places w1 w2
    → SameButAt places w0 w2
but_then places w0 w1 w2 h k = λ q away. k q away ∙ h q away

pub but_along : (places : List (List ℕ)) (w0 w1 w2 : List ℕ → Place) → SameButAt places w0 w1 → SameAtAll w1 w2
    → SameButAt places w0 w2
but_along places w0 w1 w2 h same = λ q away. same q ∙ h q away

pub home_but : (places : List (List ℕ)) (w0 w1 : List ℕ → Place) → AreHome w0 → SameButAt places w0 w1
    → AreHomeBut places w1
home_but places w0 w1 home same = λ q away. ap (λ (p : Place). p.is_out) (same q away) ∙ home q

pub home_but_along : (places : List (List ℕ)) (w0 w1 : List ℕ → Place) → AreHomeBut places w0 → SameAtAll w0 w1
    → AreHomeBut places w1
home_but_along places w0 w1 home same = λ q away. ap (λ (p : Place). p.is_out) (same q) ∙ home q away

pub out_along : (places : List (List ℕ)) (w0 w1 : List ℕ → Place) → PartsAreOut places w0 → SameAtAll w0 w1
    → PartsAreOut places w1
out_along places w0 w1 out same = λ k l. ap (λ (p : Place). p.is_out) (same (place_at places k)) ∙ out k l

-- the places at which parts were opened are out
pub are_out : (places : List (List ℕ)) (parts : List Carried) (w0 w1 : List ℕ → Place) → AreOpened places parts w0 w1
    → PartsAreOut places w1
are_out places parts w0 w1 h = λ k l. (h.each k l).is_out

-- ---- a run over opened parts

module _ (config : Config) (status : Status) (old mid last : WorldView) where
  -- what it left, as the world tells it behind the report
  leaves : (ending : Ending) (opened left : Carries) (times : Times)
      → AreGiven (out_places config) (left.journal ∷ left.sinks) old.outs mid.outs → mid.report ≡ old.report
      → SameAtAll mid.outs last.outs →
      Ran (job_of config) ending (change_by config opened left times) →
      ReportsEnd status ending mid.report last.report →
      Ends config (record {
        run = change_by config opened (left_with config left.sources last) times;
        report = report_change old.report last.report;
      }) status
  leaves ending opened left times outs report outs_same ran answer =
      let all_is : left.journal ∷ left.sinks ≡ told_at (out_places config) last.outs =
      given_told (out_places config) (left.journal ∷ left.sinks) old.outs mid.outs outs
      ∙ sym (told_same (out_places config) mid.outs last.outs outs_same) in
      let journal_is : left.journal ≡ told (last.outs config.agent.journal) =
      head_is left.journal (told (last.outs config.agent.journal)) left.sinks
      (told_at (places_out config.outputs) last.outs) all_is in
      let written_is : left.sinks ≡ told_at (places_out config.outputs) last.outs =
      tail_is left.journal (told (last.outs config.agent.journal)) left.sinks
      (told_at (places_out config.outputs) last.outs) all_is in
      subst (λ (x : Carries). Ends config (record {
        run = change_by config opened x times;
        report = report_change old.report last.report;
      }) status)
      (carries_is left.sources left.sources left.sinks
      (told_at (places_out config.outputs) last.outs) left.journal (told (last.outs config.agent.journal)) refl
      written_is journal_is)
      (subst (λ (x : Change). Ends config (record { run = change_by config opened left times; report = x }) status)
      (reports_same old.report mid.report last.report report)
      (reported_ends config (change_by config opened left times) (report_change mid.report last.report) ending status
      ran answer))

  -- the same of a run that came to its end, or for which memory was short
  pub leaves_ran : (ran : Result Ending OutOfMemory) (opened left : Carries) (times : Times)
      → AreGiven (out_places config) (left.journal ∷ left.sinks) old.outs mid.outs → mid.report ≡ old.report
      → SameAtAll mid.outs last.outs →
      IfOk ran (λ ending. Ran (job_of config) ending (change_by config opened left times)) →
      IfOk ran (λ ending. ReportsEnd status ending mid.report last.report) → OnErr ran (status ≡ statuses.OutOfMemory) →
      Ends config (record {
        run = change_by config opened (left_with config left.sources last) times;
        report = report_change old.report last.report;
      }) status
  leaves_ran (Ok ending) opened left times outs report outs_same ran answer short =
      leaves ending opened left times outs report outs_same ran answer
  leaves_ran (Err fault) opened left times outs report outs_same ran answer short = rw short tt

-- ---- a run of a configuration

input_number : (config : Config) (timed : List Timed) (opened_at : WorldView) (start : WorldView)
    → HasInputClocks config timed opened_at.clocks → SameAtAll start.clocks opened_at.clocks → (k : ℕ)
    → k < length config.inputs → (timed_at timed k).moments ≡ start.clocks (input_clock (0 + k))
input_number config timed opened_at start clocks same k l =
    ap (λ (t : Timed). t.moments) (clocks.each k l) ∙ same (input_clock k)
    ∙ ap (λ (j : ℕ). start.clocks (input_clock j)) (let e : k ≡ 0 + k = omega arith in e)

-- each clock is at its first place
pub all_first : (config : Config) (timed : List Timed) (told_of : ℕ → Option Moments)
    → HasInputClocks config timed told_of → All (λ (clock : Timed). clock.next ≡ 0) timed
all_first config timed told_of h = λ k d l.
    ap (λ (t : Timed). t.next) (get_or_default timed k d (from_first None) l ∙ h.each k (omega (arith, l, h.count_is)))

-- what its outputs and its journal were and are, as the world tells it
record AreWritten (config : Config) (sinks : List Carried) (journal : Carried) (world : WorldView) : Type 0 where
  pub sinks_are : sinks ≡ told_at (places_out config.outputs) world.outs
  pub journal_is : journal ≡ told (world.outs config.agent.journal)

are_written : (config : Config) (sinks : List Carried) (journal : Carried) (world opened_at : WorldView)
    → AreOpened (out_places config) (journal ∷ sinks) world.outs opened_at.outs → AreWritten config sinks journal world
are_written config sinks journal world opened_at opens =
    let all_is : journal ∷ sinks ≡ told_at (out_places config) world.outs =
    opened_told (out_places config) (journal ∷ sinks) world.outs opened_at.outs opens in
    record {
      sinks_are = tail_is journal (told (world.outs config.agent.journal)) sinks
          (told_at (places_out config.outputs) world.outs) all_is;
      journal_is = head_is journal (told (world.outs config.agent.journal)) sinks
          (told_at (places_out config.outputs) world.outs) all_is;
    }

-- a run over sources and clocks from wherever, given what it makes of its inputs
module _ (config : Config) (status : Status) (start opened_at last : WorldView) (opened : Carries)
    (outputs : AreOpened (out_places config) (opened.journal ∷ opened.sinks) start.outs opened_at.outs) where
  pub written_runs : (times : Times) (sources : List Carried) (report : Rest) (ins : List InRun)
      (moments : Option Moments) → report ≡ start.report
      → config_ins config config.inputs opened.sources sources times.ins ≡ ins → times.timer.moments ≡ moments →
      Ends config (record {
        run = change_by config opened (left_with config sources last) times;
        report = report_change report last.report;
      }) status → Ends config (record {
        run = record {
          ins = ins;
          outs = world_outs config.outputs start last;
          journal = place_change (start.outs config.agent.journal) (last.outs config.agent.journal);
          moments = moments;
        };
        report = report_change start.report last.report;
      }) status
  written_runs times sources report ins moments same ins_are moments_are ends =
      let written = are_written config opened.sinks opened.journal start opened_at outputs in
      let after : Place = last.outs config.agent.journal in
      change_of config status _ _ _ _ _ _ _ _ times.timer.moments moments ins_are
      (ap (λ (xs : List Carried). config_outs config.outputs xs (told_at (places_out config.outputs) last.outs))
      written.sinks_are ∙ outs_told config.outputs start last)
      (ap (λ (x : Carried). change x.bytes after.bytes x.faults after.part_faults) written.journal_is)
      (reports_same start.report report last.report same) moments_are ends

module _ (config : Config) (status : Status) (start opened_at mid done last : WorldView) (opened : Carries)
    (opens : OpensAll config opened.sources (opened.journal ∷ opened.sinks) start opened_at) where
  pub runs : (times : Times) (sources : List Carried) → HasInputClocks config times.ins opened_at.clocks
      → times.timer.moments ≡ opened_at.clocks run_clock → mid.report ≡ opened_at.report →
      AreGiven (in_places config) sources done.ins last.ins → OnlyIns done last → Ends config (record {
        run = change_by config opened (left_with config sources done) times;
        report = report_change mid.report done.report;
      }) status → Ends config (world_change config start last) status
  runs times sources clocks moments_are report given only ends =
      let read_is : opened.sources ≡ told_at (in_places config) start.ins =
      opened_told (in_places config) opened.sources start.ins opened_at.ins opens.inputs in
      let left_is : sources ≡ told_at (in_places config) last.ins =
      given_told (in_places config) sources done.ins last.ins given in
      let ends_last : Ends config (record {
        run = change_by config opened (left_with config sources last) times;
        report = report_change mid.report last.report;
      }) status =
      subst (λ (r : Rest). Ends config (record {
        run = change_by config opened (left_with config sources last) times;
        report = report_change mid.report r;
      }) status) (sym only.report)
      (subst (λ (x : Carries). Ends config (record {
        run = change_by config opened x times;
        report = report_change mid.report done.report;
      }) status) (carries_is sources sources (told_at (places_out config.outputs) done.outs)
      (told_at (places_out config.outputs) last.outs) (told (done.outs config.agent.journal))
      (told (last.outs config.agent.journal)) refl
      (sym (told_same (places_out config.outputs) done.outs last.outs only.outs))
      (sym (ap told (only.outs config.agent.journal)))) ends) in
      written_runs config status start opened_at last opened opens.outputs times sources mid.report
      (world_ins config 0 config.inputs start last) (start.clocks run_clock) (report ∙ opens.only.report)
      (ap (λ (xs : List Carried). config_ins config config.inputs xs sources times.ins) read_is
      ∙ ap (λ (xs : List Carried). config_ins config config.inputs (told_at (in_places config) start.ins) xs times.ins)
      left_is
      ∙ ins_told config 0 config.inputs times.ins start last clocks.count_is
      (input_number config times.ins opened_at start clocks opens.only.clocks))
      (moments_are ∙ opens.only.clocks run_clock) ends_last

  -- what isn't named is as before
  pub only_named : (sources : List Carried) → SameAtAll opened_at.ins mid.ins → SameAtAll opened_at.outs mid.outs
      → ((who : ℕ) → clock_count config ≤ who → mid.clocks who ≡ opened_at.clocks who)
      → OnlyWritten config mid done → AreGiven (in_places config) sources done.ins last.ins → OnlyIns done last
      → OnlyNamed config start last
  only_named sources ins outs clocks written given only = record {
    ins = λ q away. given.others q away ∙ written.ins q ∙ ins q ∙ opens.inputs.others q away;
    outs = λ q away. only.outs q ∙ written.outs q away ∙ outs q ∙ opens.outputs.others q away;
    clocks = λ who above. only.clocks who ∙ written.clocks who ∙ clocks who above ∙ opens.only.clocks who;
  }

  pub opened_same : (sources : List Carried) → SameAtAll opened_at.ins mid.ins → SameAtAll opened_at.outs mid.outs
      → SameAtAll mid.ins done.ins → AreOpensSame mid.outs done.outs
      → AreGiven (in_places config) sources done.ins last.ins → OnlyIns done last → IsOpenedSame start last
  opened_same sources ins outs same done_outs given only = record {
    ins = opens_then start.ins done.ins last.ins (opens_along start.ins mid.ins done.ins (opens_along start.ins
        opened_at.ins mid.ins (opened_opens (in_places config) opened.sources start.ins opened_at.ins opens.inputs) ins)
        same) (given_opens (in_places config) sources done.ins last.ins given);
    outs = opens_along start.outs done.outs last.outs (opens_then start.outs mid.outs done.outs (opens_along start.outs
        opened_at.outs mid.outs (opened_opens (out_places config) (opened.journal ∷ opened.sinks) start.outs
        opened_at.outs opens.outputs) outs) done_outs) only.outs;
  }

  pub ins_home_but : AreHome start.ins → SameAtAll opened_at.ins mid.ins → SameAtAll mid.ins done.ins
      → AreHomeBut (in_places config) done.ins
  ins_home_but home same then_same = home_but_along (in_places config) mid.ins done.ins
      (home_but_along (in_places config) opened_at.ins mid.ins
      (home_but (in_places config) start.ins opened_at.ins home opens.inputs.others) same) then_same

  pub outs_home_but : AreHome start.outs → SameAtAll opened_at.outs mid.outs → AreHomeBut (out_places config) mid.outs
  outs_home_but home same = home_but_along (out_places config) opened_at.outs mid.outs
      (home_but (out_places config) start.outs opened_at.outs home opens.outputs.others) same

-- a place wasn't opened, and the line that names it was reported
pub refused_by : (config : Config) (status : Status) (place : List ℕ) (old mid last : WorldView)
    → (Contains (in_places config) place × IsInUnopened place old mid)
    ⊎ (Contains (out_places config) place × IsOutUnopened place old mid) → SameAtAll mid.ins last.ins
    → SameAtAll mid.outs last.outs →
    ((status ≡ statuses.OpenFault) × ReportsLine mid.report last.report (open_fault_line place))
    ⊎ (status ≡ statuses.OutOfMemory) → status ≡ statuses.OpenFault → IsRefusedBy config old last
refused_by config status place old mid last (inl i) ins outs (inl told_so) e = record {
  place = place;
  unopened = inl (
    i.0,
    unopened_along place old.ins old.ins mid.ins last.ins (λ q. refl)
        (record { failed = i.1.failed; others = i.1.only.others }) ins,
    λ q. outs q ∙ i.1.only.outs q,
  );
  told = subst (λ (r : Rest). ReportsLine r last.report (open_fault_line place)) i.1.only.report told_so.1;
}
refused_by config status place old mid last (inr o) ins outs (inl told_so) e = record {
  place = place;
  unopened = inr (
    o.0,
    λ q. ins q ∙ o.1.only.ins q,
    unopened_along place old.outs old.outs mid.outs last.outs
        (λ q. refl) (record { failed = o.1.failed; others = o.1.only.others }) outs,
  );
  told = subst (λ (r : Rest). ReportsLine r last.report (open_fault_line place)) o.1.only.report told_so.1;
}
refused_by config status place old mid last un ins outs (inr short) e =
    absurd (let x : statuses.OutOfMemory ≡ statuses.OpenFault = sym short ∙ e in cc)
