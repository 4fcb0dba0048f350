-- What a run of a configuration begins with, and what it leaves.
use Rattle.std.specs.Prelude.{Bool}
use Rattle.agent_workers.specs.Job.{limit_of, line_of}
use Rattle.agent_config.specs.declared.config.AggConf.{AggConf}
use Rattle.std.proofs.Common.{◌≡◌, ◌<◌, ◌≤◌, ◌+◌, ℕ, zero, suc, ℤ, false, List, [], ◌∷◌, ◌++◌, length, get_or, drop}
use Rattle.std.proofs.Common.{replicate, refl, sym, ap, ◌∙◌, subst, arith, append_assoc, append-nil}
use Rattle.std.specs.Prelude.{map, All, IfOk, OnOk, Result, Ok, Err}
use Rattle.std.specs.declared.option.Option.{Option}
use Rattle.std.proofs.lemmas.List.{length-map, map-append, drop_more, drop_all}
use Rattle.fixed_num.specs.declared.memory.OutOfMemory.{OutOfMemory}
use Rattle.agent_base.specs.Carried.{Carried, Timed}
use Rattle.agent_base.specs.Hand.{Hand, empty_hand}
use Rattle.agent_base.specs.Moments.{Moments, Gives}
use Rattle.agent_config.specs.Sound.{IsSound}
use Rattle.agent_config.specs.declared.config.Config.{Config}
use Rattle.agent_config.specs.declared.config.InputConf.{InputConf}
use Rattle.agent_config.specs.declared.config.OutputConf.{OutputConf}
use Rattle.formats.specs.Reader.{cut_of}
use Rattle.metric.specs.Metric.{IsFilledTag}
use Rattle.agent_workers.specs.Finished.{FinishesSo, begun}
use Rattle.agent_workers.specs.Inputs.{InPart, in_of, ins_of, in_at, IsSameInput, AreSameInputs, AreFresh, HaveLimits}
use Rattle.agent_workers.specs.Inputs.{IsFresh}
use Rattle.agent_workers.specs.Inputs.{IsReadable}
use Rattle.proc_chain.specs.Chain.{steps_of, IsBehind}
use Rattle.proc_chain.specs.declared.step.Step.{Step}
use Rattle.agent_workers.specs.Job.{Job, job_of, job_input, job_output, journal_setup_of, rule_by, setup_of}
use Rattle.agent_workers.specs.Job.{work_of}
use Rattle.agent_workers.specs.Noted.{part_change}
use Rattle.agent_workers.specs.Opened.{Carries, Times, fresh_in, fresh_ins, fresh_out, fresh_outs, empty_hands}
use Rattle.agent_workers.specs.Opened.{config_ins, config_outs, in_carried, out_carried, change_by, IsMadeOf, IsNewCore}
use Rattle.agent_workers.specs.Output.{OutPart, out_of, outs_of, out_at, AreOutputs, AreUnfailed, IsUnfailed}
use Rattle.agent_workers.specs.Run.{Change, change, InRun, in_run, in_runs, OutRun, out_run, out_runs, RunChange, Ran}
use Rattle.agent_workers.specs.Progress.{Progress}
use Rattle.agent_workers.specs.RunState.{RunState}
use Rattle.agent_workers.specs.declared.input.InJob.{InJob}
use Rattle.agent_workers.specs.declared.output.OutJob.{OutJob}
use Rattle.agent_workers.specs.declared.rounds.Ending.{Ending}
use Rattle.agent_workers.proofs.FinishSteps.{is_set_up, ran}

-- ---- what a run begins with

pub length-fresh_ins : (config : Config) (n : ℕ) (confs : List InputConf) (sources : List Carried) (clocks : List Timed)
    → length sources ≡ length confs → length clocks ≡ length confs
    → length (fresh_ins config n confs sources clocks) ≡ length confs
unfolding fresh_ins
length-fresh_ins config n [] sources clocks s c = refl
length-fresh_ins config n (conf ∷ confs) [] clocks s c = absurd (omega (arith, s))
length-fresh_ins config n (conf ∷ confs) (source ∷ sources) [] s c = absurd (omega (arith, c))
length-fresh_ins config n (conf ∷ confs) (source ∷ sources) (clock ∷ clocks) s c =
    omega (arith, length-fresh_ins config (n + 1) confs sources clocks (omega (arith, s)) (omega (arith, c)))

-- an input that can be read, of which nothing was read, with its number
record IsFreshAt (number : ℕ) (part : InPart) : Type 0 where
  readable : IsReadable part.rule
  numbered : part.input ≡ number
  fresh : IsFresh part

fresh_at : (config : Config) (some : 1 ≤ config.agent.gather_pieces) (filled : All IsFilledTag config.globals) (n : ℕ)
    (confs : List InputConf) (sources : List Carried) (clocks : List Timed)
    → All (λ (clock : Timed). clock.next ≡ 0) clocks → (k : ℕ) → k < length (fresh_ins config n confs sources clocks)
    → IsFreshAt (n + k) (in_at (fresh_ins config n confs sources clocks) k)
unfolding fresh_ins
fresh_at config some filled n [] sources clocks first k l = absurd (omega (arith, l))
fresh_at config some filled n (conf ∷ confs) [] clocks first k l = absurd (omega (arith, l))
fresh_at config some filled n (conf ∷ confs) (source ∷ sources) [] first k l = absurd (omega (arith, l))
fresh_at config some filled n (conf ∷ confs) (source ∷ sources) (clock ∷ clocks) first zero l =
    record {
      readable = record { some = some; filled = filled };
      numbered = omega arith;
      fresh = record { hand = refl; next = first 0 clock (omega arith); none_held = refl; reading = refl };
    }
fresh_at config some filled n (conf ∷ confs) (source ∷ sources) (clock ∷ clocks) first (suc k) l =
    subst (λ (i : ℕ). IsFreshAt i (in_at (fresh_ins config (n + 1) confs sources clocks) k)) (omega arith)
    (fresh_at config some filled (n + 1) confs sources clocks (λ j d b. first (suc j) d (omega (arith, b))) k
    (omega (arith, l)))

-- each input has the limit of its configuration
limits_from : (config : Config) (n : ℕ) (confs : List InputConf) (sources : List Carried) (clocks : List Timed)
    → HaveLimits (map limit_of (map (job_input config) confs)) (fresh_ins config n confs sources clocks)
unfolding fresh_ins
limits_from config n [] sources clocks k l = absurd (omega (arith, l))
limits_from config n (conf ∷ confs) [] clocks k l = absurd (omega (arith, l))
limits_from config n (conf ∷ confs) (source ∷ sources) [] k l = absurd (omega (arith, l))
limits_from config n (conf ∷ confs) (source ∷ sources) (clock ∷ clocks) zero l = refl
limits_from config n (conf ∷ confs) (source ∷ sources) (clock ∷ clocks) (suc k) l =
    limits_from config (n + 1) confs sources clocks k (omega (arith, l))

pub are_fresh : (config : Config) (sources : List Carried) (clocks : List Timed) → IsSound config
    → All (λ (clock : Timed). clock.next ≡ 0) clocks → AreFresh (fresh_ins config 0 config.inputs sources clocks)
are_fresh config sources clocks sound first =
    let at = fresh_at config sound.gather_pieces.0 sound.globals 0 config.inputs sources clocks first in
    record {
      readable = λ k l. (at k l).readable;
      numbered = λ k l. (at k l).numbered
          ∙ omega arith;
      fresh = λ k l. (at k l).fresh;
    }

pub length-fresh_outs : (n : ℕ) (confs : List OutputConf) (sinks : List Carried) → length sinks ≡ length confs
    → length (fresh_outs n confs sinks) ≡ length confs
unfolding fresh_outs
length-fresh_outs n [] sinks s = refl
length-fresh_outs n (conf ∷ confs) [] s = absurd (omega (arith, s))
length-fresh_outs n (conf ∷ confs) (sink ∷ sinks) s = omega (
  arith,
  length-fresh_outs (n + 1) confs sinks (omega (arith, s)),
)

-- an output to which nothing was put, with its number
record IsUnputAt (number : ℕ) (part : OutPart) : Type 0 where
  numbered : part.output ≡ number
  unfailed : IsUnfailed part

unput_at : (n : ℕ) (confs : List OutputConf) (sinks : List Carried) (k : ℕ) → k < length (fresh_outs n confs sinks)
    → IsUnputAt (n + k) (out_at (fresh_outs n confs sinks) k)
unfolding fresh_outs
unput_at n [] sinks k l = absurd (omega (arith, l))
unput_at n (conf ∷ confs) [] k l = absurd (omega (arith, l))
unput_at n (conf ∷ confs) (sink ∷ sinks) zero l = record {
  numbered = omega arith;
  unfailed = record { failed = refl; failed_since = refl };
}
unput_at n (conf ∷ confs) (sink ∷ sinks) (suc k) l =
    subst (λ (i : ℕ). IsUnputAt i (out_at (fresh_outs (n + 1) confs sinks) k)) (omega arith)
    (unput_at (n + 1) confs sinks k (omega (arith, l)))

are_outputs : (confs : List OutputConf) (sinks : List Carried) → length sinks ≡ length confs
    → AreOutputs (length confs) (fresh_outs 0 confs sinks)
are_outputs confs sinks s =
    let count = length-fresh_outs 0 confs sinks s in
    record {
      count_is = count;
      numbered = λ k l. (unput_at 0 confs sinks k (omega (arith, l, count))).numbered
          ∙ omega arith;
    }

pub are_unfailed : (confs : List OutputConf) (sinks : List Carried) → AreUnfailed (fresh_outs 0 confs sinks)
are_unfailed confs sinks = λ k l. (unput_at 0 confs sinks k l).unfailed

-- the parts of a run are those of a configuration
pub record AreMade (config : Config) (start : ℤ) (opened : Carries) (times : Times) (now : RunState) : Type 0 where
  pub sources : length opened.sources ≡ length config.inputs
  pub clocks : length times.ins ≡ length config.inputs
  pub sinks : length opened.sinks ≡ length config.outputs
  pub first : All (λ (clock : Timed). clock.next ≡ 0) times.ins
  pub ins_are : now.ins ≡ fresh_ins config 0 config.inputs opened.sources times.ins
  pub outs_are : now.outs ≡ fresh_outs 0 config.outputs opened.sinks
  pub aggs : now.proc.aggs ≡ config.aggs
  pub skip : now.proc.skip ≡ config.agent.skip_second
  pub filters : now.proc.outs ≡ config.outputs
  pub chain : IsBehind config.steps [] now.proc.chain
  pub known : now.journal.known ≡ []
  pub about : now.journal.setup ≡ journal_setup_of (setup_of (job_of config) start)
  pub kept : now.journal.kept ≡ []
  pub entries : now.journal.entries ≡ 0
  pub put : now.journal.failed ≡ false
  pub counted : now.counted_at ≡ []
  pub still : now.still ≡ 0
  pub held : now.journal.held ≡ opened.journal.bytes
  pub faults : now.journal.faults ≡ opened.journal.faults
  pub timer : now.timer ≡ times.timer

-- a run is set up
pub is_made : (config : Config) (start : ℤ) (opened : Carries) (times : Times) (now : RunState) → IsSound config
    → IsNewCore config start now.core → AreMade config start opened times now → IsMadeOf config start opened times now
is_made config start opened times now sound new made =
    let in_jobs = length-map config.inputs (job_input config) in
    let out_jobs = length-map config.outputs job_output in
    let count : length now.ins ≡ length config.inputs = ap (λ (xs : List InPart). length xs) made.ins_are
    ∙ length-fresh_ins config 0 config.inputs opened.sources times.ins made.sources made.clocks in
    let outputs = subst (AreOutputs (length config.outputs)) (sym made.outs_are)
    (are_outputs config.outputs opened.sinks made.sinks) in
    record {
      set_up = is_set_up (job_of config) start now (omega (arith, out_jobs, sound.outputs.1)) new.ready new.going
          new.stands new.setup new.stored (new.reading ∙ ap (λ (k : ℕ). replicate k false) (sym in_jobs))
          new.none_buffered
          (record {
            in_count = count ∙ sym in_jobs;
            fresh = subst AreFresh (sym made.ins_are) (are_fresh config opened.sources times.ins sound made.first);
            outputs = subst (λ (k : ℕ). AreOutputs k now.outs) (sym out_jobs) outputs;
            unfailed = subst AreUnfailed (sym made.outs_are) (are_unfailed config.outputs opened.sinks);
            aggs = ap length made.aggs ∙ sym (length-map config.aggs line_of);
            filters = ap length made.filters ∙ sym out_jobs;
            work = ap (λ (steps : List Step). work_of config.agent.skip_second steps config.aggs config.outputs)
                (sym made.chain.same)
                ∙ ap (λ (skip : Bool). work_of skip (steps_of now.proc.chain) config.aggs config.outputs)
                (sym made.skip)
                ∙ ap (λ (aggs : List AggConf). work_of now.proc.skip (steps_of now.proc.chain) aggs config.outputs)
                (sym made.aggs)
                ∙ ap (work_of now.proc.skip (steps_of now.proc.chain) now.proc.aggs) (sym made.filters);
            pushed = made.chain.each;
            known = made.known;
            about = made.about;
            kept = made.kept;
            entries = made.entries;
            put = made.put;
            limits = subst (HaveLimits (map limit_of (map (job_input config) config.inputs))) (sym made.ins_are)
                (limits_from config 0 config.inputs opened.sources times.ins);
            counted = made.counted;
            still = made.still;
          });
      ins_are = made.ins_are;
      outs_are = made.outs_are;
      held = made.held;
      faults = made.faults;
      timer = made.timer;
    }

-- ---- its jobs, one by one

-- one job more, of the next source and the next clock
module _ {S C : Type 0} (told : S → Carried) (timed : C → Timed) (config : Config) where
  pub in_filled : (n number : ℕ) (confs : List InputConf) (jobs : List (InJob S C)) (job : InJob S C) (source : S)
      (sources : List S) (clock : C) (clocks : List C) (conf : InputConf) (all : List InPart) → n < length confs
      → number ≡ n → conf ≡ get_or confs n conf →
      in_of told timed job ≡ fresh_in config number conf (told source) (timed clock) →
      ins_of told timed jobs ++ fresh_ins config n (drop n confs) (map told (source ∷ sources))
      (map timed (clock ∷ clocks)) ≡ all →
      ins_of told timed (jobs ++ job ∷ []) ++ fresh_ins config (n + 1) (drop (n + 1) confs) (map told sources)
      (map timed clocks) ≡ all
  unfolding fresh_ins
  in_filled n number confs jobs job source sources clock clocks conf all b at here is h =
      let rest : List InPart = fresh_ins config (n + 1) (drop (n + 1) confs) (map told sources) (map timed clocks) in
      ap (λ (xs : List InPart). xs ++ rest) (map-append (in_of told timed) jobs (job ∷ []))
      ∙ append_assoc (ins_of told timed jobs) (in_of told timed job ∷ []) rest
      ∙ ap (λ (x : InPart). ins_of told timed jobs ++ x ∷ rest)
      (is ∙ ap (λ (k : ℕ). fresh_in config k conf (told source) (timed clock)) at
      ∙ ap (λ (x : InputConf). fresh_in config n x (told source) (timed clock)) here)
      ∙ ap (λ (xs : List InputConf). ins_of told timed jobs ++ fresh_ins config n xs (map told (source ∷ sources))
      (map timed (clock ∷ clocks))) (sym (drop_more confs n conf b))
      ∙ h

-- all are filled
pub in_filled_all : (config : Config) (n : ℕ) (confs : List InputConf) (sources : List Carried) (clocks : List Timed)
    (ins all : List InPart) → length confs ≤ n → ins ++ fresh_ins config n (drop n confs) sources clocks ≡ all
    → ins ≡ all
unfolding fresh_ins
in_filled_all config n confs sources clocks ins all b h = sym (append-nil ins)
    ∙ ap (λ (xs : List InputConf). ins ++ fresh_ins config n xs sources clocks) (sym (drop_all n confs b)) ∙ h

module _ {K : Type 0} (told : K → Carried) where
  pub out_filled : {C : Type 0} (n number : ℕ) (confs : List OutputConf) (jobs : List (OutJob K C)) (job : OutJob K C)
      (sink : K) (sinks : List K) (conf : OutputConf) (all : List OutPart) → n < length confs → number ≡ n
      → conf ≡ get_or confs n conf →
      out_of told job ≡ fresh_out number conf (told sink) →
      outs_of told jobs ++ fresh_outs n (drop n confs) (map told (sink ∷ sinks)) ≡ all →
      outs_of told (jobs ++ job ∷ []) ++ fresh_outs (n + 1) (drop (n + 1) confs) (map told sinks) ≡ all
  unfolding fresh_outs
  out_filled n number confs jobs job sink sinks conf all b at here is h =
      let rest : List OutPart = fresh_outs (n + 1) (drop (n + 1) confs) (map told sinks) in
      ap (λ (xs : List OutPart). xs ++ rest) (map-append (out_of told) jobs (job ∷ []))
      ∙ append_assoc (outs_of told jobs) (out_of told job ∷ []) rest
      ∙ ap (λ (x : OutPart). outs_of told jobs ++ x ∷ rest) (is ∙ ap (λ (k : ℕ). fresh_out k conf (told sink)) at
      ∙ ap (λ (x : OutputConf). fresh_out n x (told sink)) here)
      ∙ ap (λ (xs : List OutputConf). outs_of told jobs ++ fresh_outs n xs (map told (sink ∷ sinks)))
      (sym (drop_more confs n conf b))
      ∙ h

pub out_filled_all : (n : ℕ) (confs : List OutputConf) (sinks : List Carried) (outs all : List OutPart)
    → length confs ≤ n → outs ++ fresh_outs n (drop n confs) sinks ≡ all → outs ≡ all
unfolding fresh_outs
out_filled_all n confs sinks outs all b h = sym (append-nil outs)
    ∙ ap (λ (xs : List OutputConf). outs ++ fresh_outs n xs sinks) (sym (drop_all n confs b)) ∙ h

-- what is in hand of the next input, and of the others
pub hands_next : (n : ℕ) (confs : List InputConf) (hand : Hand) (hands : List Hand) (conf : InputConf)
    → n < length confs → conf ≡ get_or confs n conf → hand ∷ hands ≡ empty_hands (drop n confs)
    → (hand ≡ empty_hand (cut_of conf.format)) × (hands ≡ empty_hands (drop (n + 1) confs))
hands_next n confs hand hands conf b here e =
    let all : hand ∷ hands ≡ empty_hands (get_or confs n conf ∷ drop (n + 1) confs) =
    e ∙ ap empty_hands (drop_more confs n conf b) in (
      ap (λ (hs : List Hand). get_or hs 0 hand) all ∙ ap (λ (x : InputConf). empty_hand (cut_of x.format)) (sym here),
      ap (drop 1) all,
    )

-- ---- what it leaves

-- what is next comes after what came, within all
pub is_one_of : {X : Type 0} (came : List X) (x : X) (rest all : List X) → came ++ x ∷ rest ≡ all
    → length came < length all
is_one_of [] x rest all e = omega (arith, ap (λ (xs : List _). length xs) e)
is_one_of (y ∷ came) x rest [] e = omega (arith, ap (λ (xs : List _). length xs) e)
is_one_of (y ∷ came) x rest (z ∷ all) e = omega (arith, is_one_of came x rest all (ap (drop 1) e))

-- what came is all, where nothing is left
pub is_all : {X : Type 0} (came rest all : List X) → length rest ≡ 0 → came ++ rest ≡ all → came ≡ all
is_all came [] all none e = sym (append-nil came) ∙ e
is_all came (x ∷ rest) all none e = absurd (omega (arith, none))

-- one source more is taken out of its job
pub in_taken : {S C : Type 0} (told : S → Carried) (timed : C → Timed) (sources : List S) (jobs : List (InJob S C))
    (job : InJob S C) → map told sources ≡ map in_carried (ins_of told timed jobs)
    → map told (sources ++ job.source ∷ []) ≡ map in_carried (ins_of told timed (jobs ++ job ∷ []))
in_taken told timed sources jobs job h =
    map-append told sources (job.source ∷ []) ∙ ap (λ (xs : List Carried). xs ++ told job.source ∷ []) h
    ∙ sym (ap (map in_carried) (map-append (in_of told timed) jobs (job ∷ []))
    ∙ map-append in_carried (ins_of told timed jobs) (in_of told timed job ∷ []))

-- lists that tell the same are of one length
pub same_count : {X Y Z : Type 0} (f : X → Z) (h : Y → Z) (xs : List X) (ys : List Y) → map f xs ≡ map h ys
    → length xs ≡ length ys
same_count {X} {Y} {Z} f h xs ys e = sym (length-map xs f) ∙ ap (λ (zs : List Z). length zs) e ∙ length-map ys h

same_tail : (old new : InPart) (olds news : List InPart) → AreSameInputs (old ∷ olds) (new ∷ news)
    → AreSameInputs olds news
same_tail old new olds news h = record {
  count = omega (arith, h.count);
  each = λ k l. h.each (suc k) (omega (arith, l));
}

input_run : (config : Config) (n : ℕ) (conf : InputConf) (source : Carried) (clock : Timed) (last : InPart)
    → IsSameInput (fresh_in config n conf source clock) last →
    in_run (fresh_in config n conf source clock) last ≡ record {
      rule = rule_by config conf;
      place = change source.bytes last.left source.faults last.read_faults;
      moments = clock.moments;
    }
input_run config n conf source clock last same = rw (same.rule, same.moments) refl

pub ins_left : (config : Config) (n : ℕ) (confs : List InputConf) (sources : List Carried) (clocks : List Timed)
    (lasts : List InPart) → AreSameInputs (fresh_ins config n confs sources clocks) lasts
    → in_runs (fresh_ins config n confs sources clocks) lasts ≡ config_ins config confs sources
    (map in_carried lasts) clocks
unfolding fresh_ins config_ins
ins_left config n [] sources clocks lasts same = refl
ins_left config n (conf ∷ confs) [] clocks lasts same = refl
ins_left config n (conf ∷ confs) (source ∷ sources) [] [] same = refl
ins_left config n (conf ∷ confs) (source ∷ sources) [] (last ∷ lasts) same = refl
ins_left config n (conf ∷ confs) (source ∷ sources) (clock ∷ clocks) [] same = absurd (omega (arith, same.count))
ins_left config n (conf ∷ confs) (source ∷ sources) (clock ∷ clocks) (last ∷ lasts) same =
    ap (λ (x : InRun). x ∷ in_runs (fresh_ins config (n + 1) confs sources clocks) lasts)
    (input_run config n conf source clock last (same.each 0 (omega arith)))
    ∙ ap (λ (xs : List InRun). let first : InRun = record {
      rule = rule_by config conf;
      place = change source.bytes last.left source.faults last.read_faults;
      moments = clock.moments;
    } in first ∷ xs)
    (ins_left config (n + 1) confs sources clocks lasts (same_tail (fresh_in config n conf source clock) last
    (fresh_ins config (n + 1) confs sources clocks) lasts same))

pub outs_left : (n : ℕ) (confs : List OutputConf) (sinks : List Carried) (lasts : List OutPart)
    → out_runs (fresh_outs n confs sinks) lasts ≡ config_outs confs sinks (map out_carried lasts)
unfolding fresh_outs config_outs
outs_left n [] sinks lasts = refl
outs_left n (conf ∷ confs) [] lasts = refl
outs_left n (conf ∷ confs) (sink ∷ sinks) [] = refl
outs_left n (conf ∷ confs) (sink ∷ sinks) (last ∷ lasts) = ap
    (λ (xs : List OutRun). out_run (fresh_out n conf sink) last ∷ xs) (outs_left (n + 1) confs sinks lasts)

-- there are as many inputs and outputs as the configuration has
pub ins_count : (config : Config) (start : ℤ) (opened : Carries) (times : Times) (now : RunState)
    → IsMadeOf config start opened times now → length opened.sources ≡ length config.inputs
    → length times.ins ≡ length config.inputs → length now.ins ≡ length config.inputs
ins_count config start opened times now made s c = ap (λ (xs : List InPart). length xs) made.ins_are
    ∙ length-fresh_ins config 0 config.inputs opened.sources times.ins s c

pub outs_count : (config : Config) (start : ℤ) (opened : Carries) (times : Times) (now : RunState)
    → IsMadeOf config start opened times now → length opened.sinks ≡ length config.outputs
    → length now.outs ≡ length config.outputs
outs_count config start opened times now made k = ap (λ (xs : List OutPart). length xs) made.outs_are
    ∙ length-fresh_outs 0 config.outputs opened.sinks k

-- a change by other terms
change_is : (ins other_ins : List InRun) (outs other_outs : List OutRun) (journal other_journal : Change)
    (moments other_moments : Option Moments) → ins ≡ other_ins → outs ≡ other_outs → journal ≡ other_journal
    → moments ≡ other_moments →
    (let x : RunChange = record { ins = ins; outs = outs; journal = journal; moments = moments } in
    let y : RunChange = record {
      ins = other_ins;
      outs = other_outs;
      journal = other_journal;
      moments =
          other_moments;
    } in x ≡ y)
change_is ins other_ins outs other_outs journal other_journal moments other_moments a b c d = rw (a, b, c, d) refl

-- what the parts carry at the end
abbrev pub carried_at : RunState → Carries
carried_at now = record {
  sources = map in_carried now.ins;
  sinks = map out_carried now.outs;
  journal = record { bytes = now.journal.held; faults = now.journal.faults };
}

left_by : (config : Config) (start : ℤ) (opened : Carries) (times : Times) (now last : RunState) (ending : Ending)
    → IsMadeOf config start opened times now → length opened.sources ≡ length config.inputs
    → length times.ins ≡ length config.inputs → now.counted_at ≡ [] → Gives now.timer.moments 0 now.timer.next start →
    AreSameInputs now.ins last.ins → FinishesSo (job_of config) ending now last
    → Ran (job_of config) ending (change_by config opened (carried_at last) times)
left_by config start opened times now last ending made s c none gives same ends =
    let none_yet : RunState = record now { counted_at = [] } in
    let agrees = subst (λ (ms : List ℤ). Progress (begun (job_of config) start now) (record now { counted_at = ms }))
    none made.set_up.agrees in
    let finished = ends (begun (job_of config) start now) [] refl refl refl (λ f. made.set_up.settled) agrees in
    let number : length last.ins ≡ length (job_of config).inputs =
    same.count ∙ ins_count config start opened times now made s c ∙ sym (length-map config.inputs (job_input config)) in
    let all = ran (job_of config) start ending none_yet last gives refl number finished in
    subst (Ran (job_of config) ending)
    (change_is (in_runs now.ins last.ins) (config_ins config config.inputs opened.sources
    (map in_carried last.ins) times.ins) (out_runs now.outs last.outs)
    (config_outs config.outputs opened.sinks (map out_carried last.outs))
    (part_change now.journal last.journal) (change opened.journal.bytes last.journal.held opened.journal.faults
    last.journal.faults) now.timer.moments times.timer.moments
    (ap (λ (xs : List InPart). in_runs xs last.ins) made.ins_are
    ∙ ins_left config 0 config.inputs opened.sources times.ins last.ins
    (subst (λ (xs : List InPart). AreSameInputs xs last.ins) made.ins_are same))
    (ap (λ (xs : List OutPart). out_runs xs last.outs) made.outs_are
    ∙ outs_left 0 config.outputs opened.sinks last.outs)
    (rw (made.held, made.faults) refl)
    (ap (λ (t : Timed). t.moments) made.timer))
    all

-- the same of a result, and by other terms
pub ran_by : (config : Config) (start : ℤ) (opened news : Carries) (times : Times) (now last : RunState)
    (r : Result Ending OutOfMemory) → IsMadeOf config start opened times now
    → length opened.sources ≡ length config.inputs → length times.ins ≡ length config.inputs → now.counted_at ≡ []
    → Gives now.timer.moments 0 now.timer.next start →
    news ≡ carried_at last → OnOk r (AreSameInputs now.ins last.ins)
    → IfOk r (λ ending. FinishesSo (job_of config) ending now last)
    → IfOk r (λ ending. Ran (job_of config) ending (change_by config opened news times))
ran_by config start opened news times now last (Err fault) made s c none gives n same ends = tt
ran_by config start opened news times now last (Ok ending) made s c none gives n same ends =
    subst (λ (x : Carries). Ran (job_of config) ending (change_by config opened x times)) (sym n)
    (left_by config start opened times now last ending made s c none gives same ends)

-- what opened parts carry, by other terms
pub carries_is : (sources other_sources sinks other_sinks : List Carried) (journal other : Carried)
    → sources ≡ other_sources → sinks ≡ other_sinks → journal ≡ other →
    (let x : Carries = record { sources = sources; sinks = sinks; journal = journal } in
    let y : Carries = record { sources = other_sources; sinks = other_sinks; journal = other } in x ≡ y)
carries_is sources other_sources sinks other_sinks journal other a b c = rw (a, b, c) refl

-- and by another clock with the same moments
pub ran_timed : (config : Config) (opened news : Carries) (times : Times) (timer : Timed)
    (r : Result Ending OutOfMemory) → times.timer.moments ≡ timer.moments
    → IfOk r (λ ending. Ran (job_of config) ending (change_by config opened news times)) →
    IfOk r (λ ending. Ran (job_of config) ending (change_by config opened news (record times { timer = timer })))
ran_timed config opened news times timer r same h = subst (λ (m : Option Moments). IfOk r
    (λ ending. Ran (job_of config) ending (record (change_by config opened news times) { moments = m }))) same h

-- a run that ends for each job that is tried so often ends for one
pub finishes_as : (job : Job) (tries : ℕ) (now last : RunState) (r : Result Ending OutOfMemory) → job.tries ≡ tries
    → IfOk r (λ ending. (other : Job) → other.tries ≡ tries → FinishesSo other ending now last)
    → IfOk r (λ ending. FinishesSo job ending now last)
finishes_as job tries now last (Err fault) same h = tt
finishes_as job tries now last (Ok ending) same h = h job same
