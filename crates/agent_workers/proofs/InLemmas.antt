-- Inputs by their indices: one changes, and the others stay.
use Rattle.std.proofs.Common.{◌≡◌, ◌≢◌, ◌≤◌, ◌<◌, ◌+◌, ℕ, zero, suc, Bool, true, false, List, [], ◌∷◌, length}
use Rattle.std.proofs.Common.{length-append, get_or, set, replicate, refl, sym, ap, ◌∙◌, subst, inl, inr, arith}
use Rattle.std.proofs.Common.{below_more, Err}
use Rattle.std.specs.Prelude.{slice_get, slice_index_or, is_some, ◌||◌, IfSome}
use Rattle.std.proofs.lemmas.Bool.{cases_lt}
use Rattle.std.proofs.lemmas.List.{length-map, length-set, get_or-map, get_or-set_same, get_or-set_other}
use Rattle.std.specs.declared.option.Option.{Option}
use Rattle.std.specs.declared.option.Option.TheVariants.{Some, None}
use Rattle.agent_base.specs.Carried.{Timed, Carried}
use Rattle.account.specs.Numbers.{Numbers, input_numbers, unreached_output, with_input}
use Rattle.account.specs.declared.numbers.OutputNumbers.{OutputNumbers}
use Rattle.agent_base.specs.Hand.{Hand}
use Rattle.account.specs.declared.entry.Entry.TheVariants.{Ended}
use Rattle.pipeline_core.specs.CoreState.{CoreState}
use Rattle.pipeline_core.specs.Steps.{after_gather, after_ended, gather_entry, gather_reports, gathered_too, most_of}
use Rattle.pipeline_core.specs.Steps.{IsGatherAnswer}
use Rattle.pipeline_core.proofs.Keeping.{reported_rest}
use Rattle.pipeline_core.specs.declared.gathering.Gathered.{Gathered}
use Rattle.pipeline_core.specs.declared.gathering.GatherRefused.{GatherRefused}
use Rattle.pipeline_core.specs.declared.gathering.GatherRefused.TheVariants.{HeldRaw, HeldUndelivered}
use Rattle.formats.specs.declared.pieces.InState.{InState}
use Rattle.formats.specs.declared.pieces.InState.TheVariants as states
use Rattle.agent_workers.specs.declared.input.InJob.{InJob}
use Rattle.agent_workers.specs.Inputs.{InPart, in_of, ins_of, in_at, no_in, is_ended, IsSameInput, AreSameInputs}
use Rattle.agent_workers.specs.Inputs.{FitsInput, AreInputs, HaveLimits, IsCutBy, HoldsNoEnd, HoldsOwn, IsReadable}
use Rattle.agent_workers.specs.Inputs.{IsMoved}
use Rattle.agent_workers.specs.Inputs.{IsFullOf, OneIsFull, IsOneIn, AreFresh}
use Rattle.formats.specs.Reader.{FitsGather}
use Rattle.agent_workers.specs.Output.{AreOutputs, OutPart}
use Rattle.agent_workers.specs.RunState.{AreFit, IsAboutSame, RunState}
use Rattle.agent_workers.specs.Progress.{still_after, Progress, GathersAt, GathersTo}
use Rattle.agent_workers.specs.Running.{IsReady, AreSettled, IsGathered, IsGatheredAt, HasOffered, IsQuiet, IsQuietTurn}
use Rattle.agent_workers.specs.Running.{AreQuietTurns, IsAtLimit, IsHeldIn, IsOutOrHeld}
use Rattle.agent_workers.specs.Inputs.{is_accepted}
use Rattle.agent_workers.specs.declared.input.Offered.{Offered}
use Rattle.agent_workers.specs.declared.input.Offered.TheVariants as offers
use Rattle.account.specs.Setup.{Setup}
use Rattle.track_groups.specs.Tracker.{TrackerState, live_of}
use Rattle.agent_workers.specs.Running.{buffered_at}
use Rattle.agent_workers.proofs.HeardLemmas.{not_ended, holds_no_end}
use Rattle.agent_workers.proofs.OutLemmas.{each_set, ready_same}
use Rattle.agent_workers.proofs.PartsLemmas.{proc_fits}
use Rattle.agent_workers.proofs.ProgressLemmas.{went_behind}

-- ---- the same inputs

pub same_input : (first old new : InPart) → IsSameInput first old → IsSameInput old new → IsSameInput first new
same_input first old new h k = record {
  input = k.input ∙ h.input;
  rule = k.rule ∙ h.rule;
  limit = k.limit ∙ h.limit;
  moments = k.moments ∙ h.moments;
}

pub same_inputs : (firsts olds news : List InPart) → AreSameInputs firsts olds → AreSameInputs olds news
    → AreSameInputs firsts news
same_inputs firsts olds news h k = record {
  count = k.count ∙ h.count;
  each = λ i l. same_input (in_at firsts i)
      (in_at olds i) (in_at news i) (h.each i l) (k.each i (omega (arith, l, h.count)));
}

pub inputs_themselves : (ins : List InPart) → AreSameInputs ins ins
inputs_themselves ins = record {
  count = refl;
  each = λ i l. record { input = refl; rule = refl; limit = refl; moments = refl };
}

pub same_set : (firsts ins : List InPart) (n : ℕ) (part : InPart) → n < length ins → AreSameInputs firsts ins
    → IsSameInput (in_at ins n) part → AreSameInputs firsts (set ins n part)
same_set firsts ins n part b h k =
    let each : (i : ℕ) → i < length (set ins n part) → IsSameInput (in_at firsts i) (get_or (set ins n part) i no_in) =
    each_set (λ (i : ℕ) (x : InPart). IsSameInput (in_at firsts i) x) ins n part no_in b
    (same_input (in_at firsts n) (in_at ins n) part (h.each n (omega (arith, b, h.count))) k)
    (λ i l ne. h.each i (omega (arith, l, h.count))) in
    record {
      count = length-set ins n part ∙ h.count;
      each = λ i l. each i
          (omega (arith, l, h.count, length-set ins n part));
    }

-- ---- inputs that fit a core

pub fits_still : (index : ℕ) (old new : List Bool) (part : InPart) → slice_get new index ≡ slice_get old index
    → FitsInput index old part → FitsInput index new part
fits_still index old new part same h = record {
  number = h.number;
  readable = h.readable;
  cut_by = h.cut_by;
  ended_is = same ∙ h.ended_is;
  own = h.own;
  none_held = h.none_held;
}

pub inputs_set : (count n : ℕ) (old new : CoreState) (ins : List InPart) (part : InPart) → n < count
    → IsGatheredAt n old new → FitsInput n new.ended part → AreInputs count old.ended ins
    → AreInputs count new.ended (set ins n part)
inputs_set count n old new ins part b at fits h =
    let each : (i : ℕ) → i < length (set ins n part) → FitsInput i new.ended (get_or (set ins n part) i no_in) =
    each_set (λ (i : ℕ) (x : InPart). FitsInput i new.ended x) ins n part no_in (omega (arith, b, h.count_is)) fits
    (λ i l ne. fits_still i old.ended new.ended (in_at ins i) (at.others i ne)
    (h.each i (omega (arith, l, h.count_is)))) in
    record {
      count_is = length-set ins n part ∙ h.count_is;
      each = λ i l. each i
          (omega (arith, l, h.count_is, length-set ins n part));
    }

-- what ended is as before
pub inputs_still : (count : ℕ) (old new : List Bool) (ins : List InPart) → new ≡ old → AreInputs count old ins
    → AreInputs count new ins
inputs_still count old new ins same h = subst (λ (ended : List Bool). AreInputs count ended ins) (sym same) h

-- ---- cores that gather

pub gathered_none : (core : CoreState) → IsGathered core core
gathered_none core = record {
  setup = refl;
  held = refl;
  stopped = refl;
  lanes = refl;
  numbers = refl;
  stored = omega arith;
  raw = omega arith;
}

pub gathered_then : (old mid new : CoreState) → IsGathered old mid → IsGathered mid new → IsGathered old new
gathered_then old mid new h k = record {
  setup = k.setup ∙ h.setup;
  held = k.held ∙ h.held;
  stopped = k.stopped ∙ h.stopped;
  lanes = k.lanes ∙ h.lanes;
  numbers = k.numbers ∙ h.numbers;
  stored = omega (arith, h.stored, k.stored);
  raw = omega (arith, h.raw, k.raw);
}

pub gathered_at_then : (n : ℕ) (old mid new : CoreState) → IsGatheredAt n old mid → IsGatheredAt n mid new
    → IsGatheredAt n old new
gathered_at_then n old mid new h k = record {
  kept = gathered_then old mid new h.kept k.kept;
  others = λ i ne. k.others i ne ∙ h.others i ne;
}

-- the outputs are settled as before
pub settled_gathered : (old new : CoreState) (outs : List OutPart) → IsGathered old new → AreSettled old outs
    → AreSettled new outs
settled_gathered old new outs h s = λ o l.
    let same : buffered_at new o ≡ buffered_at old o = ap (λ (xs : List OutputNumbers).
    (get_or xs o unreached_output).buffered) h.numbers in
    elim (s o l) [
      | inl none ↦ inl (same ∙ none)
      | inr some ↦ inr some
    ]

-- it came on with one of two steps, or with none
twice : (accepted more : Bool) (still : ℕ)
    → still_after more (still_after accepted still) ≡ still_after (accepted || more) still
twice true true still = refl
twice true false still = refl
twice false more still = refl

-- one input more had its turn
pub gathers_then : (n : ℕ) (accepted more : Bool) (old mid new : CoreState) (ins mid_ins : List InPart)
    (part new_part : InPart) → IsGathered old mid → part.input ≡ n → n < length mid_ins → in_at mid_ins n ≡ part
    → GathersAt more mid new part new_part → GathersTo n accepted old mid ins mid_ins
    → GathersTo (n + 1) (accepted || more) old new ins (set mid_ins n new_part)
gathers_then n accepted more old mid new ins mid_ins part new_part kept number b at turn h = λ start now settled w.
    let count : ℕ = still_after accepted now.still in
    let from : Progress start (record now
    { core = mid; ins = mid_ins; next = part.input; ticked = true; still = count }) =
    subst (λ (k : ℕ). Progress start (record now { core = mid; ins = mid_ins; next = k; ticked = true; still = count }))
    (sym number) (h start now settled w) in
    subst (λ (k : ℕ). Progress start (record now {
      core = new;
      ins = set mid_ins k new_part;
      next = k + 1;
      ticked = true;
      still = still_after (accepted || more) now.still;
    })) number
    (subst (λ (still : ℕ). Progress start (record now {
      core = new;
      ins = set mid_ins part.input new_part;
      next = part.input + 1;
      ticked = true;
      still = still;
    })) (twice accepted more now.still)
    (turn mid_ins (omega (arith, b, number)) (ap (in_at mid_ins) number ∙ at) start (record now { still = count })
    (λ f. settled_gathered old mid now.outs kept (settled f)) from))

-- the others had none
pub gathers_on : (n : ℕ) (accepted : Bool) (old new : CoreState) (ins new_ins : List InPart) → n ≤ length ins
    → GathersTo n accepted old new ins new_ins → GathersTo (length ins) accepted old new ins new_ins
gathers_on n accepted old new ins new_ins l h = λ start now settled w. went_behind start new
    (record now { ins = new_ins; ticked = true; still = still_after accepted now.still }) n (length ins) l
    (h start now settled w)

pub gathers_nothing : (core : CoreState) (ins : List InPart) → GathersTo 0 false core core ins ins
gathers_nothing core ins = λ start now settled w. w

-- ---- parts of jobs

pub input_here : {S C : Type 0} (told : S → Carried) (timed : C → Timed) (jobs : List (InJob S C)) (i : ℕ)
    (d : InJob S C) → i < length jobs → in_at (ins_of told timed jobs) i ≡ in_of told timed (get_or jobs i d)
input_here told timed jobs i d b = get_or-map (in_of told timed) jobs i d no_in b

-- the same of a job that was read there
pub job_here : {S C : Type 0} (told : S → Carried) (timed : C → Timed) (jobs : List (InJob S C)) (i : ℕ)
    (job : InJob S C) → i < length jobs → job ≡ get_or jobs i job
    → in_at (ins_of told timed jobs) i ≡ in_of told timed job
job_here told timed jobs i job b is = input_here told timed jobs i job b ∙ ap (in_of told timed) (sym is)

-- and it has the number of its place
pub job_number : {S C : Type 0} (told : S → Carried) (timed : C → Timed) (jobs : List (InJob S C)) (count : ℕ)
    (ended : List Bool) (i : ℕ) (job : InJob S C) → AreInputs count ended (ins_of told timed jobs) → i < length jobs
    → job ≡ get_or jobs i job → (job.input ≡ i) × (i < count)
job_number told timed jobs count ended i job are b is =
    let within : i < count = omega (arith, b, are.count_is, length-map jobs (in_of told timed)) in (
      ap (λ (part : InPart). part.input) (sym (job_here told timed jobs i job b is)) ∙ (are.each i within).number,
      within,
    )

-- the first so many jobs are in no such state
abbrev pub AreNone : {S C : Type 0} → (S → Carried) → (C → Timed) → InState → List (InJob S C) → ℕ → Type 0
AreNone told timed state jobs i = (k : ℕ) → k < i → (in_at (ins_of told timed jobs) k).state ≢ state

module _ {S C : Type 0} (told : S → Carried) (timed : C → Timed) (state : InState) (jobs : List (InJob S C)) (i : ℕ)
    (none : AreNone told timed state jobs i) where
  -- nor is one more
  pub none_more : (job : InJob S C) → i < length jobs → job ≡ get_or jobs i job → job.state ≢ state
      → AreNone told timed state jobs (i + 1)
  none_more job b is other = below_more _ _ none (subst (λ (x : InPart). x.state ≢ state)
      (sym (job_here told timed jobs i job b is)) other)

  -- nor is any
  pub none_in : length jobs ≤ i → IsOneIn state (ins_of told timed jobs) false
  none_in all = λ k l. none k (omega (arith, l, all, length-map jobs (in_of told timed)))

pub one_is_full : (gathered : ℕ) (ins : List InPart) (n : ℕ) (part : InPart) → n < length ins → IsFullOf gathered part
    → OneIsFull gathered (set ins n part)
one_is_full gathered ins n part b h = (
  n,
  omega (arith, b, length-set ins n part),
  subst (IsFullOf gathered) (sym (get_or-set_same ins n part no_in b)) h,
)

-- ---- an input that fits, by its job

module _ {S C : Type 0} (told : S → Carried) (timed : C → Timed) (jobs : List (InJob S C)) (i : ℕ) (d : InJob S C)
    (count : ℕ) (ended : List Bool) (b : i < length jobs) (h : AreInputs count ended (ins_of told timed jobs)) where
  within : i < count
  within = omega (arith, b, h.count_is, length-map jobs (in_of told timed))

  at_index : FitsInput i ended (in_of told timed (get_or jobs i d))
  at_index = subst (FitsInput i ended) (input_here told timed jobs i d b) (h.each i within)

  pub input_number : (get_or jobs i d).input ≡ i
  input_number = at_index.number

  pub fits_here : FitsInput (get_or jobs i d).input ended (in_of told timed (get_or jobs i d))
  fits_here = subst (λ (k : ℕ). FitsInput k ended (in_of told timed (get_or jobs i d))) (sym at_index.number) at_index

-- ---- what a gather and an end leave of a core

get_other : (xs : List Bool) (i k : ℕ) (y : Bool) → k ≢ i → slice_get (set xs i y) k ≡ slice_get xs k
get_other [] i k y ne = refl
get_other (x ∷ xs) zero zero y ne = absurd (ne refl)
get_other (x ∷ xs) zero (suc k) y ne = refl
get_other (x ∷ xs) (suc i) zero y ne = refl
get_other (x ∷ xs) (suc i) (suc k) y ne = get_other xs i k y (λ e. ne (ap suc e))

get_same : (xs : List Bool) (i : ℕ) (y z : Bool) → slice_get xs i ≡ Some z → slice_get (set xs i y) i ≡ Some y
get_same [] i y z e = absurd (let n : None ≡ Some z = e in cc)
get_same (x ∷ xs) zero y z e = refl
get_same (x ∷ xs) (suc i) y z e = get_same xs i y z e

pub gathered_core : (i : ℕ) (core next : CoreState) (g : Gathered) → next ≡ after_gather core g
    → IsGatheredAt i core next
gathered_core i core next g is = record {
  kept = record {
    setup = ap (λ (s : CoreState). s.setup) is;
    held = ap (λ (s : CoreState). s.held) is;
    stopped = ap (λ (s : CoreState). s.stopped) is;
    lanes = ap (λ (s : CoreState). s.lanes) is;
    numbers = ap (λ (s : CoreState). s.numbers.outputs) is
        ∙ ap (λ (n : Numbers). n.outputs) (reported_rest (with_input core.numbers g.input
        (gathered_too (input_numbers core.numbers g.input) g (is_some (most_of core g.input))))
        (gather_reports core g));
    stored = omega (
      arith,
      ap (λ (s : CoreState). length s.stored) is,
      length-append core.stored (gather_entry core g ∷ []),
    );
    raw = omega (arith, ap (λ (s : CoreState). length s.raw) is, length-append core.raw g.metrics);
  };
  others = λ k ne. ap (λ (s : CoreState). slice_get s.ended k) is;
}

-- a gather is an entry more
pub moved_core : (core next : CoreState) (g : Gathered) → next ≡ after_gather core g
    → length core.stored < length next.stored
moved_core core next g is = omega (
  arith,
  ap (λ (s : CoreState). length s.stored) is,
  length-append core.stored (gather_entry core g ∷ []),
)

pub ended_core : (i : ℕ) (core next : CoreState) → next ≡ after_ended core i → IsGatheredAt i core next
ended_core i core next is = record {
  kept = record {
    setup = ap (λ (s : CoreState). s.setup) is;
    held = ap (λ (s : CoreState). s.held) is;
    stopped = ap (λ (s : CoreState). s.stopped) is;
    lanes = ap (λ (s : CoreState). s.lanes) is;
    numbers = ap (λ (s : CoreState). s.numbers.outputs) is;
    stored = omega (arith, ap (λ (s : CoreState). length s.stored) is, length-append core.stored (Ended i ∷ []));
    raw = omega (arith, ap (λ (s : CoreState). length s.raw) is);
  };
  others = λ k ne. ap (λ (s : CoreState). slice_get s.ended k) is ∙ get_other core.ended i k true ne;
}

pub same_core : (i : ℕ) (core next : CoreState) → next ≡ core → IsGatheredAt i core next
same_core i core next same = subst (IsGatheredAt i core) (sym same)
    (record { kept = gathered_none core; others = λ k ne. refl })

-- the core is ready as before
pub ready_gathered : (i : ℕ) (old new : CoreState) → IsGatheredAt i old new → IsReady old → IsReady new
ready_gathered i old new h ready = ready_same old new h.kept.setup h.kept.lanes h.kept.held ready

-- an input whose groups aren't fewer than they may be
pub at_limit : (core : CoreState) (input : ℕ) (all : List (Option ℕ)) → all ≡ core.setup.inputs
    → ¬ IfSome (slice_index_or all input None) (λ most. live_of core.tracker input < most) → IsAtLimit core input
at_limit core input all are h = limit_of (slice_index_or all input None) refl h
  where
    found : (all : List (Option ℕ)) (k most : ℕ) → slice_index_or all k None ≡ Some most
        → slice_get all k ≡ Some (Some most)
    found [] k most e = absurd (let x : None ≡ Some most = e in cc)
    found (x ∷ all) zero most e = ap Some e
    found (x ∷ all) (suc k) most e = found all k most e

    limit_of : (o : Option ℕ) → slice_index_or all input None ≡ o
        → ¬ IfSome o (λ most. live_of core.tracker input < most) → IsAtLimit core input
    limit_of None e none = absurd (none tt)
    limit_of (Some most) e none = record {
      most = most;
      tracked = ap (λ (xs : List (Option ℕ)). slice_get xs input) (sym are) ∙ found all input most e;
      full = elim (cases_lt (live_of core.tracker input) most) [ inl less ↦ absurd (none less) | inr least ↦ least ];
    }

-- so it is where a gather is held back since groups are undelivered
pub undelivered_at : (core : CoreState) (g back : Gathered) (why : GatherRefused) → why ≡ HeldUndelivered back
    → IsGatherAnswer core g (Err why) → IsAtLimit core g.input
undelivered_at core g back why is h =
    let answer = subst (λ (w : GatherRefused). IsGatherAnswer core g (Err w)) is h in
    at_limit core g.input core.setup.inputs refl answer.2

-- and where one is held back since items are raw
pub raw_there : (core : CoreState) (g back : Gathered) (why : GatherRefused) → why ≡ HeldRaw back
    → IsGatherAnswer core g (Err why) → core.raw ≢ []
raw_there core g back why is h = λ e.
    let answer = subst (λ (w : GatherRefused). IsGatherAnswer core g (Err w)) is h in
    answer.3 (inl (ap length e))

no_end_none : (state : InState) → HoldsNoEnd state None
no_end_none states.Reading = tt
no_end_none states.Ended = refl
no_end_none states.Faulted = tt
no_end_none states.LimitReached = tt

-- an input that fits, once what it held was gathered, or was too much
pub fits_gathered : (index : ℕ) (old new : List Bool) (part : InPart) → new ≡ old → FitsInput index old part
    → FitsInput index new (record part { held = None })
fits_gathered index old new part same h = record {
  number = h.number;
  readable = h.readable;
  cut_by = h.cut_by;
  ended_is = ap (λ (ended : List Bool). slice_get ended index) same ∙ h.ended_is;
  own = tt;
  none_held = no_end_none part.state;
}

pub fits_full : (index : ℕ) (old new : List Bool) (part : InPart) (g : Gathered) → new ≡ old → part.held ≡ Some g
    → FitsInput index old part → FitsInput index new (record part { held = Some g; state = states.LimitReached })
fits_full index old new part g same held h = record {
  number = h.number;
  readable = h.readable;
  cut_by = h.cut_by;
  ended_is = ap (λ (ended : List Bool). slice_get ended index) same ∙ h.ended_is
      ∙ ap Some (not_ended part.state (holds_no_end part.state g (subst (HoldsNoEnd part.state) held h.none_held)));
  own = subst (λ (x : Option Gathered). IfSome x (λ y. (y.input ≡ part.input)
      × FitsGather part.rule (length y.metrics))) held h.own;
  none_held = tt;
}

-- and once its end was noted
pub fits_ended : (core next : CoreState) (part : InPart) → next ≡ after_ended core part.input → part.held ≡ None
    → part.state ≡ states.Reading → FitsInput part.input core.ended part
    → FitsInput part.input next.ended (record part { state = states.Ended })
fits_ended core next part is free reading h = record {
  number = h.number;
  readable = h.readable;
  cut_by = h.cut_by;
  ended_is = ap (λ (s : CoreState). slice_get s.ended part.input) is
      ∙ get_same core.ended part.input true (is_ended part.state) h.ended_is;
  own = subst (λ (x : Option Gathered). IfSome x (λ y. (y.input ≡ part.input)
      × FitsGather part.rule (length y.metrics))) (sym free) tt;
  none_held = free;
}

get_replicate : (n k : ℕ) → k < n → slice_get (replicate n false) k ≡ Some false
get_replicate zero k l = absurd (omega (arith, l))
get_replicate (suc n) zero l = refl
get_replicate (suc n) (suc k) l = get_replicate n k (omega (arith, l))

-- inputs of which nothing was read fit a core in which nothing happened
pub fit_first : (n count : ℕ) (ended : List Bool) (ins : List InPart) → count ≡ n → length ins ≡ n
    → ended ≡ replicate n false → AreFresh ins → AreInputs count ended ins
fit_first n count ended ins same long none h = record {
  count_is = long ∙ sym same;
  each = λ k l.
      let b : k < length ins = omega (arith, l, same, long) in
      let fresh = h.fresh k b in
      record {
        number = h.numbered k b;
        readable = h.readable k b;
        cut_by = ap (λ (hand : Hand). hand.kind) fresh.hand;
        ended_is = ap (λ (xs : List Bool). slice_get xs k) none ∙ get_replicate n k (omega (arith, l, same))
            ∙ sym (ap (λ (s : InState). Some (is_ended s)) fresh.reading);
        own = subst (λ (x : Option Gathered). IfSome x (λ g. (g.input ≡ (in_at ins k).input)
            × FitsGather (in_at ins k).rule (length g.metrics))) (sym fresh.none_held) tt;
        none_held = subst (HoldsNoEnd (in_at ins k).state) (sym fresh.none_held) (no_end_none (in_at ins k).state);
      };
}

-- ---- the turn of an input

-- an input that fits, once it was read
pub fits_read : (ended : List Bool) (old new : InPart) → FitsInput old.input ended old → IsSameInput old new
    → is_ended new.state ≡ is_ended old.state → IsCutBy new → HoldsOwn new → HoldsNoEnd new.state new.held
    → FitsInput new.input ended new
fits_read ended old new h same state cut own none = record {
  number = refl;
  readable = subst IsReadable (sym same.rule) h.readable;
  cut_by = cut;
  ended_is = ap (slice_get ended) same.input ∙ h.ended_is ∙ ap Some (sym state);
  own = own;
  none_held = none;
}

pub fits_own : (index : ℕ) (ended : List Bool) (part : InPart) → FitsInput index ended part
    → FitsInput part.input ended part
fits_own index ended part h = subst (λ (k : ℕ). FitsInput k ended part) (sym h.number) h

-- the limits are as before, where the inputs are the same
limits_still : (limits others : List (Option ℕ)) (olds news : List InPart) → others ≡ limits
    → AreSameInputs olds news → HaveLimits limits olds → HaveLimits others news
limits_still limits others olds news setup same h = λ k l.
    let b : k < length olds = omega (arith, l, same.count) in
    ap (λ (xs : List (Option ℕ)). slice_get xs k) setup ∙ h k b ∙ ap Some (sym (same.each k b).limit)

-- what a run consists of fits still, where what it is about is the same, and its inputs and its outputs fit
pub fits_on : (old new : RunState) → IsAboutSame old new
    → AreInputs (length old.core.setup.inputs) new.core.ended new.ins
    → AreOutputs (length old.core.setup.outputs) new.outs → AreFit old → AreFit new
fits_on old new about inputs outputs fit = record {
  inputs = subst (λ (n : ℕ). AreInputs n new.core.ended new.ins)
      (sym (ap (λ (s : Setup). length s.inputs) about.setup)) inputs;
  limits = limits_still old.core.setup.inputs new.core.setup.inputs old.ins new.ins
      (ap (λ (s : Setup). s.inputs) about.setup) about.inputs fit.limits;
  outputs = subst (λ (n : ℕ). AreOutputs n new.outs) (sym (ap (λ (s : Setup). length s.outputs) about.setup)) outputs;
  filters = proc_fits old.core new.core old.proc new.proc fit.filters about.setup about.proc;
}

-- what isn't accepted stays so while the live groups, and what is raw, are as they were
pub held_still : (old new : CoreState) (input : ℕ) → IsQuiet old new → new.setup ≡ old.setup → IsHeldIn old input
    → IsHeldIn new input
held_still old new input quiet same (inl raw) = inl (λ e. raw (sym quiet.raw ∙ e))
held_still old new input quiet same (inr full) = inr (record {
  most = full.most;
  tracked = ap (λ (s : Setup). slice_get s.inputs input) same ∙ full.tracked;
  full = subst (λ (t : TrackerState). full.most ≤ live_of t input) (sym quiet.tracker) full.full;
})

-- an offer that was held back
pub held_as_before : (old new : CoreState) (part new_part : InPart) → new ≡ old → new_part.state ≡ part.state
    → IsHeldIn old part.input → HasOffered offers.Held old new part new_part
held_as_before old new part new_part same room held = record {
  full = λ e. absurd (let x : offers.Held ≡ offers.Full = e in cc);
  room = λ e. room;
  nothing = λ e. absurd (let x : offers.Held ≡ offers.Nothing = e in cc);
  accepted = λ e. absurd (let x : offers.Held ≡ offers.Accepted = e in cc);
  held = λ e. (same, held);
}

quiet_as : (old mid new : CoreState) → mid ≡ old → IsQuiet mid new → IsQuiet old new
quiet_as old mid new is h = subst (λ (s : CoreState). IsQuiet s new) is h

-- where no gather was accepted the live groups and the raw items are as before, and the input is out, or held back
pub turn_quiet : (met : Bool) (offer : Offered) (old offered new : CoreState) (read part last : InPart)
    → HasOffered offer old offered read part → (offer ≢ offers.Full) → is_accepted offer ≡ false
    → IsQuiet offered new → new.setup ≡ offered.setup → (met ≡ true → read.state ≡ states.Reading)
    → (met ≡ false → IsMoved read) → last.input ≡ read.input → last.held ≡ part.held
    → (met ≡ true → part.held ≡ None → part.state ≡ states.Reading → last.state ≡ states.Ended)
    → (met ≡ false → last.state ≡ part.state) → IsQuietTurn old new last
turn_quiet met offers.Full old offered new read part last h room_is none quiet same reading moved number held ends
    unmet =
    absurd (room_is refl)
turn_quiet met offers.Accepted old offered new read part last h room_is none quiet same reading moved number held ends
    unmet = absurd (let x : true ≡ false = none in cc)
turn_quiet met offers.Held old offered new read part last h room_is none quiet same reading moved number held ends
    unmet =
    let stays : offered ≡ old = (h.held refl).0 in
    let as_before : IsQuiet old new = quiet_as old offered new stays quiet in
    record {
      quiet = as_before;
      waits = inr (subst (IsHeldIn new) (sym number) (held_still old new read.input as_before
          (same ∙ ap (λ (s : CoreState). s.setup) stays) (h.held refl).1));
    }
turn_quiet true offers.Nothing old offered new read part last h room_is none quiet same reading moved number held ends
    unmet =
    let free : part.held ≡ None = (h.nothing refl).2 in
    let room : part.state ≡ read.state = h.room room_is in
    let over : last.state ≡ states.Ended = ends refl free (room ∙ reading refl) in
    record {
      quiet = quiet_as old offered new (h.nothing refl).0 quiet;
      waits = inl (record {
        read = λ e. let x : states.Ended ≡ states.Reading = sym over ∙ e in
            absurd cc;
        none_held = held ∙ free;
      });
    }
turn_quiet false offers.Nothing old offered new read part last h room_is none quiet same reading moved number held ends
    unmet =
    let room : part.state ≡ read.state = h.room room_is in
    record {
      quiet = quiet_as old offered new (h.nothing refl).0 quiet;
      waits = elim (moved refl) [
        | inl some ↦ absurd (some (h.nothing refl).1)
        | inr stopped ↦ inl (record {
          read = λ e. stopped (sym room ∙ sym (unmet refl) ∙ e);
          none_held = held ∙ (h.nothing refl).2;
        })
      ];
    }

pub none_held : (held : Option Gathered) → is_some held ≡ false → held ≡ None
none_held None e = refl
none_held (Some g) e = absurd (let x : true ≡ false = e in cc)

-- ---- a round in which no gather is accepted

-- the first so many inputs are out, or held back
pub record HasTurned (n : ℕ) (old new : CoreState) (ins : List InPart) : Type 0 where
  pub quiet : IsQuiet old new
  pub each : (k : ℕ) → k < n → IsOutOrHeld new (in_at ins k)

pub turned_none : (core : CoreState) (ins : List InPart) → HasTurned 0 core core ins
turned_none core ins = record {
  quiet = record { tracker = refl; raw = refl };
  each = λ k l. absurd (omega (arith, l));
}

waits_still : (old new : CoreState) (part : InPart) → IsQuiet old new → new.setup ≡ old.setup → IsOutOrHeld old part
    → IsOutOrHeld new part
waits_still old new part quiet same (inl out) = inl out
waits_still old new part quiet same (inr held) = inr (held_still old new part.input quiet same held)

-- one input more had its turn
pub turned_more : (n : ℕ) (old mid new : CoreState) (ins : List InPart) (part : InPart) → n < length ins
    → new.setup ≡ mid.setup → IsQuietTurn mid new part → HasTurned n old mid ins → HasTurned (n + 1) old new
    (set ins n part)
turned_more n old mid new ins part b same turn h = record {
  quiet = record { tracker = turn.quiet.tracker ∙ h.quiet.tracker; raw = turn.quiet.raw ∙ h.quiet.raw };
  each = below_more _ _ (λ k l. subst (IsOutOrHeld new) (sym (get_or-set_other ins n k part no_in
      (λ (q : k ≡ n). absurd (omega (arith, l, q))))) (waits_still mid new (in_at ins k) turn.quiet same (h.each k l)))
      (subst (IsOutOrHeld new) (sym (get_or-set_same ins n part no_in b)) turn.waits);
}

-- so it is of all
pub turned_all : (n : ℕ) (old new : CoreState) (ins : List InPart) → length ins ≤ n → HasTurned n old new ins
    → AreQuietTurns old new ins
turned_all n old new ins all h = record { quiet = h.quiet; each = λ k l. h.each k (omega (arith, l, all)) }
