-- What a run leaves at its end, and what it begins with.
use Rattle.account.specs.Origins.{origins}
use Rattle.agent_workers.specs.Progress.{CountsTo, pushed_items}
use Rattle.agent_workers.proofs.TickLemmas.{ticked_first}
use Rattle.std.proofs.Common.{◌≡◌, ◌≢◌, ◌≤◌, ◌<◌, ℕ, zero, suc, ℤ, ◌^◌, min, Bool, true, false, List, [], ◌∷◌, ◌++◌}
use Rattle.std.proofs.Common.{length, take, replicate, refl, sym, ap, ◌∙◌, subst, inl, inr, arith}
use Rattle.std.specs.Prelude.{IfSome, not, ◌⊎◌, count_by, map}
use Rattle.std.proofs.lemmas.List.{length-map}
use Rattle.std.specs.Int.{int_max}
use Rattle.std.specs.declared.option.Option.{Option}
use Rattle.std.specs.declared.option.Option.TheVariants.{Some, None}
use Rattle.account.specs.AccountText.{account_text}
use Rattle.account.specs.Setup.{Setup}
use Rattle.account.specs.declared.entry.Entry.{Entry}
use Rattle.agent_base.specs.Clocked.{Counted, last_of}
use Rattle.agent_base.specs.Moments.{Moments, Gives}
use Rattle.agent_base.proofs.ClockLemmas.{counted_joined, counted_one_over, counted_wider}
use Rattle.journal_text.specs.JournalText.{journal_text}
use Rattle.agent_base.specs.Carried.{Timed}
use Rattle.agent_workers.specs.Item.{work_by}
use Rattle.proc_chain.specs.Chain.{AllStand}
use Rattle.pipeline_core.specs.CoreState.{CoreState}
use Rattle.pipeline_core.specs.Legal.{IsLegal, has_ended, gathered_count}
use Rattle.pipeline_core.specs.Stands.{Stands}
use Rattle.pipeline_core.specs.Steps.{after_cut}
use Rattle.pipeline_core.specs.Totals.{totals}
use Rattle.pipeline_core.specs.declared.gathering.Gathered.{Gathered}
use Rattle.agent_base.specs.Counts.{RoseBy}
use Rattle.account.specs.Dones.{dones, LastFailed}
use Rattle.pipeline_core.specs.Stopped.{behind_stop}
use Rattle.account.specs.EntryMoments.{counted_moments}
use Rattle.account.specs.Items.{raw_items, items, routes, taken}
use Rattle.journal_text.specs.Known.{AreKnown}
use Rattle.agent_workers.specs.Input.{IsFull}
use Rattle.formats.specs.Reader.{InRule, FitsGather}
use Rattle.agent_workers.specs.Inputs.{InPart, in_at, HoldsTooMany, AreInputs, AreOut, HaveLimits, IsOut, OneIsFull}
use Rattle.agent_workers.specs.Inputs.{IsOneOf, IsOneIn}
use Rattle.agent_workers.specs.Inputs.{IsFresh, AreFresh}
use Rattle.agent_workers.specs.Run.{change, InRun, in_run, in_runs, run_at, out_run, out_run_at, out_runs, SomeIsFull}
use Rattle.agent_workers.specs.Run.{RunsFull, IsCutShort, IsUnread, IsReadFrom, IsSentTo, HasRun, EndsSo, IsPutSo}
use Rattle.agent_workers.specs.Run.{IsLeft, Ran, buffered_at_end, account_of, course_of, Course, SomeIsLeft, StaysHeld}
use Rattle.agent_workers.specs.Held.{HasFailed, IsHeldBack}
use Rattle.agent_workers.proofs.HeldLemmas.{failed_none}
use Rattle.agent_base.specs.Counts.{Rose}
use Rattle.std.specs.Prelude.{◌||◌}
use Rattle.agent_workers.specs.Finished.{IsCounted, Finished, begun, IsSetUp}
use Rattle.agent_workers.specs.Noted.{JournalPart, Notes, part_change}
use Rattle.agent_workers.specs.Job.{Job, journal_setup_of, limit_of, setup_of, output_sizes}
use Rattle.agent_workers.specs.RunState.{RunState, Beginning, setup_at}
use Rattle.agent_workers.specs.Progress.{HasText, Heard, Said, Progress}
use Rattle.agent_workers.specs.Running.{IsReady, AreSettled, AreLeft, SomeIsBuffered, buffered_at}
use Rattle.formats.specs.Batches.{batch_text}
use Rattle.agent_workers.specs.Output.{OutPart, out_at, AreOutputs, IsUnfailed, AreUnfailed}
use Rattle.formats.specs.declared.pieces.InState.{InState}
use Rattle.formats.specs.declared.pieces.InState.TheVariants as states
use Rattle.agent_workers.specs.declared.rounds.Ending.{Ending}
use Rattle.account.proofs.DoneLemmas.{dones_none, last_none, last_fewer}
use Rattle.account.proofs.MomentLemmas.{counted_none}
use Rattle.agent_workers.proofs.FailedLemmas.{failed_first}
use Rattle.pipeline_core.proofs.OrderLemmas.{in_order_first}
use Rattle.pipeline_core.proofs.StandsCuts.{cut_stands}
use Rattle.pipeline_core.proofs.RawLemmas.{raw_of-none}
use Rattle.pipeline_core.proofs.WorkedLemmas.{worked_first}
use Rattle.agent_workers.proofs.HeardLemmas.{heard_first, gathered_at_end, clocked_at_end, full_at_end}
use Rattle.agent_workers.proofs.InLemmas.{fit_first}
use Rattle.agent_workers.proofs.NotedLemmas.{no_routes, notes_none}
use Rattle.agent_workers.proofs.ProgressLemmas.{none_known, buffered_is}
use Rattle.agent_workers.proofs.RoseLemmas.{rose_none}
use Rattle.agent_workers.proofs.SentLemmas.{sent_first}

-- ---- the beginning

none_raw_first : raw_items [] ≡ []
unfolding items taken
none_raw_first = refl

-- nothing was put
said_first : (start : OutPart) (output : ℕ) → IsUnfailed start → Said start start output []
said_first start output none = record {
  format = refl;
  sent = sent_first (batch_text start.format) output start.held;
  put_faults = subst (λ (bs : List Bool). RoseBy (count_by not bs) start.put_faults start.put_faults)
      (sym (dones_none output)) (rose_none start.put_faults);
  failed = failed_first start.failed (dones output []) none.failed (dones_none output);
  stuck = λ some. absurd (omega (arith, some, none.failed_since));
  last = λ stopped. rw none.failed_since (last_none (dones output (behind_stop [])));
}

none_pushed : (skip : Bool) → pushed_items skip [] ≡ []
unfolding items taken origins
none_pushed skip = refl

-- nothing happened
went_first : (job : Job) (start : ℤ) (now : RunState) → Stands now.core [] → now.core.setup ≡ setup_of job start
    → now.core.stored ≡ [] → Notes (journal_setup_of (setup_of job start)) now.journal.held now.journal.faults []
    now.journal → now.counted_at ≡ [] →
    length now.ins ≡ length job.inputs → ((k : ℕ) → k < length now.ins → IsFresh (in_at now.ins k))
    → AreUnfailed now.outs → length now.outs ≡ length job.outputs → job.work ≡ work_by now.proc
    → AllStand now.proc.chain [] → now.journal.known ≡ [] → now.still ≡ 0
    → Progress (begun job start now) now
went_first job start now stands setup stored notes none in_count fresh unfailed count work pushed known yet = record {
  journal = [];
  text = record {
    stands = stands;
    setup_is = setup;
    more = [];
    goes_on = refl;
    written = [];
    split = sym stored;
    notes = notes;
    known = subst (AreKnown now.journal.known (items [])) (sym stored) (none_known now.journal.known (items []));
    each_known = ap length known ∙ sym (ap routes stored ∙ no_routes);
  };
  in_count = in_count;
  heard = λ k l. heard_first (in_at now.ins k) k (fresh k l);
  out_count = count;
  said = λ o l. said_first (out_at now.outs o) o (unfailed o l);
  work_is = work;
  worked = worked_first job.work;
  pushed = subst (AllStand now.proc.chain) (sym (none_pushed now.proc.skip)) pushed;
  order = record {
    in_order = λ f. in_order_first (setup_of job start);
    none_raw = λ f k l. raw_of-none k [] none_raw_first;
    has_ticked = λ t f. ticked_first (setup_of job start);
  };
  counted_at = counted_none ∙ sym none;
  still = subst (λ (n : ℕ). HasFailed n []) (sym yet) (failed_none []);
}

-- where nothing is buffered the outputs are settled
pub none_buffered : (core : CoreState) (outs : List OutPart) → ((o : ℕ) → buffered_at core o ≡ 0) → AreSettled core outs
none_buffered core outs none = λ o l. inl (none o)

-- what is given of the parts of a run that is set up
pub record AreNew (job : Job) (start : ℤ) (now : RunState) : Type 0 where
  pub in_count : length now.ins ≡ length job.inputs
  pub fresh : AreFresh now.ins
  pub outputs : AreOutputs (length job.outputs) now.outs
  pub unfailed : AreUnfailed now.outs
  pub aggs : length now.proc.aggs ≡ length job.aggs
  pub filters : length now.proc.outs ≡ length job.outputs
  pub work : job.work ≡ work_by now.proc
  pub pushed : AllStand now.proc.chain []
  pub known : now.journal.known ≡ []
  pub about : now.journal.setup ≡ journal_setup_of (setup_of job start)
  pub kept : now.journal.kept ≡ []
  pub entries : now.journal.entries ≡ 0
  pub put : now.journal.failed ≡ false
  pub limits : HaveLimits (map limit_of job.inputs) now.ins
  pub counted : now.counted_at ≡ []
  pub still : now.still ≡ 0

-- a run is set up
pub is_set_up : (job : Job) (start : ℤ) (now : RunState) → length job.outputs ≤ 16 → IsReady now.core
    → now.core.stopped ≡ false → Stands now.core [] → now.core.setup ≡ setup_of job start → now.core.stored ≡ [] →
    now.core.ended ≡ replicate (length job.inputs) false → ((o : ℕ) → buffered_at now.core o ≡ 0) → AreNew job start now
    → IsSetUp job start now
is_set_up job start now few ready going stands setup stored ended none new =
    let outputs_are : length now.core.setup.outputs ≡ length job.outputs =
    ap (λ (s : Setup). length s.outputs) setup ∙ length-map job.outputs output_sizes in
    let inputs_are : length now.core.setup.inputs ≡ length job.inputs =
    ap (λ (s : Setup). length s.inputs) setup ∙ length-map job.inputs limit_of in
    record {
      few = omega (arith, outputs_are, few);
      running = record { ready = ready; stands = record { journal = []; stands = stands }; going = going };
      fit = record {
        inputs = fit_first (length job.inputs) (length now.core.setup.inputs) now.core.ended now.ins inputs_are
            new.in_count ended new.fresh;
        limits = subst (λ (s : Setup). HaveLimits s.inputs now.ins) (sym setup) new.limits;
        outputs = subst (λ (k : ℕ). AreOutputs k now.outs) (sym outputs_are) new.outputs;
        filters = record {
          aggs = new.aggs ∙ sym (ap (λ (s : Setup). length s.aggs) setup);
          outs = new.filters ∙ sym outputs_are;
        };
      };
      settled = none_buffered now.core now.outs none;
      agrees = went_first job start now stands setup stored (notes_none
          (journal_setup_of (setup_of job start)) now.journal new.about new.kept new.entries new.put) new.counted
          new.in_count new.fresh.fresh new.unfailed new.outputs.count_is new.work new.pushed new.known
          new.still;
    }

-- ---- the end

-- an input at its index
length-in_runs : (olds news : List InPart) → length news ≡ length olds → length (in_runs olds news) ≡ length olds
length-in_runs [] news same = refl
length-in_runs (old ∷ olds) [] same = absurd (omega (arith, same))
length-in_runs (old ∷ olds) (new ∷ news) same = omega (arith, length-in_runs olds news (omega (arith, same)))

runs_at : (olds news : List InPart) (k : ℕ) → length news ≡ length olds → k < length olds
    → run_at (in_runs olds news) k ≡ in_run (in_at olds k) (in_at news k)
runs_at [] news k same l = absurd (omega (arith, l))
runs_at (old ∷ olds) [] k same l = absurd (omega (arith, same))
runs_at (old ∷ olds) (new ∷ news) zero same l = refl
runs_at (old ∷ olds) (new ∷ news) (suc k) same l = runs_at olds news k (omega (arith, same)) (omega (arith, l))

-- an output at its index
out_runs_at : (olds news : List OutPart) (o : ℕ) → length news ≡ length olds → o < length olds
    → out_run_at (out_runs olds news) o ≡ out_run (out_at olds o) (out_at news o)
out_runs_at [] news o same l = absurd (omega (arith, l))
out_runs_at (old ∷ olds) [] o same l = absurd (omega (arith, same))
out_runs_at (old ∷ olds) (new ∷ news) zero same l = refl
out_runs_at (old ∷ olds) (new ∷ news) (suc o) same l = out_runs_at olds news o (omega (arith, same)) (omega (arith, l))

start_at : (all : Option Moments) (next : ℕ) (start : ℤ) → Gives all 0 next start
    → IfSome all (λ moments. start ≡ moments.at 0)
start_at None next start g = tt
start_at (Some moments) next start g = g.given

-- no moment counted yet
counted_first : (all : Option Moments) (next : ℕ) (start : ℤ)
    → IfSome all (λ moments. Counted moments next next start [])
unfolding Counted
counted_first None next start = tt
counted_first (Some moments) next start = omega arith

-- one moment more
counted_on : (all : Option Moments) (first next last : ℕ) (floor moment : ℤ) (olds news : List ℤ)
    → Gives all next last moment → news ≡ olds ++ int_max moment (last_of floor olds) ∷ []
    → IfSome all (λ moments. Counted moments first next floor olds)
    → IfSome all (λ moments. IsCounted moments first last floor news)
counted_on None first next last floor moment olds news g e h = tt
counted_on (Some moments) first next last floor moment olds news g e h = (
  omega (arith, g.next),
  subst (λ (ms : List ℤ). Counted moments first last floor ms) (sym e)
      (counted_joined moments first next last floor olds (int_max moment (last_of floor olds) ∷ []) h
      (counted_one_over moments next last moment (last_of floor olds) g)),
)

-- the moments of a clock that count, without how far it came
counted_of : (all : Option Moments) (first next : ℕ) (floor : ℤ) (ms : List ℤ)
    → IfSome all (λ moments. IsCounted moments first next floor ms)
    → IfSome all (λ moments. Counted moments first next floor ms)
counted_of None first next floor ms h = tt
counted_of (Some moments) first next floor ms h = h.1

-- one moment more of a clock counts
pub counts_one : (timer : Timed) (last : ℕ) (floor moment : ℤ) (olds : List ℤ)
    → Gives timer.moments timer.next last moment
    → CountsTo timer last floor olds (olds ++ int_max moment (last_of floor olds) ∷ [])
counts_one timer last floor moment olds gives = λ first h.
    counted_of timer.moments first last floor (olds ++ int_max moment (last_of floor olds) ∷ [])
    (counted_on timer.moments first timer.next last floor moment olds (olds ++ int_max moment (last_of floor olds) ∷ [])
    gives refl h)

pub counts_then : (old mid : Timed) (last : ℕ) (floor : ℤ) (olds mids news : List ℤ) → mid.moments ≡ old.moments
    → CountsTo old mid.next floor olds mids → CountsTo mid last floor mids news → CountsTo old last floor olds news
counts_then old mid last floor olds mids news same h k = λ first c.
    subst (λ (all : Option Moments). IfSome all (λ moments. Counted moments first last floor news)) same
    (k first (subst (λ (all : Option Moments). IfSome all (λ moments. Counted moments first mid.next floor mids))
    (sym same) (h first c)))

-- all moments of a run that began with nothing
counted_all : (all : Option Moments) (next last : ℕ) (start : ℤ) (ms : List ℤ) → Gives all 0 next start
    → IfSome all (λ moments. IsCounted moments next last start ms)
    → IfSome all (λ moments. Counted moments (min 1 moments.last) moments.last start ms)
counted_all None next last start ms g h = tt
counted_all (Some moments) next last start ms g h = counted_wider moments (min 1 moments.last) next last moments.last
    start ms (omega (arith, g.next)) h.0 h.1

buffered_left : (left : Bool) (start : Beginning) (core : CoreState) (part : JournalPart) (journal : List Entry)
    → HasText start core part journal → SomeIsBuffered left core → SomeIsLeft left (setup_at start) journal
buffered_left false start core part journal h none = λ o l. sym (buffered_is start core part journal h o)
    ∙ none o (omega (arith, l, ap (λ (s : Setup). length s.outputs) h.setup_is))
buffered_left true start core part journal h some = (
  some.0,
  omega (arith, some.1, ap (λ (s : Setup). length s.outputs) h.setup_is),
  λ z. some.2 (buffered_is start core part journal h some.0 ∙ z),
)

left_is : (buffered reading left : Bool) (setup : Setup) (journal : List Entry) (count : ℕ) (state : ℕ → InState)
    → left ≡ (buffered || reading) → SomeIsLeft buffered setup journal → IsOneOf states.Reading count state reading
    → IsLeft left setup journal count state
left_is true reading left setup journal count state is some one =
    subst (λ (b : Bool). IsLeft b setup journal count state) (sym is) (inl some)
left_is false true left setup journal count state is some one =
    subst (λ (b : Bool). IsLeft b setup journal count state) (sym is) (inr one)
left_is false false left setup journal count state is some one =
    subst (λ (b : Bool). IsLeft b setup journal count state) (sym is) (some, one)

some_none : (g : Gathered) → Some g ≡ None → ⊥
some_none g e = cc

taken_only : (limit : Bool) (ins : List InRun) (taken gathered : ℕ) (journal : List Entry)
    → (taken ≡ 2 ^ 40) ⊎ HoldsTooMany None gathered → (taken ≡ 2 ^ 40) ⊎ RunsFull limit ins journal
taken_only limit ins taken gathered journal (inl many) = inl many
taken_only limit ins taken gathered journal (inr many) = absurd many

-- why no round follows, of an input in a state that holds something: the run is full, the input is out, or it is held
-- back; and where what it holds is too much the run is full
abbrev pub WhyOver : Bool → Course → ℕ → InState → Option Gathered → Type 0
WhyOver limit run k state held = RunsFull limit run.ins run.journal ⊎ ((state ≢ states.Reading) × (held ≡ None))
    ⊎ (StaysHeld run k × (state ≡ states.LimitReached → HoldsTooMany held (gathered_count run.journal)
    → RunsFull limit run.ins run.journal))

-- what the state of an input says then
ends_by : (limit : Bool) (run : Course) (state : InState) (held : Option Gathered) (start part : InPart) (k : ℕ)
    → run_at run.ins k ≡ in_run start part → WhyOver limit run k state held
    → Heard start (record part { state = state; held = held }) k run.journal
    → EndsSo limit run k state part.hand.taken
ends_by limit run states.Reading held start part k at (inl full) h = (h.state, h.ended, inl full)
ends_by limit run states.Reading held start part k at (inr (inl out)) h = absurd (out.0 refl)
ends_by limit run states.Reading held start part k at (inr (inr stays)) h = (h.state, h.ended, inr stays.0)
ends_by limit run states.Ended held start part k at why h = (h.state, h.ended)
ends_by limit run states.Faulted held start part k at (inl full) h = (h.state.0, h.ended, inr full)
ends_by limit run states.Faulted None start part k at (inr (inl out)) h =
    (h.state.0, h.ended, inl (inl (subst (λ (x : InRun). IsCutShort k x run.journal) (sym at) (h.state.1, h.of_taken))))
ends_by limit run states.Faulted (Some g) start part k at (inr (inl out)) h = absurd (some_none g out.1)
ends_by limit run states.Faulted held start part k at (inr (inr stays)) h = (
  h.state.0,
  h.ended,
  inl (inr (subst (λ (x : InRun). Rose x.place.faults_before x.place.faults_after) (sym at) h.state.1, stays.0)),
)
ends_by limit run states.LimitReached held start part k at (inl full) h = (h.ended, inr full)
ends_by limit run states.LimitReached None start part k at (inr (inl out)) h =
    (h.ended, taken_only limit run.ins part.hand.taken (gathered_count run.journal) run.journal h.state)
ends_by limit run states.LimitReached (Some g) start part k at (inr (inl out)) h = absurd (some_none g out.1)
ends_by limit run states.LimitReached held start part k at (inr (inr stays)) h =
    (h.ended, elim h.state [ inl many ↦ inl many | inr over ↦ inr (stays.1 refl over) ])

unread_by : (limit : Bool) (run : Course) (state : InState) (taken k : ℕ) → EndsSo limit run k state taken
    → has_ended k run.journal ≡ false → IsUnread run k (run_at run.ins k) taken
unread_by limit run states.Reading taken k h e =
    elim h.2 [ inl full ↦ inr (inr (inl full.1)) | inr stays ↦ inr (inr (inr stays)) ]
unread_by limit run states.Ended taken k h e = absurd (let x : true ≡ false = sym h.1 ∙ e in cc)
unread_by limit run states.Faulted taken k h e =
    elim h.2 [
      | inl broken ↦ elim broken [ inl short ↦ inl short | inr both ↦ inr (inr (inr both.1)) ]
      | inr full ↦ inr (inr (inl full.1))
    ]
unread_by limit run states.LimitReached taken k h e =
    elim h.1 [ inl many ↦ inr (inl many) | inr full ↦ inr (inr (inl full.1)) ]

few_of : (held : Option Gathered) (i : ℕ) (rule : InRule) → IfSome held
    (λ g. (g.input ≡ i) × FitsGather rule (length g.metrics)) → IfSome held (λ g. FitsGather rule (length g.metrics))
few_of None i rule h = tt
few_of (Some g) i rule h = h.1

-- a full run has an input that reached a limit
limit_by : (limit : Bool) (gathered : ℕ) (ins : List InPart) → IsOneIn states.LimitReached ins limit
    → OneIsFull gathered ins → limit ≡ true
limit_by true gathered ins one full = refl
limit_by false gathered ins none full = absurd (none full.0 full.1 full.2.limit)

-- and an input that reached it says so
reached_by : (limit : Bool) (ins : List InPart) (k : ℕ) → k < length ins → IsOneIn states.LimitReached ins limit
    → (in_at ins k).state ≡ states.LimitReached → limit ≡ true
reached_by true ins k l one state = refl
reached_by false ins k l none state = absurd (none k l state)

module _ (start : Beginning) (now : RunState) where
  module _ (w : Progress start now) (stopped : now.core.stopped ≡ true) (raw : now.core.raw ≡ [])
      (none_held : now.core.held ≡ None) (starts_count : length start.ins ≡ length start.job.inputs)
      (outs_count : length start.outs ≡ length start.job.outputs) (rest : AreLeft start.job.tries now.core now.outs)
      (ended : List Bool) (fit : AreInputs (length start.job.inputs) ended now.ins)
      (outputs_fit : AreOutputs (length start.job.outputs) now.outs) (why : OneIsFull now.core.gathered now.ins
      ⊎ AreOut now.ins ⊎ ((k : ℕ) → k < length now.ins → IsOut (in_at now.ins k)
      ⊎ IsHeldBack start.job.tries (setup_at start) w.journal k)) where
    -- the course of the run
    abbrev course : Course
    course = course_of start.job start.start (in_runs start.ins now.ins) w.journal

    left_failed : (o : ℕ) → o < length now.outs → (buffered_at now.core o ≡ 0)
        ⊎ (start.job.tries ≤ (out_at now.outs o).failed_since) → buffered_at_end (setup_at start) w.journal o ≢ 0
        → LastFailed start.job.tries (dones o (behind_stop w.journal))
    left_failed o l (inl none) some = absurd (some (sym (buffered_is start now.core now.journal w.journal w.text o)
        ∙ none))
    left_failed o l (inr many) some = last_fewer start.job.tries (out_at now.outs o).failed_since
        (dones o (behind_stop w.journal)) many ((w.said o l).last (sym w.text.stands.stopped ∙ stopped))

    sent_to : (o : ℕ) → o < length start.job.outputs → IsSentTo start.job.tries (setup_at start) w.journal o
        (out_run_at (out_runs start.outs now.outs) o)
    sent_to o within =
        let l : o < length now.outs = omega (arith, within, w.out_count) in
        let said = w.said o l in
        let is : IsSentTo start.job.tries (setup_at start) w.journal o
        (out_run (out_at start.outs o) (out_at now.outs o)) =
        record { sent = said.sent; put_faults = said.put_faults; left = left_failed o l (rest o l) } in
        subst (IsSentTo start.job.tries (setup_at start) w.journal o)
        (sym (out_runs_at start.outs now.outs o (omega (arith, w.out_count, outs_count))
        (omega (arith, within, outs_count)))) is

    same_count : length now.ins ≡ length start.ins
    same_count = fit.count_is ∙ sym starts_count

    within_ins : (k : ℕ) → k < length start.job.inputs → k < length now.ins
    within_ins k l = omega (arith, l, fit.count_is)

    at_index : (k : ℕ) → k < length start.job.inputs → run_at (in_runs start.ins now.ins) k ≡ in_run (in_at start.ins k)
        (in_at now.ins k)
    at_index k l = runs_at start.ins now.ins k same_count (omega (arith, l, starts_count))

    full_at : (k : ℕ) → k < length now.ins → HoldsTooMany (in_at now.ins k).held (gathered_count w.journal)
        → SomeIsFull (in_runs start.ins now.ins) w.journal
    full_at k b many =
        let l : k < length start.job.inputs = omega (arith, b, fit.count_is) in
        let part : InPart = in_at now.ins k in
        let f = fit.each k l in
        let is : IsFull part.rule w.journal k (in_at start.ins k).left part.left =
        full_at_end (in_at start.ins k) part part.held k w.journal f.readable.some f.none_held many (w.heard k b)
        (few_of part.held part.input part.rule f.own) in (
          k,
          omega (arith, l, starts_count, length-in_runs start.ins now.ins same_count),
          subst (λ (x : InRun). IsFull x.rule w.journal k x.place.before x.place.after) (sym (at_index k l)) is,
        )

    is_full : OneIsFull now.core.gathered now.ins → SomeIsFull (in_runs start.ins now.ins) w.journal
    is_full full = full_at full.0 full.1
        (subst (HoldsTooMany (in_at now.ins full.0).held) w.text.stands.gathered full.2.many)

    why_by : (limit : Bool) → (OneIsFull now.core.gathered now.ins → limit ≡ true) → (k : ℕ) → k < length now.ins
        → ((in_at now.ins k).state ≡ states.LimitReached → limit ≡ true)
        → WhyOver limit course k (in_at now.ins k).state (in_at now.ins k).held
    why_by limit whole k l reached =
        elim why [
          | inl full ↦ inl (whole full, is_full full)
          | inr (inl out) ↦ inr (inl ((out k l).read, (out k l).none_held))
          | inr (inr each) ↦ elim (each k l) [
            | inl out ↦ inr (inl (out.read, out.none_held))
            | inr stays ↦ inr (inr (stays, λ state many. (reached state, full_at k l many)))
          ]
        ]

    ends_with : (limit : Bool) → (OneIsFull now.core.gathered now.ins → limit ≡ true) → (k : ℕ)
        → k < length start.job.inputs → ((in_at now.ins k).state ≡ states.LimitReached → limit ≡ true)
        → EndsSo limit course k (in_at now.ins k).state (in_at now.ins k).hand.taken
    ends_with limit whole k l reached =
        ends_by limit course (in_at now.ins k).state (in_at now.ins k).held (in_at start.ins k)
        (in_at now.ins k) k (at_index k l) (why_by limit whole k (within_ins k l) reached) (w.heard k (within_ins k l))

    ends_at : (limit : Bool) → IsOneIn states.LimitReached now.ins limit → (k : ℕ) → k < length start.job.inputs
        → EndsSo limit course k (in_at now.ins k).state (in_at now.ins k).hand.taken
    ends_at limit one k l =
        ends_with limit (limit_by limit now.core.gathered now.ins one) k l
        (reached_by limit now.ins k (within_ins k l) one)

    unread : (k : ℕ) → k < length start.job.inputs → has_ended k w.journal ≡ false
        → IsUnread course k (run_at (in_runs start.ins now.ins) k) (in_at now.ins k).hand.taken
    unread k l = unread_by true course (in_at now.ins k).state (in_at now.ins k).hand.taken k
        (ends_with true (λ full. refl) k l (λ state. refl))

    read_of : (k : ℕ) → k < length start.job.inputs → IsReadFrom course k
        (in_run (in_at start.ins k) (in_at now.ins k)) (in_at now.ins k).hand.taken
    read_of k l =
        let part : InPart = in_at now.ins k in
        let f = fit.each k l in
        let h = w.heard k (within_ins k l) in
        record {
          gathered = gathered_at_end (in_at start.ins k) part part.held k w.journal f.readable.some f.none_held h;
          clocked = clocked_at_end (in_at start.ins k) part part.held k w.journal h;
          bytes_taken = h.counted;
          unread = subst (λ (x : InRun). has_ended k w.journal ≡ false → IsUnread course k x part.hand.taken)
              (at_index k l) (unread k l);
        }

    pub has_run : HasRun start.job start.start (in_runs start.ins now.ins) (out_runs start.outs now.outs) w.journal
    has_run = record {
      legal = subst (λ (s : Setup). IsLegal s w.journal) w.text.setup_is w.text.stands.legal;
      taken = λ k. (in_at now.ins k).hand.taken;
      read_from = λ k l. subst (λ (x : InRun). IsReadFrom course k x (in_at now.ins k).hand.taken)
          (sym (at_index k l)) (read_of k l);
      sent_to = sent_to;
      worked = w.worked;
      stopped = sym w.text.stands.stopped ∙ stopped;
      none_raw = sym w.text.stands.raw ∙ raw;
      none_held = sym w.text.stands.held ∙ none_held;
    }

    -- the inputs fit the core still
    fit_still : AreInputs (length start.job.inputs) now.core.ended now.ins
    fit_still = record {
      count_is = fit.count_is;
      each = λ k l.
          let f = fit.each k l in
          let within : k < length now.core.setup.inputs = omega
          (arith, l, ap (λ (s : Setup). length s.inputs) w.text.setup_is, length-map start.job.inputs limit_of) in
          record {
            number = f.number;
            readable = f.readable;
            cut_by = f.cut_by;
            ended_is = w.text.stands.ended k within ∙ ap Some (w.heard k (within_ins k l)).ended;
            own = f.own;
            none_held = f.none_held;
          };
    }

    pub finished : (ending : Ending) (old : RunState) (last : CoreState) (part : JournalPart) (timer : Timed)
        (mid : ℕ) (so_far : List ℤ) (moment : ℤ) → last ≡ after_cut now.core
        → CountsTo old.timer mid start.start old.counted_at so_far → Gives old.timer.moments mid timer.next moment
        → now.counted_at ≡ so_far ++ int_max moment (last_of start.start so_far) ∷ [] →
        IsOneIn states.LimitReached now.ins ending.limit → IsOneIn states.Faulted now.ins ending.read_fault
        → (buffered reading : Bool) → ending.left ≡ (buffered || reading) → SomeIsBuffered buffered now.core
        → IsOneIn states.Reading now.ins reading → ending.account.items ≡ account_text now.core.numbers →
        IsPutSo ending.journal_fault (change start.noted part.held start.note_faults part.faults)
        (journal_text (journal_setup_of (setup_at start)) (w.text.written ++ now.core.stored)
        (account_text now.core.numbers)) → Finished start ending old
        (record now { core = last; journal = part; timer = timer; counted_at = []; ticked = true; still = 0 })
    unfolding has_run
    finished ending old last part timer mid so_far moment cut counts_before gives counts limit fault buffered reading
        left some_left some_reading account_is noted =
        let totals_are : now.core.numbers ≡ totals (setup_at start) w.journal =
        w.text.stands.numbers ∙ ap (λ (s : Setup). totals s w.journal) w.text.setup_is in
        let same : account_text now.core.numbers ≡ account_of (setup_at start) w.journal = ap account_text totals_are in
        record {
          journal = w.journal;
          stands = cut_stands now.core last cut w.journal w.text.stands;
          more = w.text.more;
          goes_on = w.text.goes_on;
          run = has_run;
          fit = subst (λ (s : CoreState). AreInputs (length start.job.inputs) s.ended now.ins) (sym cut) fit_still;
          outputs_fit = outputs_fit;
          heard = w.heard;
          said = w.said;
          counted = λ first h. counted_on old.timer.moments first mid timer.next start.start moment
              so_far (counted_moments w.journal) gives (w.counted_at ∙ counts) (counts_before first h);
          in_order = w.order.in_order;
          ends = λ k l. ends_at ending.limit limit k l;
          limit = limit;
          read_fault = fault;
          left = left_is buffered reading ending.left (setup_at start) w.journal (length now.ins)
              (λ k. (in_at now.ins k).state) left
              (buffered_left buffered start now.core now.journal w.journal w.text some_left) some_reading;
          account = account_is ∙ same;
          noted = subst (λ (account : List ℕ). IsPutSo ending.journal_fault
              (change start.noted part.held start.note_faults part.faults)
              (journal_text (journal_setup_of (setup_at start)) w.journal account)) same
              (subst (λ (es : List Entry). IsPutSo ending.journal_fault
              (change start.noted part.held start.note_faults part.faults)
              (journal_text (journal_setup_of (setup_at start)) es (account_text now.core.numbers)))
              (sym w.text.split) noted);
        }

-- a list that was written over another one of its length
pub taken_front : {X : Type 0} (n : ℕ) (news rest : List X) → length news ≡ n → take n (news ++ rest) ≡ news
taken_front zero [] rest e = refl
taken_front (suc n) [] rest e = absurd (omega (arith, e))
taken_front zero (x ∷ news) rest e = absurd (omega (arith, e))
taken_front {X} (suc n) (x ∷ news) rest e = ap (λ (xs : List X). x ∷ xs) (taken_front n news rest (omega (arith, e)))

-- a run that began with nothing
pub ran : (job : Job) (start : ℤ) (ending : Ending) (old new : RunState)
    → Gives old.timer.moments 0 old.timer.next start → old.counted_at ≡ [] → length new.ins ≡ length job.inputs
    → Finished (begun job start old) ending old new →
    Ran job ending (record {
      ins = in_runs old.ins new.ins;
      outs = out_runs old.outs new.outs;
      journal = part_change old.journal new.journal;
      moments = old.timer.moments;
    })
ran job start ending old new gives none number f =
    let counts : IfSome old.timer.moments (λ moments. Counted moments old.timer.next old.timer.next start
    old.counted_at) =
    subst (λ (ms : List ℤ). IfSome old.timer.moments (λ moments. Counted moments old.timer.next old.timer.next start
    ms)) (sym none) (counted_first old.timer.moments old.timer.next start) in
    record {
      start = start;
      journal = f.journal;
      run = record {
        has = f.run;
        start_is = start_at old.timer.moments old.timer.next start gives;
        counted = counted_all old.timer.moments old.timer.next new.timer.next start (counted_moments f.journal) gives
            (f.counted old.timer.next counts);
        in_order = f.in_order refl;
      };
      state = λ k. (in_at new.ins k).state;
      ends = f.ends;
      limit = subst (λ (n : ℕ). IsOneOf states.LimitReached n (λ k. (in_at new.ins k).state) ending.limit) number
          f.limit;
      read_fault = subst (λ (n : ℕ). IsOneOf states.Faulted n (λ k. (in_at new.ins k).state) ending.read_fault) number
          f.read_fault;
      left = subst (λ (n : ℕ). IsLeft ending.left (setup_of job start) f.journal n (λ k. (in_at new.ins k).state))
          number f.left;
      account = f.account;
      noted = f.noted;
    }
