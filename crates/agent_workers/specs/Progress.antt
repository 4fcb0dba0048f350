-- How far a run has come.
use Rattle.std.specs.Prelude.{◌≡◌, ◌<◌, ◌≤◌, ◌⊎◌, ◌+◌, ◌^◌, ℕ, ℤ, Bool, true, List, [], ◌++◌, map, length}
use Rattle.std.specs.Prelude.{IfSome, slice_set, take, ◌∷◌, false, if◌then◌else◌}
use Rattle.std.specs.List.{filter, zip}
use Rattle.std.specs.Int.{int_max}
use Rattle.account.specs.Says.{GatherSays}
use Rattle.account.specs.Items.{items, routes, taken}
use Rattle.account.specs.Origins.{Origin, origins, raw_of}
use Rattle.account.specs.declared.entry.Entry.{Entry}
use Rattle.account.specs.declared.entry.Entry.TheVariants.{Stop}
use Rattle.agent_base.specs.Counts.{Rose, RoseBy}
use Rattle.agent_base.specs.Cut.{Cut}
use Rattle.agent_base.specs.Carried.{Timed}
use Rattle.agent_base.specs.Clocked.{Clocked, Counted, last_of}
use Rattle.agent_base.specs.Hand.{Hand, to_come}
use Rattle.agent_base.specs.Moments.{Moments}
use Rattle.agent_base.specs.Told.{Told}
use Rattle.pipeline_core.specs.CoreState.{CoreState}
use Rattle.pipeline_core.specs.Legal.{has_ended, has_stop, gathered_count}
use Rattle.pipeline_core.specs.Offers.{lane_events}
use Rattle.pipeline_core.specs.Stands.{Stands}
use Rattle.formats.specs.declared.pieces.InState.{InState}
use Rattle.formats.specs.declared.pieces.InState.TheVariants as states
use Rattle.agent_workers.specs.Inputs.{InPart, in_at, heard_of, is_ended, HoldsTooMany}
use Rattle.agent_workers.specs.Input.{Gathering, GatheredTo, NamesSoFar, NamesTaken}
use Rattle.formats.specs.Reader.{InRule}
use Rattle.account.specs.Dones.{dones, failed_count, LastFailed}
use Rattle.pipeline_core.specs.Stopped.{behind_stop}
use Rattle.account.specs.EntryMoments.{counted_moments}
use Rattle.agent_workers.specs.Noted.{JournalPart, Notes}
use Rattle.pipeline_core.specs.Order.{EndsFailed, InOrder, IsTicked}
use Rattle.agent_workers.specs.Job.{journal_setup_of}
use Rattle.journal_text.specs.Known.{AreKnown}
use Rattle.journal_text.specs.declared.known.Known.{Known}
use Rattle.pipeline_core.specs.Sent.{Sent}
use Rattle.formats.specs.Batches.{batch_text}
use Rattle.agent_workers.specs.Output.{AppendsSo, OutPart, out_at, AreAnew, FailedLast}
use Rattle.agent_workers.specs.Item.{ProcPart, work_by}
use Rattle.agent_workers.specs.RunState.{RunState, Beginning, setup_at}
use Rattle.agent_workers.specs.Running.{AllMade, AreSettled}
use Rattle.agent_workers.specs.Held.{HasFailed}
use Rattle.agent_workers.specs.declared.output.Flush.{Flush}
use Rattle.agent_workers.specs.declared.output.Sending.{Sending}
use Rattle.agent_workers.specs.declared.output.Sending.TheVariants as sendings
use Rattle.metric.specs.declared.metric.Content.{Content}
use Rattle.pipeline_core.specs.Worked.{Worked, is_pushed}
use Rattle.proc_chain.specs.Chain.{AllStand}

-- the core stands for a journal, which goes on from the one that the run continues, and whose entries are
-- noted but for those that the core stores; of each Route among those something is known, and that is so
pub record HasText (start : Beginning) (core : CoreState) (part : JournalPart)
    (journal : List Entry) : Type 0 where
  pub stands : Stands core journal
  pub setup_is : core.setup ≡ setup_at start
  pub more : List Entry
  pub goes_on : journal ≡ start.front ++ more
  pub written : List Entry
  pub split : journal ≡ written ++ core.stored
  pub notes : Notes (journal_setup_of (setup_at start)) start.noted start.note_faults written part
  pub known : AreKnown part.known (items written) core.stored
  pub each_known : length part.known ≡ routes core.stored

-- while an input is read on its Gathers name full groups up to the pieces that are to come, or all pieces; else
-- they name groups of its text, all pieces where it has ended
abbrev pub IsNamed : InState → InRule → List GatherSays → List ℕ → List Cut → Type 0
IsNamed states.Reading rule all text rest = Gathering rule all text rest
IsNamed states.Ended rule all text rest = GatheredTo rule all text []
IsNamed states.Faulted rule all text rest = GatheredTo rule all text rest
IsNamed states.LimitReached rule all text rest = GatheredTo rule all text rest

-- fewer than 2^40 bytes were taken; where a read failed its count rose; or so many bytes were taken, or what is
-- held is too much for the run
abbrev pub HasState : InState → InPart → InPart → List Entry → Type 0
HasState states.Reading start now journal = now.hand.taken < 2 ^ 40
HasState states.Ended start now journal = now.hand.taken < 2 ^ 40
HasState states.Faulted start now journal = (now.hand.taken < 2 ^ 40)
    × Rose start.read_faults now.read_faults
HasState states.LimitReached start now journal = (now.hand.taken ≡ 2 ^ 40)
    ⊎ HoldsTooMany now.held (gathered_count journal)

-- a clock came from an index of its list to another one, and gave these moments on the way
abbrev pub IsClocked : Moments → ℕ → ℕ → List ℤ → Type 0
IsClocked moments first next all = (next ≤ moments.last) × Clocked moments first next all

-- while the input is read on its Gathers name the pieces of what was taken, whatever follows; after a failed
-- read all of these but perhaps that of the last line
abbrev pub IsNamedOfTaken : InState → InRule → List GatherSays → Hand → List ℕ → List ℕ → Type 0
IsNamedOfTaken states.Reading rule all hand text left = NamesSoFar rule all hand text left
IsNamedOfTaken states.Ended rule all hand text left = Unit {0}
IsNamedOfTaken states.Faulted rule all hand text left = NamesTaken rule all text left
IsNamedOfTaken states.LimitReached rule all hand text left = Unit {0}

-- what the journal says of an input, and then the gather that is held
pub record Heard (start now : InPart) (input : ℕ) (journal : List Entry) : Type 0 where
  pub named : Told start.left now.left (λ xs ys. IsNamed now.state now.rule
      (heard_of input journal now.held) xs (to_come now.hand ys))
  pub of_taken : Told start.left now.left (IsNamedOfTaken now.state now.rule
      (heard_of input journal now.held) now.hand)
  pub counted : Told start.left now.left (λ xs ys. length xs ≡ now.hand.taken + length ys)
  pub ended : has_ended input journal ≡ is_ended now.state
  pub later : start.read_faults ≤ now.read_faults
  pub state : HasState now.state start now journal
  pub clocked : IfSome now.moments
      (λ moments. IsClocked moments start.next now.next
      (map (λ (says : GatherSays). says.moment) (heard_of input journal now.held)))

-- what it says of each input
abbrev pub AllHeard : List InPart → List InPart → List Entry → Type 0
AllHeard starts ins journal =
    (input : ℕ) → input < length ins → Heard (in_at starts input) (in_at ins input) input journal

-- what the journal says of an output
pub record Said (start now : OutPart) (output : ℕ) (journal : List Entry) : Type 0 where
  pub format : now.format ≡ start.format
  pub sent : AppendsSo start.held now.held (Sent (batch_text start.format) journal output)
  pub put_faults : RoseBy (failed_count output journal) start.put_faults now.put_faults
  -- so many of its last batches failed
  pub failed : FailedLast now.failed (dones output journal)
  -- where some failed since items were routed, the last event at the output is that a batch failed
  pub stuck : 1 ≤ now.failed_since → EndsFailed (lane_events output journal)
  -- and behind the Stop so many of the last batches failed
  pub last : has_stop journal ≡ true → LastFailed now.failed_since (dones output (behind_stop journal))

-- what it says of each output
abbrev pub AllSaid : List OutPart → List OutPart → List Entry → Type 0
AllSaid starts outs journal =
    (output : ℕ) → output < length outs → Said (out_at starts output) (out_at outs output) output journal

-- where the run began with nothing: each item was routed before more is sent, and sent before more is gathered,
-- no item is raw of an input from the next one on, and where that is said a tick has come since items that were
-- gathered were routed
pub record HasOrder (start : Beginning) (next : ℕ) (ticked : Bool) (journal : List Entry) : Type 0 where
  pub in_order : start.first ≡ true → InOrder (setup_at start) journal
  pub none_raw : start.first ≡ true → (input : ℕ) → next ≤ input → raw_of input journal ≡ []
  pub has_ticked : ticked ≡ true → start.first ≡ true → IsTicked (setup_at start) journal

-- the metrics of the items that were taken and went through the steps, in order
abbrev pub pushed_items : Bool → List Entry → List Content
pushed_items skip journal =
    map (λ (x : Content × Origin). x.0)
    (filter (λ (x : Content × Origin). is_pushed skip x.1) (take (taken journal) (zip (items journal)
    (origins journal))))

-- there is a journal for which the core stands, which is noted, and which says what was read and what was
-- sent
pub record Progress (start : Beginning) (now : RunState) : Type 0 where
  pub journal : List Entry
  pub text : HasText start now.core now.journal journal
  pub in_count : length now.ins ≡ length start.job.inputs
  pub heard : AllHeard start.ins now.ins journal
  pub out_count : length now.outs ≡ length start.job.outputs
  pub said : AllSaid start.outs now.outs journal
  -- what routes the items makes of them what the job says
  pub work_is : start.job.work ≡ work_by now.proc
  pub worked : Worked start.job.work journal
  -- its steps stand for the items that went through them
  pub pushed : AllStand now.proc.chain (pushed_items now.proc.skip journal)
  pub order : HasOrder start now.next now.ticked journal
  pub counted_at : counted_moments journal ≡ now.counted_at
  -- so many batches failed since the run last came on
  pub still : HasFailed now.still journal

-- how many batches failed at least since a run last came on, where it may have come on
abbrev pub still_after : Bool → ℕ → ℕ
still_after true still = 0
still_after false still = still

-- as items are routed it is said that a tick has come only where it had come, and all of them were made
abbrev pub StaysTicked : Bool → Bool → CoreState → Type 0
StaysTicked before after core = after ≡ true → (before ≡ true) × AllMade core.made

-- a journal's part with this known of the Routes that aren't spelled
abbrev pub with_known : JournalPart → List Known → JournalPart
with_known part known = record part { known = known }

-- a step that routes items, and keeps what is known of their Routes, while no batch failed
abbrev pub GoesOn : CoreState → CoreState → ProcPart → ProcPart → List Known → List Known → Type 0
GoesOn old new proc new_proc known new_known = (start : Beginning) (now : RunState) (ticked : Bool) → AreAnew now.outs
    → StaysTicked now.ticked ticked old
    → Progress start (record now { core = old; proc = proc; journal = with_known now.journal known })
    → Progress start (record now
    { core = new; proc = new_proc; journal = with_known now.journal new_known; ticked = ticked; still = 0 })

-- what routing moves on: the core, what routes, and the journal's part
pub record Routing : Type 0 where
  pub core : CoreState
  pub proc : ProcPart
  pub journal : JournalPart

abbrev pub routing : CoreState → ProcPart → JournalPart → Routing
routing core proc journal = record { core = core; proc = proc; journal = journal }

-- what a run is with these
abbrev pub with_routing : RunState → Routing → RunState
with_routing now r = record now { core = r.core; proc = r.proc; journal = r.journal }

-- a step that routes items and puts to the journal's place, while no batch failed
abbrev pub RoutesOn : Routing → Routing → Type 0
RoutesOn old new = (start : Beginning) (now : RunState) (ticked : Bool) → AreAnew now.outs
    → StaysTicked now.ticked ticked old.core → Progress start (with_routing now old)
    → Progress start (with_routing (record now { ticked = ticked; still = 0 }) new)

-- a step that routes items where some are raw, and says whether some were
abbrev pub RoutesWhere : Bool → Routing → Routing → Type 0
RoutesWhere routed old new = (start : Beginning) (now : RunState) (ticked : Bool) → AreAnew now.outs
    → StaysTicked now.ticked ticked old.core → Progress start (with_routing now old)
    → Progress start
    (with_routing (record now { ticked = ticked; still = still_after routed now.still }) new)

-- moments that count came from an index of a clock's list to where the clock was; now they come to where it is
abbrev pub CountsTo : Timed → ℕ → ℤ → List ℤ → List ℤ → Type 0
CountsTo timer next floor olds news = (first : ℕ)
    → IfSome timer.moments (λ moments. Counted moments first timer.next floor olds)
    → IfSome timer.moments (λ moments. Counted moments first next floor news)

-- how far a run has come where more moments of its timer count than these
pub record Timely (start : Beginning) (timer new_timer : Timed) (counted : List ℤ) (now : RunState) : Type 0 where
  pub counted_now : List ℤ
  pub counts : CountsTo timer new_timer.next start.start counted counted_now
  pub progress : Progress start (record now { counted_at = counted_now })

-- a step that closes windows where there are aggregators, at a moment of the timer, routes what they make, and puts to
-- the journal's place, while no batch failed: then a tick has come. It says whether some were made.
abbrev pub TicksOn : Bool → Routing → Routing → Timed → Timed → Type 0
TicksOn made old new timer new_timer = (start : Beginning) (now : RunState) → AreAnew now.outs
    → Progress start (with_routing now old)
    → Timely start timer new_timer now.counted_at
    (with_routing (record now { ticked = true; still = still_after made now.still }) new)

-- a step that puts to the outputs, behind which at least so many batches failed since the run last came on
abbrev pub SendsOn : (ℕ → ℕ) → CoreState → CoreState → List OutPart → List OutPart → Type 0
SendsOn count old new outs new_outs = (start : Beginning) (now : RunState)
    → Progress start (record now { core = old; outs = outs })
    → Progress start (record now { core = new; outs = new_outs; still = count now.still })

-- a step that puts to one of the outputs, whatever the others are
abbrev pub SendsAt : (ℕ → ℕ) → CoreState → CoreState → OutPart → OutPart → Type 0
SendsAt count old new out new_out =
    (outs : List OutPart) → out.output < length outs → out_at outs out.output ≡ out
    → SendsOn count old new outs (slice_set outs out.output new_out)

-- how many failed behind one batch: one more where it failed, none where it was accepted
abbrev pub still_sent : Sending → ℕ → ℕ
still_sent sendings.Nothing still = still
still_sent sendings.Accepted still = 0
still_sent sendings.Failed still = still + 1

-- and behind batches of an output, or of all of them
abbrev pub still_flushed : Flush → ℕ → ℕ
still_flushed flush still =
    if flush.accepted then 0
    else if flush.emptied then still
    else still + 1

-- where the run began with nothing the outputs are settled
abbrev pub SettlesFirst : Beginning → CoreState → List OutPart → Type 0
SettlesFirst start core outs = start.first ≡ true → AreSettled core outs

-- a step that reads one of the inputs, whatever the others are
abbrev pub ReadsAt : CoreState → CoreState → InPart → InPart → Type 0
ReadsAt old new part new_part =
    (ins : List InPart) → part.input < length ins → in_at ins part.input ≡ part
    → (start : Beginning) (now : RunState)
    → Progress start (record now { core = old; ins = ins })
    → Progress start (record now { core = new; ins = slice_set ins part.input new_part })

-- a step that notes the end of one of the inputs, where it was met
abbrev pub EndsAt : Bool → CoreState → CoreState → InPart → InPart → Type 0
EndsAt met old new part new_part =
    (ins : List InPart) → part.input < length ins → in_at ins part.input ≡ part
    → (start : Beginning) (now : RunState)
    → (met ≡ true → Told (in_at start.ins part.input).left part.left (λ xs ys. to_come part.hand ys ≡ []))
    → Progress start (record now { core = old; ins = ins })
    → Progress start (record now { core = new; ins = slice_set ins part.input new_part })

-- a step that may gather of one of the inputs: before it no item is raw of that one and of those behind it, and
-- then of none behind it; it says whether a gather was accepted
abbrev pub GathersAt : Bool → CoreState → CoreState → InPart → InPart → Type 0
GathersAt accepted old new part new_part =
    (ins : List InPart) → part.input < length ins → in_at ins part.input ≡ part
    → (start : Beginning) (now : RunState) → SettlesFirst start old now.outs
    → Progress start (record now { core = old; ins = ins; next = part.input; ticked = true })
    → Progress start (record now {
      core = new;
      ins = slice_set ins part.input new_part;
      next = part.input + 1;
      ticked = true;
      still = still_after accepted now.still;
    })

-- steps that read and gather of the inputs before one
abbrev pub GathersTo : ℕ → Bool → CoreState → CoreState → List InPart → List InPart → Type 0
GathersTo next accepted old new ins new_ins =
    (start : Beginning) (now : RunState) → SettlesFirst start old now.outs
    → Progress start (record now { core = old; ins = ins; next = 0; ticked = true })
    → Progress start
    (record now { core = new; ins = new_ins; next = next; ticked = true; still = still_after accepted now.still })

-- so it is for all
abbrev pub GathersOn : Bool → CoreState → CoreState → List InPart → List InPart → Type 0
GathersOn accepted old new ins new_ins = GathersTo (length ins) accepted old new ins new_ins

-- a step that puts to the journal's place
abbrev pub NotesRun : CoreState → CoreState → JournalPart → JournalPart → Type 0
NotesRun old new part new_part = (start : Beginning) (now : RunState)
    → Progress start (record now { core = old; journal = part })
    → Progress start (record now { core = new; journal = new_part })

-- a step that takes reports out of the core
abbrev pub TellsOn : CoreState → CoreState → Type 0
TellsOn old new = (start : Beginning) (now : RunState) → Progress start (record now { core = old })
    → Progress start (record now { core = new })

-- rounds: they read the inputs, route, tick, and put to the outputs and to the journal's place; behind them so many
-- batches failed, at least, since the run last came on, as it was before
abbrev pub RunsOn : (ℕ → ℕ) → RunState → RunState → Type 0
RunsOn count old new = (start : Beginning) (counted : List ℤ) (still : ℕ) → SettlesFirst start old.core old.outs
    → Progress start (record old { counted_at = counted; still = still })
    → Timely start old.timer new.timer counted (record new { still = count still })

-- how far a run has come that was stopped: behind what it had come to stands the Stop
pub record StopsTo (start : Beginning) (journal : List Entry) (now : RunState) : Type 0 where
  pub progress : Progress start now
  pub moment : ℤ
  pub made : List Content
  pub behind : List Entry
  pub stops : progress.journal ≡ journal ++ Stop moment made ∷ behind

-- the run is stopped at a moment, which counts, and what is buffered is sent
abbrev pub StopsAt : ℤ → RunState → RunState → Type 0
StopsAt moment old new = (start : Beginning) (counted : List ℤ) (still : ℕ)
    → (w : Progress start (record old { counted_at = counted; still = still }))
    → StopsTo start w.journal
    (record new { counted_at = counted ++ int_max moment (last_of start.start counted) ∷ [] })
