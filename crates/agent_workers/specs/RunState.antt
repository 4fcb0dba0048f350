-- What a run consists of between its steps, as contracts see it.
use Rattle.std.specs.Prelude.{◌≡◌, ℕ, ℤ, Bool, true, List, [], length}
use Rattle.std.specs.declared.option.Option.{Option}
use Rattle.account.specs.Setup.{Setup}
use Rattle.account.specs.declared.entry.Entry.{Entry}
use Rattle.agent_base.specs.Carried.{Carried, Timed}
use Rattle.pipeline_core.specs.CoreState.{CoreState}
use Rattle.agent_workers.specs.Inputs.{InPart, ins_of, AreInputs, AreSameInputs, HaveLimits}
use Rattle.agent_workers.specs.Item.{IsSameProc, ProcPart, proc_of}
use Rattle.agent_workers.specs.Job.{Job, setup_of}
use Rattle.agent_workers.specs.Noted.{JournalPart, part_of}
use Rattle.agent_workers.specs.Output.{OutPart, outs_of, AreOutputs}
use Rattle.agent_workers.specs.declared.parts.Parts.{Parts}

-- what a run consists of: its core, its inputs, the input from which on none has a raw item, what routes the
-- items, the outputs, the journal's part, the moments that were counted since the start, whether a tick has come since
-- items that were gathered were routed, how many batches failed at least since it last came on, and the timer
pub record RunState : Type 0 where
  pub core : CoreState
  pub ins : List InPart
  pub next : ℕ
  pub proc : ProcPart
  pub outs : List OutPart
  pub journal : JournalPart
  pub counted_at : List ℤ
  pub ticked : Bool
  pub still : ℕ
  pub timer : Timed

-- a core and its parts, given what sources, sinks and clocks tell: no item is raw that isn't looked at, no moment was
-- counted, a tick has come, and no batch failed
abbrev pub state_of : {S K C : Type 0} → (S → Carried) → (K → Carried) → (C → Timed) → CoreState → Parts S K C
    → RunState
state_of told put timed core parts = record {
  core = core;
  ins = ins_of told timed parts.inputs.items;
  next = 0;
  proc = proc_of parts.proc;
  outs = outs_of put parts.outputs.items;
  journal = part_of put parts.journal;
  counted_at = [];
  ticked = true;
  still = 0;
  timer = timed parts.timer;
}

-- what routes the items fits the core: there is a filter for each aggregator and for each output
pub record IsProcFit (core : CoreState) (proc : ProcPart) : Type 0 where
  pub aggs : length proc.aggs ≡ length core.setup.aggs
  pub outs : length proc.outs ≡ length core.setup.outputs

-- the parts fit the core: there is one input for each of its set-up, with its limit, and one output, the number of each
-- is its index, and a filter for each aggregator and each output
pub record AreFit (now : RunState) : Type 0 where
  pub inputs : AreInputs (length now.core.setup.inputs) now.core.ended now.ins
  pub limits : HaveLimits now.core.setup.inputs now.ins
  pub outputs : AreOutputs (length now.core.setup.outputs) now.outs
  pub filters : IsProcFit now.core now.proc

-- what a run is about is as before: its set-up, its inputs' numbers, rules and clocks, the steps, aggregators and
-- outputs
-- of what routes its items, and the timer's moments
pub record IsAboutSame (old new : RunState) : Type 0 where
  pub setup : new.core.setup ≡ old.core.setup
  pub inputs : AreSameInputs old.ins new.ins
  pub proc : IsSameProc old.proc new.proc
  pub timer : new.timer.moments ≡ old.timer.moments

-- what a run began with: its job, the moment of its start, its inputs, its outputs, and the bytes held by
-- the journal's place and its count of failed puts, when these were new; and the journal that the run
-- continues, and whether that is said of it which holds of one that began with nothing
pub record Beginning : Type 0 where
  pub job : Job
  pub start : ℤ
  pub ins : List InPart
  pub outs : List OutPart
  pub noted : Option (List ℕ)
  pub note_faults : ℕ
  pub front : List Entry
  pub first : Bool

-- what its journal is about
abbrev pub setup_at : Beginning → Setup
setup_at start = setup_of start.job start.start
