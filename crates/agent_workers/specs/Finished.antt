-- How a run ends, from whatever it had come to.
use Rattle.std.specs.Prelude.{◌≡◌, ◌≤◌, ◌<◌, ℕ, ℤ, true, List, [], ◌++◌, length, IfSome}
use Rattle.account.specs.EntryMoments.{counted_moments}
use Rattle.account.specs.declared.entry.Entry.{Entry}
use Rattle.agent_base.specs.Carried.{Timed}
use Rattle.agent_base.specs.Clocked.{Counted}
use Rattle.agent_base.specs.Moments.{Moments}
use Rattle.pipeline_core.specs.Order.{InOrder}
use Rattle.pipeline_core.specs.Stands.{Stands}
use Rattle.agent_workers.specs.Inputs.{in_at, AreInputs, IsOneIn}
use Rattle.agent_workers.specs.Job.{Job}
use Rattle.agent_workers.specs.Output.{AreOutputs}
use Rattle.agent_workers.specs.Progress.{Progress, AllHeard, AllSaid, SettlesFirst}
use Rattle.agent_workers.specs.Run.{change, in_runs, out_runs, HasRun, EndsSo, IsPutSo, IsLeft}
use Rattle.agent_workers.specs.Run.{account_of, course_of, text_of}
use Rattle.agent_workers.specs.RunState.{RunState, Beginning, AreFit, setup_at}
use Rattle.agent_workers.specs.Running.{IsRunning, AreSettled}
use Rattle.formats.specs.declared.pieces.InState.TheVariants as states
use Rattle.agent_workers.specs.declared.rounds.Ending.{Ending}

-- a clock came from an index of its list to another one, and its moments on the way count as these
abbrev pub IsCounted : Moments → ℕ → ℕ → ℤ → List ℤ → Type 0
IsCounted moments first next floor all = (next ≤ moments.last) × Counted moments first next floor all

-- moments that count came from an index of a clock's list to where the clock was; now they come to where it is
abbrev pub CountsOn : Timed → ℕ → ℤ → List ℤ → List ℤ → Type 0
CountsOn timer next floor olds news = (first : ℕ)
    → IfSome timer.moments (λ moments. Counted moments first timer.next floor olds)
    → IfSome timer.moments (λ moments. IsCounted moments first next floor news)

-- The core stands for a legal journal that goes on from the one that the run continues, and comes to an end; the
-- parts agree with it, and the ending says of it what it says.
pub record Finished (start : Beginning) (ending : Ending) (old new : RunState) : Type 0 where
  pub journal : List Entry
  pub stands : Stands new.core journal
  pub more : List Entry
  pub goes_on : journal ≡ start.front ++ more
  pub run : HasRun start.job start.start (in_runs start.ins new.ins) (out_runs start.outs new.outs) journal
  -- what the parts were read, were sent and keep
  pub fit : AreInputs (length start.job.inputs) new.core.ended new.ins
  pub outputs_fit : AreOutputs (length start.job.outputs) new.outs
  pub heard : AllHeard start.ins new.ins journal
  pub said : AllSaid start.outs new.outs journal
  -- the moments that count go on by those that the timer gave
  pub counted : CountsOn old.timer new.timer.next start.start old.counted_at (counted_moments journal)
  pub in_order : start.first ≡ true → InOrder (setup_at start) journal
  -- whether each input was read to its end, or why not; a limit was reached, or a read failed, exactly where a
  -- state says so
  pub ends : (number : ℕ) → number < length start.job.inputs →
      EndsSo ending.limit (course_of start.job start.start (in_runs start.ins new.ins) journal) number
      (in_at new.ins number).state (run.taken number)
  pub limit : IsOneIn states.LimitReached new.ins ending.limit
  pub read_fault : IsOneIn states.Faulted new.ins ending.read_fault
  pub left : IsLeft ending.left (setup_at start) journal (length new.ins) (λ number. (in_at new.ins number).state)
  pub account : ending.account.items ≡ account_of (setup_at start) journal
  pub noted : IsPutSo ending.journal_fault (change start.noted new.journal.held start.note_faults new.journal.faults)
      (text_of (setup_at start) journal)

-- a run of a job ends, whatever it began with and had come to
abbrev pub FinishesSo : Job → Ending → RunState → RunState → Type 0
FinishesSo job ending old new = (start : Beginning) (counted : List ℤ) → start.job ≡ job
    → length start.ins ≡ length old.ins → length start.outs ≡ length old.outs → SettlesFirst start old.core old.outs
    → Progress start (record old { counted_at = counted })
    → Finished start ending (record old { counted_at = counted }) new

-- what a run of a job begins with that has come to nothing yet
abbrev pub begun : Job → ℤ → RunState → Beginning
begun job start now = record {
  job = job;
  start = start;
  ins = now.ins;
  outs = now.outs;
  noted = now.journal.held;
  note_faults = now.journal.faults;
  front = [];
  first = true;
}

-- a core in which nothing happened, and parts that fit it and agree with it: with them a run of a job can be finished
pub record IsSetUp (job : Job) (start : ℤ) (now : RunState) : Type 0 where
  pub few : length now.core.setup.outputs ≤ 16
  pub running : IsRunning now.core
  pub fit : AreFit now
  pub settled : AreSettled now.core now.outs
  pub agrees : Progress (begun job start now) now
