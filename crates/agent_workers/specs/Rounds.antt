-- What the rounds and the stop of a run leave.
use Rattle.std.specs.Prelude.{◌≡◌, ◌⊎◌, ◌<◌, ◌≤◌, ◌+◌, ℕ, true, false, [], length, vec_len, if◌then◌else◌}
use Rattle.pipeline_core.specs.CoreState.{told_at, CoreState}
use Rattle.agent_workers.specs.Inputs.{AreOut, OneIsFull}
use Rattle.agent_workers.specs.RunState.{RunState}
use Rattle.agent_workers.specs.Running.{buffered_at, AreLeft, AreOutOrFull, AreSettled}
use Rattle.agent_workers.specs.declared.parts.Parts.{Parts}
use Rattle.agent_workers.specs.declared.rounds.Round.{Round}

-- there are as many jobs as before, which are tried as often at the end, and the lists in which sources and
-- sinks are given back are as they were
pub record AreSameParts {S K C : Type 0} (old new : Parts S K C) : Type 0 where
  pub in_count : vec_len new.inputs ≡ vec_len old.inputs
  pub count : vec_len new.outputs ≡ vec_len old.outputs
  pub tries : new.final_tries ≡ old.final_tries
  pub back : new.back ≡ old.back

-- after so many rounds in succession in which nothing came on no other follows: each input is out, or as many of its
-- groups are live as may be
pub record IsHeldUp (tries still : ℕ) (now : RunState) : Type 0 where
  pub tried : tries ≤ still
  pub each : AreOutOrFull now.core now.ins

-- no round follows: the run is full, each input is read no more and holds nothing, or all that aren't are held back
abbrev pub IsOver : ℕ → ℕ → RunState → Type 0
IsOver tries still now = OneIsFull now.core.gathered now.ins ⊎ AreOut now.ins ⊎ IsHeldUp tries still now

-- no report of any input waits to be asked for
abbrev pub HasNoReports : CoreState → Type 0
HasNoReports core = (input : ℕ) → input < length core.setup.inputs → told_at core.told input ≡ []

-- What a round left: whether the run is full; where nothing came on each input is out, or as many of its groups are
-- live
-- as may be; and where no batch is left nothing is buffered. No report
-- waits.
pub record HasRounded (round : Round) (new : RunState) : Type 0 where
  pub full : round.full ≡ true → OneIsFull new.core.gathered new.ins
  pub idle : round.full ≡ false → round.moved ≡ false → AreOutOrFull new.core new.ins
  pub emptied : round.left ≡ false → (output : ℕ) → output < length new.outs → buffered_at new.core output ≡ 0
  pub heard : HasNoReports new.core

-- how many batches failed since the run last came on, behind a round, at least: one more where some are left
abbrev pub still_behind : Round → ℕ → ℕ
still_behind round still =
    if round.moved then 0
    else if round.left then still + 1
    else still

-- no item is raw, and at each output nothing is buffered, or its last put failed
pub record HasSent (now : RunState) : Type 0 where
  pub none_raw : now.core.raw ≡ []
  pub settled : AreSettled now.core now.outs

-- the run was stopped: nothing is raw, its inputs and its timer are as they were, and at each output nothing is
-- buffered
-- or so many puts failed in succession
pub record HasStopped (tries : ℕ) (old new : RunState) : Type 0 where
  pub stopped : new.core.stopped ≡ true
  pub gathered : new.core.gathered ≡ old.core.gathered
  pub ended : new.core.ended ≡ old.core.ended
  pub none_raw : new.core.raw ≡ []
  pub ins : new.ins ≡ old.ins
  pub timer : new.timer ≡ old.timer
  pub rest : AreLeft tries new.core new.outs
  pub heard : HasNoReports new.core
