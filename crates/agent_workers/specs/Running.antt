-- What a core keeps between the steps of a run.
use Rattle.std.specs.Prelude.{◌≡◌, ◌≢◌, ◌<◌, ◌≤◌, ◌+◌, ◌-◌, ◌^◌, ◌⊎◌, ℕ, min, Bool, List, [], true}
use Rattle.std.specs.Prelude.{false}
use Rattle.std.specs.Prelude.{length, slice_get, IfSome, IsSome, All}
use Rattle.std.specs.List.{AllByRecursion}
use Rattle.std.specs.declared.option.Option.{Option}
use Rattle.std.specs.declared.option.Option.TheVariants.{None, Some}
use Rattle.account.specs.Numbers.{output_numbers}
use Rattle.account.specs.Setup.{Setup}
use Rattle.out_lane.specs.Lane.{LaneState}
use Rattle.pipeline_core.specs.CoreState.{CoreState, lane_at}
use Rattle.account.specs.declared.entry.Entry.TheVariants.{Begin}
use Rattle.pipeline_core.specs.Stands.{Continues, HasJournal}
use Rattle.pipeline_core.specs.Steps.{IsBatchOf, after_begin}
use Rattle.pipeline_core.specs.declared.batches.Batch.{Batch}
use Rattle.pipeline_core.specs.declared.output.Offer.{Offer}
use Rattle.track_groups.specs.Tracker.{live_of}
use Rattle.agent_workers.specs.Inputs.{in_at, InPart, IsFullOf, IsOut}
use Rattle.agent_workers.specs.declared.input.Offered.{Offered}
use Rattle.agent_workers.specs.declared.input.Offered.TheVariants as offers
use Rattle.agent_workers.specs.Output.{OutPart, out_at}
use Rattle.agent_workers.specs.declared.output.Flush.{Flush}

-- an output has a batch size, and no batch of it is in flight
pub record IsLaneReady (lane : LaneState Offer) : Type 0 where
  pub some : 1 ≤ lane.batch
  pub landed : lane.flight ≡ None

-- of each tracked input a group may be live
abbrev pub HasLimits : Setup → Type 0
HasLimits setup = All (λ (most : Option ℕ). IfSome most (λ n. 1 ≤ n)) setup.inputs

-- no item is in hand, at no output a batch is in flight, and of each tracked input a group may be live
pub record IsReady (core : CoreState) : Type 0 where
  pub lane_count : length core.lanes ≡ length core.setup.outputs
  pub each : (output : ℕ) → output < length core.lanes → IsLaneReady (lane_at core.lanes output)
  pub empty_handed : core.held ≡ None
  pub limits : HasLimits core.setup

-- inputs were gathered or ended: the set-up, what is in hand and stopped, what waits at the outputs and their
-- numbers are as before, and no entry that was stored and no raw item is lost
pub record IsGathered (old new : CoreState) : Type 0 where
  pub setup : new.setup ≡ old.setup
  pub held : new.held ≡ old.held
  pub stopped : new.stopped ≡ old.stopped
  pub lanes : new.lanes ≡ old.lanes
  pub numbers : new.numbers.outputs ≡ old.numbers.outputs
  pub stored : length old.stored ≤ length new.stored
  pub raw : length old.raw ≤ length new.raw

-- one input was gathered or ended: the others have ended where they had
pub record IsGatheredAt (input : ℕ) (old new : CoreState) : Type 0 where
  pub kept : IsGathered old new
  pub others : (other : ℕ) → other ≢ input → slice_get new.ended other ≡ slice_get old.ended other

-- as many groups of an input are live as may be
pub record IsAtLimit (core : CoreState) (input : ℕ) : Type 0 where
  pub most : ℕ
  pub tracked : slice_get core.setup.inputs input ≡ Some (Some most)
  pub full : most ≤ live_of core.tracker input

-- what an input holds isn't accepted while items are raw, or as many of its groups are live as may be
abbrev pub IsHeldIn : CoreState → ℕ → Type 0
IsHeldIn core input = (core.raw ≢ []) ⊎ IsAtLimit core input

-- what came of an offer: where the run is full the input is read no more; else it is read on as it was; it holds
-- nothing behind one that was accepted, and where it holds something still nothing changed
pub record HasOffered (offered : Offered) (old new : CoreState) (part new_part : InPart) : Type 0 where
  pub full : offered ≡ offers.Full → IsFullOf new.gathered new_part
  pub room : (offered ≢ offers.Full) → new_part.state ≡ part.state
  pub nothing : offered ≡ offers.Nothing → (new ≡ old) × (part.held ≡ None) × (new_part.held ≡ None)
  pub accepted : offered ≡ offers.Accepted → new_part.held ≡ None
  pub held : offered ≡ offers.Held → (new ≡ old) × IsHeldIn old part.input

-- the live groups and the raw items are as before
pub record IsQuiet (old new : CoreState) : Type 0 where
  pub tracker : new.tracker ≡ old.tracker
  pub raw : new.raw ≡ old.raw

-- an input is read no more and holds nothing, or what it holds isn't accepted
abbrev pub IsOutOrHeld : CoreState → InPart → Type 0
IsOutOrHeld core part = IsOut part ⊎ IsHeldIn core part.input

-- a turn in which no gather was accepted: nothing else changed, and the input is out, or held back
pub record IsQuietTurn (old new : CoreState) (part : InPart) : Type 0 where
  pub quiet : IsQuiet old new
  pub waits : IsOutOrHeld new part

-- turns in which none was: so it is for each input
pub record AreQuietTurns (old new : CoreState) (ins : List InPart) : Type 0 where
  pub quiet : IsQuiet old new
  pub each : (input : ℕ) → input < length ins → IsOutOrHeld new (in_at ins input)

-- each input is read no more and holds nothing, or as many of its groups are live as may be
abbrev pub AreOutOrFull : CoreState → List InPart → Type 0
AreOutOrFull core ins = (input : ℕ) → input < length ins → IsOut (in_at ins input) ⊎ IsAtLimit core input

-- a lane was offered an item at most: its batch size and its batch in flight are as before
pub record IsLaneKept (old new : LaneState Offer) : Type 0 where
  pub batch : new.batch ≡ old.batch
  pub flight : new.flight ≡ old.flight

-- all items without a Route were made
abbrev pub AllMade : List Bool → Type 0
AllMade marks = AllByRecursion (λ (mark : Bool). mark ≡ true) marks

-- items were routed, or made: the set-up, what ended and stopped, and the batches in flight are as before, and where
-- all items
-- had been made all are
pub record IsRoutable (old new : CoreState) : Type 0 where
  pub setup : new.setup ≡ old.setup
  pub ended : new.ended ≡ old.ended
  pub gathered : new.gathered ≡ old.gathered
  pub stopped : new.stopped ≡ old.stopped
  pub lane_count : length new.lanes ≡ length old.lanes
  pub each : (output : ℕ) → output < length old.lanes
      → IsLaneKept (lane_at old.lanes output) (lane_at new.lanes output)
  pub made : AllMade old.made → AllMade new.made

-- a core between two steps of a run: it is ready for the next one, and stands for a legal journal
pub record IsAtRest (core : CoreState) : Type 0 where
  pub ready : IsReady core
  pub stands : HasJournal core

-- and that of a run that wasn't stopped
pub record IsRunning (core : CoreState) : Type 0 where
  pub ready : IsReady core
  pub stands : HasJournal core
  pub going : core.stopped ≡ false

-- batches were sent: the set-up, what is raw, in hand, ended and stopped are as before
pub record IsSentOn (old new : CoreState) : Type 0 where
  pub setup : new.setup ≡ old.setup
  pub raw : new.raw ≡ old.raw
  pub held : new.held ≡ old.held
  pub ended : new.ended ≡ old.ended
  pub gathered : new.gathered ≡ old.gathered
  pub stopped : new.stopped ≡ old.stopped

-- what waits at an output, and its numbers, are as before
pub record IsOutputSame (output : ℕ) (old new : CoreState) : Type 0 where
  pub lane : lane_at new.lanes output ≡ lane_at old.lanes output
  pub numbers : output_numbers new.numbers output ≡ output_numbers old.numbers output

-- batches of an output were sent: what waits at the others, and their numbers, are as before
pub record IsSentAt (output : ℕ) (old new : CoreState) : Type 0 where
  pub kept : IsSentOn old new
  pub lane_count : length new.lanes ≡ length old.lanes
  pub others : (other : ℕ) → other ≢ output → IsOutputSame other old new

-- how many metrics wait at an output, and how many are buffered there
abbrev pub waiting_at : CoreState → ℕ → ℕ
waiting_at core output = length (lane_at core.lanes output).waiting

abbrev pub buffered_at : CoreState → ℕ → ℕ
buffered_at core output = (output_numbers core.numbers output).buffered

-- nothing waits at an output, and nothing is buffered
abbrev pub HasNothing : ℕ → CoreState → Type 0
HasNothing output core = (waiting_at core output ≡ 0) × (buffered_at core output ≡ 0)

-- the next batch of an output, where a metric waits, was begun
pub record BeginsNext (output : ℕ) (old new : CoreState) (batch : Batch) : Type 0 where
  pub waits : waiting_at old output ≢ 0
  pub batch_is : IsBatchOf (lane_at old.lanes output) batch
  pub after : new ≡ after_begin old output batch.from batch.to
  pub continues : Continues old new (Begin output batch.from batch.to)
  pub flies : IsSome (lane_at new.lanes output).flight

-- what sending an output's batches left: nothing waits and nothing is buffered where it was emptied; else its
-- last put failed, and where none was accepted there was one put, and metrics had waited before
pub record HasFlushed (flush : Flush) (output : ℕ) (old new : CoreState) (failed new_failed : ℕ)
    : Type 0 where
  pub emptied : flush.emptied ≡ true → HasNothing output new
  pub failed_last : flush.emptied ≡ false → 1 ≤ new_failed
  pub stuck : flush.emptied ≡ false → flush.accepted ≡ false →
      (waiting_at old output ≢ 0) × (new_failed ≡ min (failed + 1) (2 ^ 32 - 1))

-- at each output nothing is buffered, or its last put failed
abbrev pub AreSettled : CoreState → List OutPart → Type 0
AreSettled core outs = (output : ℕ) → output < length outs →
    (buffered_at core output ≡ 0) ⊎ (1 ≤ (out_at outs output).failed_since)

-- where no batch was accepted at any output: nothing is left of an output, or metrics had waited there and
-- one put more failed
abbrev pub WasTried : ℕ → CoreState → CoreState → ℕ → ℕ → Type 0
WasTried output old new failed new_failed =
    HasNothing output new
    ⊎ ((waiting_at old output ≢ 0) × (new_failed ≡ min (failed + 1) (2 ^ 32 - 1)))

-- what one repeat over all outputs left
pub record HasSwept (sweep : Flush) (old new : CoreState) (outs new_outs : List OutPart) : Type 0 where
  pub emptied : sweep.emptied ≡ true →
      (output : ℕ) → output < length outs → buffered_at new output ≡ 0
  pub settled : AreSettled new new_outs
  pub stuck : sweep.accepted ≡ false → (output : ℕ) → output < length outs →
      WasTried output old new (out_at outs output).failed_since (out_at new_outs output).failed_since

-- at each output nothing waits, or so many puts failed in succession
abbrev pub HaveFailed : ℕ → CoreState → List OutPart → Type 0
HaveFailed tries core outs = (output : ℕ) → output < length outs →
    (waiting_at core output ≡ 0) ⊎ (tries ≤ (out_at outs output).failed_since)

-- at each output nothing is buffered, or so many puts failed in succession
abbrev pub AreLeft : ℕ → CoreState → List OutPart → Type 0
AreLeft tries core outs = (output : ℕ) → output < length outs →
    (buffered_at core output ≡ 0) ⊎ (tries ≤ (out_at outs output).failed_since)

-- whether a metric is buffered at an output
abbrev pub SomeIsBuffered : Bool → CoreState → Type 0
SomeIsBuffered false core = (output : ℕ) → output < length core.setup.outputs → buffered_at core output ≡ 0
SomeIsBuffered true core = (output : ℕ) × (output < length core.setup.outputs) × (buffered_at core output ≢ 0)
