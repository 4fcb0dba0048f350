-- Lists of clocks that a world gave.
use Rattle.std.specs.Prelude.{◌≡◌, ◌≤◌, ◌<◌, ◌+◌, ◌⊎◌, ℕ, List, [], Option, None, length, slice_index_or, vec_capacity}
use Rattle.agent_base.specs.Moments.{Moments}
use Rattle.agent_base.specs.Places.{SameAtAll}
use Rattle.agent_base.specs.Views.{WorldView}
use Rattle.agent_config.specs.declared.config.Config.{Config}
use Rattle.agent_base.specs.Carried.{Timed}
use Rattle.agent_run.specs.Headline.{input_clock}
use Rattle.agent_run.specs.declared.clocks.ClockRoom.{ClockRoom}

-- a clock at its first place
abbrev pub from_first : Option Moments → Timed
from_first moments = record { moments = moments; next = 0 }

-- the clock of a place in the list
abbrev pub timed_at : List Timed → ℕ → Timed
timed_at clocks k = slice_index_or clocks k (from_first None)

-- there are so many clocks; that of each place has the moments of the number that is as much above the first,
-- and is at its first place; every clock with another number is as before
pub record AreTaken (first count : ℕ) (clocks : List Timed) (old new : ℕ → Option Moments) : Type 0 where
  pub count_is : length clocks ≡ count
  pub each : (k : ℕ) → k < count → timed_at clocks k ≡ from_first (old (first + k))
  pub others : (who : ℕ) → (who < first) ⊎ (first + count ≤ who) → new who ≡ old who

-- clocks were taken at most
pub record OnlyClocks (old new : WorldView) : Type 0 where
  pub ins : SameAtAll old.ins new.ins
  pub outs : SameAtAll old.outs new.outs
  pub report : new.report ≡ old.report

-- how many clocks a run of a configuration takes: three of its own, and one of each input and of each output
abbrev pub clock_count : Config → ℕ
clock_count config = 3 + (length config.inputs + length config.outputs)

-- each input has its clock, at its first place
pub record HasInputClocks (config : Config) (clocks : List Timed) (told : ℕ → Option Moments) : Type 0 where
  pub count_is : length clocks ≡ length config.inputs
  pub each : (k : ℕ) → k < length config.inputs → timed_at clocks k ≡ from_first (told (input_clock k))

-- there is room for a clock of each input and of each output, and none stands there yet
pub record HasClockRoom {C : Type 0} (config : Config) (room : ClockRoom C) : Type 0 where
  pub inputs : room.inputs.items ≡ []
  pub in_room : length config.inputs ≤ vec_capacity room.inputs
  pub outputs : room.outputs.items ≡ []
  pub out_room : length config.outputs ≤ vec_capacity room.outputs
