-- What stands in a world in memory: the parts at its places, and the clocks that it has yet to hand out.
use Rattle.std.specs.Prelude.{◌≡◌, ℕ, List, Option, Some, None, Result, Ok, Err}
use Rattle.agent_base.specs.declared.memory.MemClock.{MemClock}
use Rattle.agent_base.specs.declared.mem_world.MemWorld.{MemWorld}
use Rattle.agent_base.specs.declared.world.OpenFault.{OpenFault}
use Rattle.agent_base.specs.declared.world.OpenFault.TheVariants.{Failed, OutOfMemory}
use Rattle.agent_base.specs.Clocks.{clock_at}
use Rattle.agent_base.specs.Places.{SameBut}
use Rattle.agent_base.specs.Slots.{slot_of, part_at}

-- the part that stands at each input place and at each output place, and the clock that stands at each number;
-- None where none does
pub record Standing (S K : Type 0) : Type 0 where
  pub ins : List ℕ → Option S
  pub outs : List ℕ → Option K
  pub clocks : ℕ → Option MemClock

-- what stands in a world
abbrev pub standing : {S K : Type 0} → MemWorld S K → Standing S K
standing world = record {
  ins = λ place. part_at (slot_of world.ins place);
  outs = λ place. part_at (slot_of world.outs place);
  clocks = λ who. clock_at world.clocks.items who;
}

-- nothing stands anywhere
abbrev pub nothing : {S K : Type 0} → Standing S K
nothing = record { ins = λ place. None; outs = λ place. None; clocks = λ who. None }

-- opening gives the part that stands there, and none stands there from here on; it fails where none stands there.
-- Where memory is short the place is as before
abbrev pub MovesOut : {P : Type 0} → Result P OpenFault → Option P → Option P → Type 0
MovesOut (Ok part) old new = (old ≡ Some part) × (new ≡ None)
MovesOut (Err Failed) old new = (old ≡ None) × (new ≡ None)
MovesOut (Err OutOfMemory) old new = new ≡ old

-- what stands at an input place changed at most
pub record OnlyInStands {S K : Type 0} (place : List ℕ) (old new : Standing S K) : Type 0 where
  pub others : SameBut place old.ins new.ins
  pub outs : new.outs ≡ old.outs
  pub clocks : new.clocks ≡ old.clocks

-- what stands at an output place changed at most
pub record OnlyOutStands {S K : Type 0} (place : List ℕ) (old new : Standing S K) : Type 0 where
  pub others : SameBut place old.outs new.outs
  pub ins : new.ins ≡ old.ins
  pub clocks : new.clocks ≡ old.clocks

-- the clock of a number changed at most
pub record OnlyClockStands {S K : Type 0} (who : ℕ) (old new : Standing S K) : Type 0 where
  pub others : SameBut who old.clocks new.clocks
  pub ins : new.ins ≡ old.ins
  pub outs : new.outs ≡ old.outs
