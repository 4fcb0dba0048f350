-- What a world tells of its places.
use Rattle.std.specs.Prelude.{◌≡◌, ◌≢◌, ◌≤◌, ℕ, List, Bool, true, false, Option, None}
use Rattle.agent_base.specs.Carried.{Carried}
use Rattle.agent_base.specs.Counts.{Rose}
use Rattle.agent_base.specs.declared.world.OpenFault.{OpenFault}
use Rattle.agent_base.specs.declared.world.OpenFault.TheVariants.{Failed, OutOfMemory}

-- the bytes left or held at a place, how often opening it failed, the count of faults of its part, and
-- whether the part is out
pub record Place : Type 0 where
  pub bytes : Option (List ℕ)
  pub open_faults : ℕ
  pub part_faults : ℕ
  pub is_out : Bool

-- a place of which nothing is told, and at which nothing has happened
abbrev pub empty_place : Place
empty_place = record { bytes = None; open_faults = 0; part_faults = 0; is_out = false }

-- an opened part carries the bytes and the count of its place, and is out from here on
pub record Opens (part : Carried) (old new : Place) : Type 0 where
  pub bytes : part.bytes ≡ old.bytes
  pub faults : part.faults ≡ old.part_faults
  pub open_faults : new.open_faults ≡ old.open_faults
  pub is_out : new.is_out ≡ true

-- opening failed: that is counted, and all else is as before
pub record FailsToOpen (old new : Place) : Type 0 where
  pub bytes : new.bytes ≡ old.bytes
  pub part_faults : new.part_faults ≡ old.part_faults
  pub is_out : new.is_out ≡ false
  pub rose : Rose old.open_faults new.open_faults
  pub later : old.open_faults ≤ new.open_faults

-- what a refusal leaves of the place
abbrev pub Refuses : OpenFault → Place → Place → Type 0
Refuses Failed old new = FailsToOpen old new
Refuses OutOfMemory old new = new ≡ old

-- the place takes a part in: it tells what the part tells
pub record TakesIn (part : Carried) (old new : Place) : Type 0 where
  pub bytes : new.bytes ≡ part.bytes
  pub faults : new.part_faults ≡ part.faults
  pub open_faults : new.open_faults ≡ old.open_faults
  pub is_out : new.is_out ≡ false

-- the place tells what a part tells
pub record IsTold (part : Carried) (place : Place) : Type 0 where
  pub bytes : part.bytes ≡ place.bytes
  pub faults : part.faults ≡ place.part_faults

-- all is the same but at one place
abbrev pub SameBut : {K X : Type 0} → K → (K → X) → (K → X) → Type 0
SameBut {K} place old new = (other : K) → other ≢ place → new other ≡ old other

-- all is the same at each place
abbrev pub SameAtAll : {K X : Type 0} → (K → X) → (K → X) → Type 0
SameAtAll {K} old new = (other : K) → new other ≡ old other

-- what a world tells beside its places and clocks: the report, and how often reporting failed
pub record Rest : Type 0 where
  pub reported : Option (List ℕ)
  pub report_faults : ℕ

-- no part is out
abbrev pub AreHome : (List ℕ → Place) → Type 0
AreHome places = (place : List ℕ) → (places place).is_out ≡ false
