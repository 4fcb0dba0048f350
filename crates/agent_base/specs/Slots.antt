-- Places in memory.
use Rattle.std.specs.Prelude.{◌≡◌, ℕ, ◌^◌, ◌+◌, ◌-◌, ◌≤◌, min, List, Bool, true, false}
use Rattle.std.specs.declared.option.Option.{Option}
use Rattle.std.specs.declared.option.Option.TheVariants.{Some, None}
use Rattle.std.specs.declared.result.Result.{Result}
use Rattle.std.specs.declared.result.Result.TheVariants.{Ok, Err}
use Rattle.std.specs.String.{string_bytes}
use Rattle.std.specs.List.{find}
use Rattle.std.specs.Str.{bytes_eq}
use Rattle.agent_base.specs.Carried.{Carried, no_part}
use Rattle.agent_base.specs.Places.{Place, empty_place}
use Rattle.agent_base.specs.declared.slots.Slot.{Slot}
use Rattle.agent_base.specs.declared.slots.Slots.{Slots}
use Rattle.agent_base.specs.declared.world.OpenFault.{OpenFault}
use Rattle.agent_base.specs.declared.world.OpenFault.TheVariants.{Failed, OutOfMemory}

-- the slot is that of a place
abbrev pub is_named : {P : Type 0} → List ℕ → Slot P → Bool
is_named place slot = bytes_eq (string_bytes slot.place) place

-- the slot of a place
abbrev pub slot_at : {P : Type 0} → List (Slot P) → List ℕ → Option (Slot P)
slot_at slots place = find (is_named place) slots

-- the slot of a place, of those of one side
abbrev pub slot_of : {P : Type 0} → Slots P → List ℕ → Option (Slot P)
slot_of slots place = slot_at slots.slots.items place

-- what a part tells; where there is none, nothing and no fault
abbrev pub told_by : {P : Type 0} → (P → Carried) → Option P → Carried
told_by told None = no_part
told_by told (Some part) = told part

-- what a place tells
abbrev pub told_of : {P : Type 0} → (P → Carried) → Option (Slot P) → Place
told_of told None = empty_place
told_of told (Some slot) = record {
  bytes = (told_by told slot.part).bytes;
  open_faults = slot.open_faults;
  part_faults = (told_by told slot.part).faults;
  is_out = slot.is_out;
}

-- what each place tells
abbrev pub places_of : {P : Type 0} → (P → Carried) → Slots P → List ℕ → Place
places_of told slots place = told_of told (slot_of slots place)

-- the part that stands at a place
abbrev pub part_at : {P : Type 0} → Option (Slot P) → Option P
part_at None = None
part_at (Some slot) = slot.part

-- whether the part is out
abbrev pub is_out_at : {P : Type 0} → Option (Slot P) → Bool
is_out_at None = false
is_out_at (Some slot) = slot.is_out

-- the part leaves its slot
pub record Leaves {P : Type 0} (part : P) (old new : Option (Slot P)) : Type 0 where
  pub slot : Slot P
  pub was : old ≡ Some slot
  pub had : slot.part ≡ Some part
  pub next : Slot P
  pub now : new ≡ Some next
  pub has : next.part ≡ None
  pub is_out : next.is_out ≡ true
  pub open_faults : next.open_faults ≡ slot.open_faults

-- the part comes to its slot
pub record Comes {P : Type 0} (part : P) (old new : Option (Slot P)) : Type 0 where
  pub slot : Slot P
  pub was : old ≡ Some slot
  pub next : Slot P
  pub now : new ≡ Some next
  pub has : next.part ≡ Some part
  pub is_out : next.is_out ≡ false
  pub open_faults : next.open_faults ≡ slot.open_faults

-- nothing was told, or that there is no part
abbrev pub HadNone : {P : Type 0} → Option (Slot P) → ℕ → Type 0
HadNone None now = now ≡ 1
HadNone (Some slot) now = (slot.part ≡ None) × (now ≡ min (slot.open_faults + 1) (2 ^ 64 - 1))
    × (slot.open_faults ≤ now)

-- there is no part there
pub record IsMissed {P : Type 0} (old new : Option (Slot P)) : Type 0 where
  pub next : Slot P
  pub now : new ≡ Some next
  pub has : next.part ≡ None
  pub is_out : next.is_out ≡ is_out_at old
  pub open_faults : HadNone old next.open_faults

-- what opening does to a slot, by its answer
abbrev pub OpensSlot : {P : Type 0} → Result P OpenFault → Option (Slot P) → Option (Slot P) → Type 0
OpensSlot (Ok part) old new = Leaves part old new
OpensSlot (Err Failed) old new = IsMissed old new
OpensSlot (Err OutOfMemory) old new = new ≡ old

-- how often opening a place has failed
abbrev pub open_faults_at : {P : Type 0} → Option (Slot P) → ℕ
open_faults_at None = 0
open_faults_at (Some slot) = slot.open_faults

-- the part comes to a place, in place of what was there
pub record Fills {P : Type 0} (part : P) (old new : Option (Slot P)) : Type 0 where
  pub slot : Slot P
  pub now : new ≡ Some slot
  pub has : slot.part ≡ Some part
  pub is_out : slot.is_out ≡ false
  pub open_faults : slot.open_faults ≡ open_faults_at old

-- no part is out
abbrev pub AllHome : {P : Type 0} → Slots P → Type 0
AllHome slots = (place : List ℕ) → is_out_at (slot_of slots place) ≡ false
