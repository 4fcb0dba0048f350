-- What a put appends to the bytes that are held.
use Rattle.std.specs.Prelude.{◌≤◌, ℕ, List, take, Result, Ok, Err, Option, ⊤}
use Rattle.std.specs.Io.KnownBytes.{Appends, Keeps}
use Rattle.agent_base.specs.Counts.{Rose}
use Rattle.agent_base.specs.declared.outside.PutFault.{PutFault}
use Rattle.agent_base.specs.declared.outside.PutFault.TheVariants.{Failed, OutOfMemory}

-- all bytes are appended; a prefix of them where the put failed; none where memory was short
abbrev pub PutAppends : Option (List ℕ) → Option (List ℕ) → List ℕ → Result (Unit {0}) PutFault → Type 0
PutAppends old new bytes (Ok done) = Appends old new bytes
PutAppends old new bytes (Err Failed) = (n : ℕ) × Appends old new (take n bytes)
PutAppends old new bytes (Err OutOfMemory) = Keeps old new

-- the count rose where the put failed
abbrev pub PutFails : ℕ → ℕ → Result (Unit {0}) PutFault → Type 0
PutFails before now (Err Failed) = Rose before now
PutFails before now _ = ⊤

-- the count of failed puts never falls, and rose where the put failed
pub record PutHasCause (before now : ℕ) (result : Result (Unit {0}) PutFault) : Type 0 where
  pub later : before ≤ now
  pub failed : PutFails before now result
