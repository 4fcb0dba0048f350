-- What a read says of how often reads have failed.
use Rattle.std.specs.Prelude.{◌≡◌, ◌≤◌, ℕ, Result, Ok, Err}
use Rattle.agent_base.specs.Counts.{Rose}
use Rattle.agent_base.specs.declared.outside.ReadRefused.{ReadRefused}
use Rattle.agent_base.specs.declared.outside.ReadRefused.TheVariants.{Failed, OutOfMemory}

-- the count rose where the read failed, else it is as before
abbrev pub ReadFails : ℕ → ℕ → Result ℕ ReadRefused → Type 0
ReadFails before now (Ok count) = now ≡ before
ReadFails before now (Err OutOfMemory) = now ≡ before
ReadFails before now (Err Failed) = Rose before now

-- the count of failed reads never falls, and rose exactly where the read failed, unless it stands at its last value
pub record ReadHasCause (before now : ℕ) (result : Result ℕ ReadRefused) : Type 0 where
  pub later : before ≤ now
  pub failed : ReadFails before now result
