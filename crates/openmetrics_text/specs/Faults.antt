-- Faults of lines.
use Rattle.std.specs.Prelude.{ℕ, Result, Ok, Err}
use Rattle.openmetrics_text.specs.declared.fault.ExpositionFault.{ExpositionFault}
use Rattle.openmetrics_text.specs.declared.fault.ExpositionKind.{ExpositionKind}

-- a fault at an offset
abbrev pub fault : {A : Type 0} → ExpositionKind → ℕ → Result A ExpositionFault
fault kind offset = Err (record { kind = kind; offset = offset })

-- what is read of the line that begins at an offset
abbrev pub placed_at : {A : Type 0} → ℕ → Result A ExpositionKind → Result A ExpositionFault
placed_at offset (Ok x) = Ok x
placed_at offset (Err kind) = fault kind offset
