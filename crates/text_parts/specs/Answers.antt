-- What a reader answers to its caller.
use Rattle.std.specs.Prelude.{◌≡◌, ◌⊎◌, Result, Ok, Err}
use Rattle.text_parts.specs.declared.error.ReadError.{ReadError}
use Rattle.text_parts.specs.declared.error.ReadError.TheVariants as errors

-- what was read, or its first fault; where no memory was left, that fault
abbrev pub answered : {F X : Type 0} → F → Result X (ReadError F) → Result X F
answered no_memory (Ok x) = Ok x
answered no_memory (Err errors.OutOfMemory) = Err no_memory
answered no_memory (Err (errors.Fault fault)) = Err fault

-- the answer, seen by view, is the reading, or memory ran out
abbrev pub Answers : {F X Y : Type 0} → F → (X → Y) → Result X F → Result Y F → Type 0
Answers no_memory view (Ok x) reading = reading ≡ Ok (view x)
Answers no_memory view (Err e) reading = (e ≡ no_memory) ⊎ (reading ≡ Err e)
