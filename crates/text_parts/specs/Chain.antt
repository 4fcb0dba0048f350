-- Readings in a chain: the first fault counts.
use Rattle.std.specs.Prelude.{◌≡◌, Result, Ok, Err}
use Rattle.text_parts.specs.declared.error.ReadError.{ReadError}
use Rattle.text_parts.specs.declared.error.ReadError.TheVariants as errors

-- what follows a reading: nothing after a fault
infixl 10 ◌>>=◌
abbrev pub ◌>>=◌ : {F A B : Type 0} → Result A F → (A → Result B F) → Result B F
(Ok x) >>= next = next x
(Err fault) >>= next = Err fault

-- a reader that fails has found the fault of the reading, unless memory ran out
abbrev pub Fails : {F Y : Type 0} → ReadError F → Result Y F → Type 0
Fails errors.OutOfMemory reading = Unit {0}
Fails (errors.Fault fault) reading = reading ≡ Err fault

-- what a reader returned, seen by view, is what the reading gives, unless memory ran out
abbrev pub Gives : {F X Y : Type 0} → (X → Y) → Result X (ReadError F) → Result Y F → Type 0
Gives view (Ok x) reading = reading ≡ Ok (view x)
Gives view (Err e) reading = Fails e reading
