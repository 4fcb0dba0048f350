-- The parts of a text that are left.
use Rattle.std.specs.Prelude.{ℕ, ◌<◌, List, [], Option, Some, None}
use Rattle.text_parts.specs.Split.{PartAt, parts_of, Fits}

-- the parts of what is left of a text, which begins at an offset; where nothing is left there are none
abbrev pub parts_left : ℕ → ℕ → Option (List ℕ) → List PartAt
parts_left separator offset None = []
parts_left separator offset (Some text) = parts_of separator (offset, text)

abbrev pub FitsLeft : ℕ → Option (List ℕ) → Type 0
FitsLeft offset None = Unit {0}
FitsLeft offset (Some text) = Fits (offset, text)

-- the separator is ASCII, and the offset behind what is left is a number of the machine
pub record IsLeft (separator offset : ℕ) (rest : Option (List ℕ)) : Type 0 where
  pub ascii : separator < 128
  pub fits : FitsLeft offset rest
