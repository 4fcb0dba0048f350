-- What a call that appends does to a text.
use Rattle.std.specs.Prelude.{◌≡◌, ℕ, List, ◌++◌, length, take, Result, Ok, Err}

-- the old text stands at the front of the new one
abbrev pub Extends : List ℕ → List ℕ → Type 0
Extends old new = take (length old) new ≡ old

-- a text was appended; after an error the old one still stands at the front, perhaps with a part more
abbrev pub Adds : {E : Type 0} → Result (Unit {0}) E → List ℕ → List ℕ → List ℕ → Type 0
Adds (Ok done) old new text = new ≡ old ++ text
Adds (Err fault) old new text = Extends old new
