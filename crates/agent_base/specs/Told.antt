-- What holds of the bytes that are left, where they are told.
use Rattle.std.specs.Prelude.{ℕ, List, Option, Some, None, ⊤}

-- the bytes left before and after are related, where they are told before; they are then told after too
abbrev pub Told : Option (List ℕ) → Option (List ℕ) → (List ℕ → List ℕ → Type 0) → Type 0
Told None after P = ⊤
Told (Some xs) None P = ⊥
Told (Some xs) (Some ys) P = P xs ys
