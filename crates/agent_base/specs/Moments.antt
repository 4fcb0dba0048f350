-- The moments of a clock, and what its calls give of them.
use Rattle.std.specs.Prelude.{◌≡◌, ◌≤◌, ℕ, ℤ, ◌+◌, ◌-◌, ◌^◌, min, Bool, true, Option, Some, None, ⊤}

-- the moments at the indices from 0 to a last one
pub record Moments : Type 0 where
  pub last : ℕ
  pub at : ℕ → ℤ

-- the moment at the index is given, and the index rises by one unless it is the last
pub record GivesAt (moments : Moments) (old new : ℕ) (moment : ℤ) : Type 0 where
  pub within : old ≤ moments.last
  pub given : moment ≡ moments.at old
  pub next : new ≡ min (old + 1) moments.last

-- the same, where the moments are told
abbrev pub Gives : Option Moments → ℕ → ℕ → ℤ → Type 0
Gives None old new moment = ⊤
Gives (Some moments) old new moment = GivesAt moments old new moment

-- a wait gave a moment: it is counted, and a clock that was stopped still is
pub record Goes (moments : Option Moments) (old new : ℕ) (was has_stopped : Bool) (waits waited : ℕ)
    (moment : ℤ) : Type 0 where
  pub gives : Gives moments old new moment
  pub stopped : was ≡ true → has_stopped ≡ true
  pub counted : waited ≡ min (waits + 1) (2 ^ 64 - 1)

-- a wait gave none: the clock is stopped, and all else is as before
pub record Ends (old new : ℕ) (has_stopped : Bool) (waits waited : ℕ) : Type 0 where
  pub next : new ≡ old
  pub stopped : has_stopped ≡ true
  pub counted : waited ≡ waits

-- what a wait does, by its answer
abbrev pub Waits : Option Moments → ℕ → ℕ → Bool → Bool → ℕ → ℕ → Option ℤ → Type 0
Waits moments old new was stopped waits waited None = Ends old new stopped waits waited
Waits moments old new was stopped waits waited
    (Some moment) = Goes moments old new was stopped waits waited moment
