-- How works end.
use Rattle.std.specs.Prelude.{◌≡◌, List}
use Rattle.turnstile.specs.declared.history.Call.{Call}
use Rattle.turnstile.specs.History.{replay, IsLegal}

module _ {S O A : Type 0} (allows : S → O → A → Type 0) (next : S → O → A → S) where
  -- a state is left by a legal history that began with another
  abbrev pub HasEnded : S → S → Type 0
  HasEnded start state =
      (history : List (Call O A)) × IsLegal allows next start history × (state ≡ replay next start history)
