-- What a worker's calls are.
use Rattle.std.specs.Prelude.{◌≡◌, ℕ, List, [], ◌∷◌, ◌++◌}
use Rattle.turnstile.specs.declared.history.Call.{Call}
use Rattle.turnstile.specs.declared.history.View.{View}
use Rattle.turnstile_scenarios.specs.declared.shelf.Op.{Op}
use Rattle.turnstile_scenarios.specs.declared.shelf.Op.TheVariants.{Put}
use Rattle.turnstile_scenarios.specs.declared.shelf.Answer.{Answer}

-- each call puts a number
abbrev pub ArePuts : List (Call Op Answer) → Type 0
ArePuts [] = Unit {0}
ArePuts (c ∷ cs) = ((n : ℕ) × (c.op ≡ Put n)) × ArePuts cs

-- the calls that a pass gained are puts
abbrev pub GainedPuts : View Op Answer → View Op Answer → Type 0
GainedPuts old new = (gained : List (Call Op Answer)) × (new.mine ≡ old.mine ++ gained) × ArePuts gained
