-- The moments that entries name.
use Rattle.std.specs.Prelude.{ℕ, ℤ, List, [], ◌∷◌, ◌++◌, map}
use Rattle.account.specs.declared.entry.Entry.{Entry}
use Rattle.account.specs.declared.entry.Entry.TheVariants.{Tick, Stop}
use Rattle.account.specs.Says.{GatherSays}
use Rattle.account.specs.Gathers.{gathers}

-- the moments of an input's Gathers, in order
abbrev pub gather_moments : ℕ → List Entry → List ℤ
gather_moments input journal = map (λ (says : GatherSays). says.moment) (gathers input journal)

-- the moment of a Tick or a Stop
abbrev pub counted_by : Entry → List ℤ
counted_by (Tick moment made) = moment ∷ []
counted_by (Stop moment made) = moment ∷ []
counted_by _ = []

-- the moments of the Ticks and the Stop, in order
unfoldable pub counted_moments : List Entry → List ℤ
counted_moments [] = []
counted_moments (e ∷ es) = counted_by e ++ counted_moments es
