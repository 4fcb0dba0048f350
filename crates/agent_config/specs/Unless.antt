-- One thing of a list, where something doesn't hold.
use Rattle.std.specs.Prelude.{Bool, true, false, List, [], ◌∷◌}

abbrev pub unless : {X : Type 0} → Bool → X → List X
unless true x = []
unless false x = x ∷ []
