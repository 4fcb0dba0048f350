-- The lines that were said in a world in memory.
use Rattle.std.specs.Prelude.{◌≡◌, ◌⊎◌, ℕ, List, [], ◌∷◌, ◌++◌, map}
use Rattle.std.specs.String.{string_bytes}
use Rattle.agent_base.specs.declared.mem_world.MemWorld.{MemWorld}

-- the lines that a world keeps, in the order in which they were said
abbrev pub lines_said : {S K : Type 0} → MemWorld S K → List (List ℕ)
lines_said world = map string_bytes world.said.items

-- a line that is said is the last one from here on; or the lines are as before, where memory for it was short
abbrev pub SaysLine : List ℕ → List (List ℕ) → List (List ℕ) → Type 0
SaysLine line old new = (new ≡ old ++ line ∷ []) ⊎ (new ≡ old)
