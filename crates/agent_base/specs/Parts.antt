-- What a source of one kind or of another tells.
use Rattle.agent_base.specs.Carried.{Carried}
use Rattle.agent_base.specs.declared.either.Either.{Either}
use Rattle.agent_base.specs.declared.either.Either.TheVariants.{One, Two}

-- what its part tells
abbrev pub told_of : {A B : Type 0} → (A → Carried) → (B → Carried) → Either A B → Carried
told_of one two (One source) = one source
told_of one two (Two source) = two source
