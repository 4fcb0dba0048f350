-- The Gathers of an input.
use Rattle.std.specs.Prelude.{ℕ, ◌==◌, List, [], ◌∷◌, ◌++◌, if◌then◌else◌}
use Rattle.std.specs.declared.option.Option.{Option}
use Rattle.std.specs.declared.option.Option.TheVariants.{Some, None}
use Rattle.account.specs.declared.entry.Entry.{Entry}
use Rattle.account.specs.Says.{GatherSays, gather_of}

-- what an entry says where it is a Gather of the input
abbrev pub said_by : ℕ → Option GatherSays → List GatherSays
said_by input None = []
said_by input (Some says) = if says.input == input then says ∷ [] else []

abbrev pub gathers_by : ℕ → Entry → List GatherSays
gathers_by input e = said_by input (gather_of e)

-- the Gathers of an input, in order
unfoldable pub gathers : ℕ → List Entry → List GatherSays
gathers input [] = []
gathers input (e ∷ es) = gathers_by input e ++ gathers input es
