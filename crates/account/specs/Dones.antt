-- How the batches of an output ended.
use Rattle.std.specs.Prelude.{◌≡◌, ℕ, ◌==◌, Bool, false, not, List, [], ◌∷◌, ◌++◌, replicate, count_by}
use Rattle.std.specs.Prelude.{if◌then◌else◌}
use Rattle.account.specs.declared.entry.Entry.{Entry}
use Rattle.account.specs.Says.{DoneSays, done_of}
use Rattle.std.specs.declared.option.Option.{Option}
use Rattle.std.specs.declared.option.Option.TheVariants.{Some, None}

-- whether the batch of an output that ends was accepted
abbrev pub oks_said : ℕ → Option DoneSays → List Bool
oks_said output None = []
oks_said output (Some says) = if says.output == output then says.ok ∷ [] else []

abbrev pub dones_by : ℕ → Entry → List Bool
dones_by output e = oks_said output (done_of e)

-- whether each batch of an output that is done was accepted, in order
unfoldable pub dones : ℕ → List Entry → List Bool
dones output [] = []
dones output (e ∷ es) = dones_by output e ++ dones output es

-- how many of an output's batches failed
abbrev pub failed_count : ℕ → List Entry → ℕ
failed_count output journal = count_by not (dones output journal)

-- the last so many batches failed
pub record LastFailed (n : ℕ) (all : List Bool) : Type 0 where
  pub front : List Bool
  pub is : all ≡ front ++ replicate n false
