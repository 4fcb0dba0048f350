-- What the words of a command and its status say of one another.
use Rattle.std.specs.Prelude.{◌≡◌, ◌≢◌, ◌⊎◌, ℕ, List, [], Some, String}
use Rattle.std.specs.declared.alloc.Global.{Global}
use Rattle.agent_base.specs.Places.{SameAtAll}
use Rattle.agent_base.specs.Views.{WorldView}
use Rattle.agent_config.specs.Faults.{text_faults}
use Rattle.agent_run.specs.Command.{IsCheck, IsGen, IsNoCommand, IsPipe, IsRunAt, NamesRun, pipe_config}
use Rattle.agent_run.specs.Configured.{NeitherFailed, SaysRun}
use Rattle.agent_run.specs.Generating.{SaysGen}
use Rattle.agent_run.specs.Places.{IsUnused}
use Rattle.agent_run.specs.Running.{IsRefusedBy}
use Rattle.agent_run.specs.declared.status.Status.{Status}
use Rattle.agent_run.specs.declared.status.Status.TheVariants.{Config, OpenFault, OutOfMemory, Usage}

-- the words name a configuration that is to be checked or run
abbrev pub NamesConfig : List (String Global) → List ℕ → Type 0
NamesConfig words place = IsCheck words place ⊎ NamesRun words place

-- What a run of the configuration of a place came to, over its own inputs or over generated ones. Each status says what
-- it says, and no place changed that the configuration doesn't name, and no clock that it doesn't take; over generated
-- inputs no input place but that of the configuration, and no clock.
pub record SaysRuns (status : Status) (words : List (String Global)) (old new : WorldView) : Type 0 where
  pub run : (place : List ℕ) → IsRunAt words place → SaysRun status place old new
  pub gen : (lines : ℕ) (place : List ℕ) → IsGen words lines place → SaysGen status lines place old new

-- Usage comes exactly where the words are no command, but for want of memory; whatever the status, such
-- words change nothing but the report.
pub record SaysUsage (status : Status) (words : List (String Global)) (old new : WorldView) : Type 0 where
  pub only : status ≡ Usage → IsNoCommand words
  pub always : IsNoCommand words → (status ≡ Usage) ⊎ (status ≡ OutOfMemory)
  pub leaves : status ≡ Usage → IsUnused old.ins new.ins old.outs new.outs old.report new.report
  pub unchanged : IsNoCommand words
      → SameAtAll old.ins new.ins × SameAtAll old.outs new.outs × SameAtAll old.clocks new.clocks

-- Config comes only of a check or a run, over whichever inputs. A command on a configuration with a fault comes to it,
-- where neither opening nor reading its place failed.
pub record SaysFaulty (status : Status) (words : List (String Global)) (old new : WorldView) : Type 0 where
  pub only : status ≡ Config → (place : List ℕ) × NamesConfig words place
  pub always : (place bytes : List ℕ) → NamesConfig words place → (old.ins place).bytes ≡ Some bytes
      → (text_faults bytes ≢ []) → NeitherFailed (old.ins place) (new.ins place)
      → (status ≡ Config) ⊎ (status ≡ OutOfMemory)

-- OpenFault of a pipe comes only where one of its three places wasn't opened: that is counted there, and all
-- else is as before. What it says of a check and of a run stands there.
abbrev pub SaysUnopened : Status → List (String Global) → WorldView → WorldView → Type 0
SaysUnopened status words old new = status ≡ OpenFault → ((place : List ℕ) × NamesConfig words place)
    ⊎ ((input output : List ℕ) × (batch limit : ℕ) × IsPipe words input output batch limit
    × IsRefusedBy (pipe_config input output batch limit) old new)
