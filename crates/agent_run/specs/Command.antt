-- The words that are a command.
use Rattle.std.specs.Prelude.{◌≡◌, ◌≢◌, ◌≤◌, ◌⊎◌, ℕ, false, List, [], ◌∷◌, map, codes, String}
use Rattle.std.specs.Str.Parse.{IsNumeral, digits_value}
use Rattle.std.specs.declared.alloc.Global.{Global}
use Rattle.std.specs.String.{string_bytes}
use Rattle.agent_config.specs.Usual.{usual_agent, usual_undelivered}
use Rattle.agent_config.specs.declared.config.Config.{Config}
use Rattle.format_words.specs.declared.format.InFormat.TheVariants as read
use Rattle.format_words.specs.declared.format.OutFormat.TheVariants as written
use Rattle.metric_filter.specs.Filter.{no_rules}
use Rattle.agent_run.specs.declared.command.Command.{Command}
use Rattle.agent_run.specs.declared.command.Command.TheVariants.{Check, Gen, Pipe, Run}

-- the output place of the journal of a pipe: that of an agent where nothing is said
abbrev pub journal_place : List ℕ
journal_place = usual_agent.journal

-- a word of one or more decimal digits, and the number that it spells
pub record IsNumber (word : List ℕ) (n : ℕ) : Type 0 where
  pub digits : IsNumeral 10 word
  pub value : digits_value 10 word ≡ n

-- the five words of `pipe IN OUT BATCH LIMIT`, with 1 <= BATCH <= LIMIT <= 10,000; OUT isn't the journal's
-- place
pub record IsPipeOf (command output batch_word limit_word : List ℕ) (batch limit : ℕ) : Type 0 where
  pub command_is : command ≡ codes "pipe"
  pub apart : output ≢ journal_place
  pub batch_is : IsNumber batch_word batch
  pub limit_is : IsNumber limit_word limit
  pub some : 1 ≤ batch
  pub ordered : batch ≤ limit
  pub most : limit ≤ 10000

-- the words are `pipe IN OUT BATCH LIMIT`
pub record IsPipe (words : List (String Global)) (input output : List ℕ) (batch limit : ℕ) : Type 0 where
  pub command : List ℕ
  pub batch_word : List ℕ
  pub limit_word : List ℕ
  pub words_are : map string_bytes words ≡ command ∷ input ∷ output ∷ batch_word ∷ limit_word ∷ []
  pub pipe : IsPipeOf command output batch_word limit_word batch limit

-- the words are `check CONFIG`
abbrev pub IsCheck : List (String Global) → List ℕ → Type 0
IsCheck words place = map string_bytes words ≡ codes "check" ∷ place ∷ []

-- the words are `run CONFIG`
abbrev pub IsRunAt : List (String Global) → List ℕ → Type 0
IsRunAt words place = map string_bytes words ≡ codes "run" ∷ place ∷ []

-- the words are `gen N CONFIG`, with 1 <= N <= 1,000,000
pub record IsGen (words : List (String Global)) (lines : ℕ) (place : List ℕ) : Type 0 where
  pub lines_word : List ℕ
  pub words_are : map string_bytes words ≡ codes "gen" ∷ lines_word ∷ place ∷ []
  pub lines_are : IsNumber lines_word lines
  pub some : 1 ≤ lines
  pub most : lines ≤ 1000000

-- the words name a configuration that is to be run, over its own inputs or over generated ones
abbrev pub NamesRun : List (String Global) → List ℕ → Type 0
NamesRun words place = IsRunAt words place ⊎ ((lines : ℕ) × IsGen words lines place)

-- the words name no configuration that is to be checked or run, over its own inputs or generated ones
pub record NamesNoConfig (words : List (String Global)) : Type 0 where
  pub no_check : (place : List ℕ) → IsCheck words place → ⊥
  pub no_run : (place : List ℕ) → IsRunAt words place → ⊥
  pub no_gen : (lines : ℕ) (place : List ℕ) → IsGen words lines place → ⊥

-- the words are no command
pub record IsNoCommand (words : List (String Global)) : Type 0 where
  pub no_pipe : (input output : List ℕ) (batch limit : ℕ) → IsPipe words input output batch limit → ⊥
  pub no_config : NamesNoConfig words

-- the words are this command
abbrev pub IsCommand : List (String Global) → Command → Type 0
IsCommand words (Pipe pipe) = IsPipe words pipe.input.now pipe.output.now pipe.batch pipe.limit
IsCommand words (Check place) = IsCheck words place.now
IsCommand words (Run place) = IsRunAt words place.now
IsCommand words (Gen run) = IsGen words run.lines run.place.now

-- the configuration that a pipe is: one line protocol input and one line protocol output with these sizes, no
-- processor, no aggregator, no filter, no global tag, and what an agent has where nothing is said
abbrev pub pipe_config : List ℕ → List ℕ → ℕ → ℕ → Config
pipe_config input output batch limit = record {
  agent = usual_agent;
  globals = [];
  inputs = record {
    place = input;
    format = read.Influx;
    tracked = false;
    max_undelivered = usual_undelivered;
    filter = no_rules;
  } ∷ [];
  steps = [];
  aggs = [];
  outputs = record { place = output; format = written.Influx; batch = batch; limit = limit; filter = no_rules } ∷ [];
}
