-- What holds of the values of every configuration without faults.
use Rattle.std.specs.Prelude.{◌≤◌, ℕ, List, ◌∷◌, length, map}
use Rattle.std.specs.List.{All, IsDistinct}
use Rattle.std.specs.Str.{bytes_eq}
use Rattle.account.specs.AggLines.{IsLine}
use Rattle.agent_config.specs.declared.config.AggConf.{AggConf}
use Rattle.agent_config.specs.declared.config.Config.{Config}
use Rattle.agent_config.specs.declared.config.InputConf.{InputConf}
use Rattle.agent_config.specs.declared.config.OutputConf.{OutputConf}

-- a number is from 1 to a greatest one
abbrev pub IsCounted : ℕ → ℕ → Type 0
IsCounted most n = (1 ≤ n) × (n ≤ most)

-- a batch of an output has a metric, and no more than may be buffered
pub record HasSizes (output : OutputConf) : Type 0 where
  pub some : 1 ≤ output.batch
  pub ordered : output.batch ≤ output.limit
  pub most : output.limit ≤ 10000

-- how many groups of an input may be undelivered at once is at least one, and at most 100,000
abbrev pub HasUndelivered : InputConf → Type 0
HasUndelivered input = IsCounted 100000 input.max_undelivered

-- neither the key nor the value of a tag is empty
abbrev pub IsFilled : List ℕ × List ℕ → Type 0
IsFilled tag = (1 ≤ length tag.0) × (1 ≤ length tag.1)

-- the period of an aggregator is at least 1 ns, its delay and its grace are at least 0 ns
abbrev pub HasTimes : AggConf → Type 0
HasTimes agg = IsLine agg.line

-- There are inputs and outputs, and at most 16 of each, and of aggregators; no two inputs have one place, and no two of
-- the journal and the outputs; all numbers are in their ranges.
pub record IsSound (config : Config) : Type 0 where
  pub inputs : IsCounted 16 (length config.inputs)
  pub outputs : IsCounted 16 (length config.outputs)
  pub aggs : length config.aggs ≤ 16
  pub times : All HasTimes config.aggs
  pub inputs_apart : IsDistinct bytes_eq (map (λ (input : InputConf). input.place) config.inputs)
  pub outputs_apart : IsDistinct bytes_eq
      (config.agent.journal ∷ map (λ (output : OutputConf). output.place) config.outputs)
  pub undelivered : All HasUndelivered config.inputs
  pub sizes : All HasSizes config.outputs
  pub gather_pieces : IsCounted 10000 config.agent.gather_pieces
  pub final_tries : IsCounted 100 config.agent.final_tries
  pub globals : All IsFilled config.globals
