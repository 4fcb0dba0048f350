-- What a journal is about.
use Rattle.std.specs.Prelude.{ℕ, ℤ, List}
use Rattle.std.specs.declared.option.Option.{Option}
use Rattle.account.specs.declared.setup.AggLine.{AggLine}

-- the moment at which the run began; per input the most groups that may be undelivered, where it is tracked;
-- the aggregators; per output its batch size and its buffer limit
pub record Setup : Type 0 where
  pub start : ℤ
  pub inputs : List (Option ℕ)
  pub aggs : List AggLine
  pub outputs : List (ℕ × ℕ)
