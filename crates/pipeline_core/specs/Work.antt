-- What a run makes of its items.
use Rattle.std.specs.Prelude.{Bool, List}
use Rattle.std.specs.declared.option.Option.{Option}
use Rattle.metric.specs.declared.metric.Content.{Content}

-- whether made items pass the processors by; what the processors give for the last of the metrics that were
-- pushed to them; and what the filter of each aggregator and of each output gives for a whole
pub record Work : Type 0 where
  pub skip : Bool
  pub whole : List Content → Option Content
  pub aggs : List (Content → Option Content)
  pub outs : List (Content → Option Content)
