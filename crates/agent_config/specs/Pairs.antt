-- A pair as the code has it, as what it is.
use Rattle.agent_config.specs.Durations.{Pair as PairData}
use Rattle.agent_config.specs.declared.decimals.Pair.{Pair}

abbrev pub pair_view : Pair → PairData
pair_view pair = record {
  whole = pair.whole.now;
  places = pair.places.now;
  unit = pair.unit;
  behind = pair.behind.now;
}
