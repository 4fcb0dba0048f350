use Rattle.std.proofs.Common.{◌≡◌, ◌≤◌, length}
use Rattle.agent_config.specs.Sums.{AreDigits, places_len, value_of}
use Rattle.agent_config.proofs.TimeLemmas.{SoFar}
use Rattle.agent_config.proofs.times.time_of_pairs.Given as goal

abbrev pub invariant-loop-rest : goal.invariant-loop-rest
invariant-loop-rest l = record {
  so_far : SoFar l.text l.rest (value_of l.sum);
  len : places_len l.sum ≡ length l.text;
  within : length l.rest ≤ length l.text;
  digits : AreDigits l.sum.places.items;
}

abbrev pub decreases-loop-rest : goal.decreases-loop-rest
decreases-loop-rest l = length l.rest
