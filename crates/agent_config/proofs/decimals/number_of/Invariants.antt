use Rattle.std.proofs.Common.{◌≡◌, drop}
use Rattle.agent_config.specs.Durations.{number_behind}
use Rattle.agent_config.proofs.decimals.number_of.Given as goal

abbrev pub invariant-loop-digit : goal.invariant-loop-digit
invariant-loop-digit l = number_behind l.number (drop l.digit-index l.digits) ≡ number_behind 0 l.digits
