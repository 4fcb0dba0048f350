use Rattle.std.proofs.Common.{◌≡◌, ◌≤◌, ◌+◌, ◌-◌, drop, length}
use Rattle.agent_config.specs.Durations.{digits_len}
use Rattle.agent_config.proofs.decimals.digits_len.Given as goal

abbrev pub invariant-loop-len : goal.invariant-loop-len
invariant-loop-len l = record {
  within : l.len ≤ length l.text;
  so_far : l.len + digits_len (drop l.len l.text) ≡ digits_len l.text;
}

abbrev pub decreases-loop-len : goal.decreases-loop-len
decreases-loop-len l = length l.initial.text - l.len
