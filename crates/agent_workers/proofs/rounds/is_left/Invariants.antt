use Rattle.std.proofs.Common.{◌≡◌, ◌<◌, ℕ}
use Rattle.agent_workers.specs.Running.{buffered_at}
use Rattle.agent_workers.proofs.rounds.is_left.Given as goal

abbrev pub invariant-loop-output : goal.invariant-loop-output
invariant-loop-output l = (output : ℕ) → output < l.output → buffered_at l.core output ≡ 0
