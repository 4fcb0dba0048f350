use Rattle.std.proofs.Common.{◌≡◌}
use Rattle.agent_main.proofs.real.streams.ReaderSource.read.Given as goal

abbrev pub invariant-loop : goal.invariant-loop
invariant-loop l = l.self.faults ≡ l.fn.self.faults
