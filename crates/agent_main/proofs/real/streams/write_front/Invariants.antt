use Rattle.std.proofs.Common.{◌≤◌, length, take}
use Rattle.std.specs.Io.KnownBytes.{Appends}
use Rattle.agent_main.proofs.real.streams.write_front.Given as goal

abbrev pub invariant-loop : goal.invariant-loop
invariant-loop g l = (l.count ≤ length l.bytes) × Appends (g.W.Write.contents l.fn.to) (g.W.Write.contents l.to)
    (take l.count l.bytes)
