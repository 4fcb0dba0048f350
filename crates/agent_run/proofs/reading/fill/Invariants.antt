use Rattle.std.proofs.Common.{◌≡◌, ◌≤◌, ◌-◌, length, take}
use Rattle.std.specs.Io.KnownBytes.{Consumes}
use Rattle.agent_run.proofs.reading.fill.Given as goal

abbrev pub invariant-loop-len : goal.invariant-loop-len
invariant-loop-len g l = record {
  room : length l.buf ≡ length l.fn.buf;
  within : l.len ≤ length l.fn.buf;
  taken : Consumes (g.S.Source.told l.fn.src).bytes (g.S.Source.told l.src).bytes (take l.len l.buf);
  later : (g.S.Source.told l.fn.src).faults ≤ (g.S.Source.told l.src).faults;
}

abbrev pub decreases-loop-len : goal.decreases-loop-len
decreases-loop-len g l = length l.fn.buf - l.len
