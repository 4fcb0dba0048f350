use Rattle.std.proofs.Common.{◌≡◌, ◌≤◌, ◌+◌, ◌-◌, ◌++◌, length, take, drop}
use Rattle.statsd_server.specs.Packets.{lines_from, lines_of, refused_lines}
use Rattle.statsd_server.proofs.LineLemmas.{said_of_lines}
use Rattle.statsd_server.proofs.reading.read_packet.Given as goal

abbrev pub invariant-loop-i : goal.invariant-loop-i
invariant-loop-i l = record {
  parts : l.reading.parts.items ++ said_of_lines (lines_from (take (l.i - l.start) (drop l.start l.packet))
      (drop l.i l.packet)) ≡ said_of_lines (lines_of l.packet);
  refused : l.reading.refused + refused_lines (lines_from (take (l.i - l.start) (drop l.start l.packet))
      (drop l.i l.packet)) ≡ refused_lines (lines_of l.packet);
  begun : l.start ≤ l.i;
  within : l.i ≤ length l.packet;
  few : l.reading.refused ≤ l.i;
}

abbrev pub decreases-loop-i : goal.decreases-loop-i
decreases-loop-i l = length l.packet - l.i
