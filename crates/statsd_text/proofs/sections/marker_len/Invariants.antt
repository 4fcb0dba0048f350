use Rattle.std.proofs.Common.{◌≡◌, ◌+◌, ◌-◌, ◌≤◌, length, drop}
use Rattle.statsd_text.specs.Sections.{marker_len}
use Rattle.statsd_text.proofs.sections.marker_len.Given as goal

abbrev pub invariant-loop-i : goal.invariant-loop-i
invariant-loop-i l = record {
  within : l.i ≤ length l.bytes;
  so_far : l.i + marker_len (drop l.i l.bytes) ≡ marker_len l.bytes;
}

abbrev pub decreases-loop-i : goal.decreases-loop-i
decreases-loop-i l = length l.initial.bytes - l.i
