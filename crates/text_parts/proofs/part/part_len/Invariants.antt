use Rattle.std.proofs.Common.{◌≡◌, ◌+◌, ◌-◌, ◌≤◌, length, drop}
use Rattle.text_parts.specs.Part.{part_len}
use Rattle.text_parts.specs.Kinds.{kind_of}
use Rattle.text_parts.proofs.part.part_len.Given as goal

abbrev pub invariant-loop-i : goal.invariant-loop-i
invariant-loop-i l = (l.i ≤ length l.bytes) × (l.i + part_len (kind_of l.part) (drop l.i l.bytes) ≡ part_len
    (kind_of l.part) l.bytes)

abbrev pub decreases-loop-i : goal.decreases-loop-i
decreases-loop-i l = length l.initial.bytes - l.i
