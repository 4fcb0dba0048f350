use Rattle.std.proofs.Common.{◌≡◌, ◌-◌, ◌≤◌, ◌++◌, length, drop}
use Rattle.text_parts.specs.Part.{plain}
use Rattle.text_parts.specs.Kinds.{kind_of}
use Rattle.text_parts.proofs.part.plain_bytes.Given as goal

abbrev pub invariant-loop-i : goal.invariant-loop-i
invariant-loop-i l = (l.i ≤ length l.bytes) × (l.text.items ++ plain (kind_of l.part) (drop l.i l.bytes) ≡ plain
    (kind_of l.part) l.bytes)

abbrev pub decreases-loop-i : goal.decreases-loop-i
decreases-loop-i l = length l.initial.bytes - l.i
