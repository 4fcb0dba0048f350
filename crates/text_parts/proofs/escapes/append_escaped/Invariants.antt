use Rattle.std.proofs.Common.{◌≡◌, ◌++◌, take}
use Rattle.std.specs.List.{flat_map}
use Rattle.text_parts.specs.Escaped.{escaped_byte}
use Rattle.text_parts.specs.Marks.{escapes_of}
use Rattle.text_parts.proofs.escapes.append_escaped.Given as goal

abbrev pub invariant-loop-byte : goal.invariant-loop-byte
invariant-loop-byte l = l.out.items ≡ l.fn.out.items ++ flat_map (escaped_byte (escapes_of l.marks))
    (take l.byte-index l.text)
