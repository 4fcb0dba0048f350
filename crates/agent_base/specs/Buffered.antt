-- What a buffer has in hand.
use Rattle.std.specs.Prelude.{ℕ, List}
use Rattle.std.specs.List.{between}
use Rattle.agent_base.specs.declared.buffer.Buffer.{Buffer}
use Rattle.agent_base.specs.Hand.{Hand}

-- the bytes from the start to the end
abbrev pub bytes_of : Buffer → List ℕ
bytes_of b = between b.start b.end b.buf.items

-- the kind, those bytes, the mark and the count
abbrev pub hand_of : Buffer → Hand
hand_of b = record { kind = b.kind; bytes = bytes_of b; is_passing = b.passing; taken = b.taken }
