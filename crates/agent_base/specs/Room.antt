-- The places of a buffer.
use Rattle.std.specs.Prelude.{ℕ}
use Rattle.agent_base.specs.declared.piece.CutKind.{CutKind}
use Rattle.agent_base.specs.declared.piece.CutKind.TheVariants.{Lines, Expositions}

-- how many places there are: for a piece that isn't too long, and for a read
abbrev pub room_of : CutKind → ℕ
room_of Lines = 135168
room_of Expositions = 4259840

-- how many bytes are kept of the line begun, of a piece that is passed over
abbrev pub most_kept : CutKind → ℕ
most_kept Lines = 0
most_kept Expositions = 6
