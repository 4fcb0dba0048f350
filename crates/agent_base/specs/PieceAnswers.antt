-- What an answer says of the pieces to come, and why it comes.
use Rattle.std.specs.Prelude.{◌≡◌, ◌<◌, ◌≤◌, ◌⊎◌, ℕ, ◌^◌, List, [], ◌∷◌, length, Option, Some, None, Result, Ok, Err, ⊤}
use Rattle.std.specs.Io.KnownBytes.{IsAtEnd}
use Rattle.agent_base.specs.declared.piece.Piece.{Piece}
use Rattle.agent_base.specs.declared.piece.PieceFault.{PieceFault}
use Rattle.agent_base.specs.declared.piece.PieceFault.TheVariants as faults
use Rattle.agent_base.specs.Counts.{Rose}
use Rattle.agent_base.specs.declared.outside.ReadRefused.{ReadRefused}
use Rattle.agent_base.specs.declared.outside.ReadRefused.TheVariants as refusals
use Rattle.agent_base.specs.declared.piece.CutKind.{CutKind}
use Rattle.agent_base.specs.Cut.{Cut, TooLong, Whole, NoEnd, most_bytes}
use Rattle.agent_base.specs.Hand.{Hand}

-- a piece or a too long one is the first to come, and the others are to come then; at the end none is; else
-- all are still to come
abbrev pub Answers : Result (Option Piece) PieceFault → List Cut → List Cut → Type 0
Answers (Ok (Some p)) before after = before ≡ Whole p ∷ after
Answers (Ok None) before after = (before ≡ []) × (after ≡ [])
Answers (Err faults.TooLong) before after = before ≡ TooLong ∷ after
Answers (Err faults.OutOfMemory) before after = before ≡ after
Answers (Err faults.ReadFault) before after = before ≡ after
Answers (Err faults.ByteLimit) before after = before ≡ after

-- a piece that is given has at most as many bytes as its kind allows
abbrev pub IsShort : CutKind → Result (Option Piece) PieceFault → Type 0
IsShort kind (Ok (Some p)) = length p ≤ most_bytes kind
IsShort kind (Ok None) = ⊤
IsShort kind (Err fault) = ⊤

-- the byte limit is answered exactly where 2^40 bytes were taken
abbrev pub IsLimited : Result (Option Piece) PieceFault → ℕ → Type 0
IsLimited (Err faults.ByteLimit) taken = taken ≡ 2 ^ 40
IsLimited (Err faults.TooLong) taken = taken < 2 ^ 40
IsLimited (Err faults.OutOfMemory) taken = taken < 2 ^ 40
IsLimited (Err faults.ReadFault) taken = taken < 2 ^ 40
IsLimited (Ok piece) taken = taken < 2 ^ 40

-- None: no byte is in hand, and none is left; a read fault: a read failed, and no end of a piece is in
-- hand; out of memory: no read failed, and all in hand is as before or no end of a piece is in hand
abbrev pub HasReason : Result (Option Piece) PieceFault → Hand → Hand → Option (List ℕ) → ℕ → ℕ → Type 0
HasReason (Ok None) old new left before now = (new.bytes ≡ []) × IsAtEnd left
HasReason (Ok (Some p)) old new left before now = ⊤
HasReason (Err faults.ReadFault) old new left before now = Rose before now × NoEnd new.kind new.bytes
HasReason (Err faults.OutOfMemory) old new left before now =
    (now ≡ before) × ((new ≡ old) ⊎ NoEnd new.kind new.bytes)
HasReason (Err faults.TooLong) old new left before now = ⊤
HasReason (Err faults.ByteLimit) old new left before now = ⊤

-- why no piece is given where a read was refused
abbrev pub fault_of : ReadRefused → PieceFault
fault_of refusals.OutOfMemory = faults.OutOfMemory
fault_of refusals.Failed = faults.ReadFault

-- a piece, or one that is too long
abbrev pub IsGiven : Result (Option Piece) PieceFault → Type 0
IsGiven (Ok (Some p)) = ⊤
IsGiven (Ok None) = ⊥
IsGiven (Err faults.TooLong) = ⊤
IsGiven (Err faults.OutOfMemory) = ⊥
IsGiven (Err faults.ReadFault) = ⊥
IsGiven (Err faults.ByteLimit) = ⊥

-- a piece, or one that is too long; where memory was short all is as before
abbrev pub IsGivenOrUnchanged : Result (Option Piece) PieceFault → Hand → Hand → Type 0
IsGivenOrUnchanged (Ok (Some p)) old new = ⊤
IsGivenOrUnchanged (Ok None) old new = ⊥
IsGivenOrUnchanged (Err faults.TooLong) old new = ⊤
IsGivenOrUnchanged (Err faults.OutOfMemory) old new = new ≡ old
IsGivenOrUnchanged (Err faults.ReadFault) old new = ⊥
IsGivenOrUnchanged (Err faults.ByteLimit) old new = ⊥

-- a piece, or one that is too long, or none
abbrev pub IsLast : Result (Option Piece) PieceFault → Type 0
IsLast (Ok piece) = ⊤
IsLast (Err faults.TooLong) = ⊤
IsLast (Err faults.OutOfMemory) = ⊥
IsLast (Err faults.ReadFault) = ⊥
IsLast (Err faults.ByteLimit) = ⊥
