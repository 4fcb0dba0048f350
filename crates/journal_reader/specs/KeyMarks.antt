-- Numbers by which most keys are told apart: the FNV-1a of 64 bits.
use Rattle.std.specs.Prelude.{ℕ, ◌*◌, ◌^◌, ◌%◌, List, bit_xor}
use Rattle.std.specs.List.{fold}

-- a mark, with a byte more
unfoldable pub marked : ℕ → ℕ → ℕ
marked mark byte = (bit_xor mark byte * 0x100000001b3) % 2 ^ 64

-- the mark of a key
abbrev pub mark_of : List ℕ → ℕ
mark_of key = fold marked 0xcbf29ce484222325 key
