use Rattle.std.proofs.Common.{◌≡◌, ◌++◌, ℕ, take, drop, map}
use Rattle.text_buffer.specs.Tables.{IsTableOf}
use Rattle.text_buffer.proofs.table.translate.Given as goal

abbrev pub invariant-loop-byte : goal.invariant-loop-byte
invariant-loop-byte l = (f : ℕ → ℕ) → IsTableOf f l.table
    → l.bytes ≡ map f (take l.byte-index l.fn.bytes) ++ drop l.byte-index l.fn.bytes
