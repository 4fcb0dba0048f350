-- Offsets of a line.
use Rattle.std.proofs.Common.{◌≡◌, ℕ, ◌+◌, ◌<◌, true, false, eqb, ltb, List, length, get_or, refl, arith}
use Rattle.std.proofs.lemmas.Bool.{eqb-true, ltb-true, ltb-false}
use Rattle.std.proofs.lemmas.List.{get_or_past}
use Rattle.std.specs.Str.{IsUtf8, IsCharBoundary}
use Rattle.std.proofs.lemmas.Str.{IsCharBoundary-after_ascii}

-- a byte other than 0 stands in the text
pub within : (text : List ℕ) (at : ℕ) → 0 < get_or text at 0 → at < length text
within text at some = elim (ltb at (length text)) as (λ t. ltb at (length text) ≡ t → at < length text) [
  | true ↦ λ lt. ltb-true at (length text) lt
  | false ↦ λ ge. absurd (omega (arith, get_or_past text at 0 (ltb-false at (length text) ge)))
] refl

-- behind an ASCII byte a character ends
pub behind_byte : (text : List ℕ) (at b : ℕ) → 0 < b → b < 128 → IsUtf8 text → get_or text at 0 ≡ b
    → IsCharBoundary text (at + 1)
behind_byte text at b some low u is = IsCharBoundary-after_ascii text at u (within text at (omega (arith, is)))
    (omega (arith, is))

pub behind_test : (text : List ℕ) (at b : ℕ) → 0 < b → b < 128 → IsUtf8 text → eqb (get_or text at 0) b ≡ true
    → IsCharBoundary text (at + 1)
behind_test text at b some low u e = behind_byte text at b some low u (eqb-true (get_or text at 0) b e)
