-- Commas between tags and between fields.
use Rattle.std.proofs.Common.{◌≡◌, ◌≢◌, ℕ, ◌+◌, ◌<◌, true, false, eqb, ltb, List, length, get_or, refl, arith}
use Rattle.std.proofs.lemmas.Bool.{eqb-true, eqb-false, ltb-true, ltb-false}
use Rattle.std.proofs.lemmas.List.{get_or_past}
use Rattle.std.specs.Str.{IsUtf8, IsCharBoundary}
use Rattle.std.proofs.lemmas.Str.{IsCharBoundary-after_ascii}

-- where a comma stands
pub comma_is : (piece : List ℕ) (at : ℕ) → eqb (get_or piece at 0) 44 ≡ true → get_or piece at 0 ≡ 44
comma_is piece at e = eqb-true (get_or piece at 0) 44 e

pub comma_within : (piece : List ℕ) (at : ℕ) → eqb (get_or piece at 0) 44 ≡ true → at < length piece
comma_within piece at e = elim (ltb at (length piece)) as (λ t. ltb at (length piece) ≡ t → at < length piece) [
  | true ↦ λ lt. ltb-true at (length piece) lt
  | false ↦ λ ge. absurd (omega (arith, get_or_past piece at 0 (ltb-false at (length piece) ge), comma_is piece at e))
] refl

pub comma_boundary : (piece : List ℕ) (at : ℕ) → IsUtf8 piece → eqb (get_or piece at 0) 44 ≡ true
    → IsCharBoundary piece (at + 1)
comma_boundary piece at u e = IsCharBoundary-after_ascii piece at u (comma_within piece at e)
    (omega (arith, comma_is piece at e))

pub no_comma : (piece : List ℕ) (at : ℕ) → eqb (get_or piece at 0) 44 ≡ false → get_or piece at 0 ≢ 44
no_comma piece at e = eqb-false (get_or piece at 0) 44 e
