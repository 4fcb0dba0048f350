-- Bytes that are written over others.
use Rattle.std.specs.Prelude.{◌≡◌, ◌+◌, ◌++◌, ℕ, List, length, take}

-- behind the first `at` cells stands a text, up to an end, and as many cells are there as before
pub record Placed (old new : List ℕ) (at : ℕ) (text : List ℕ) (end : ℕ) : Type 0 where
  pub bytes : take end new ≡ take at old ++ text
  pub end_at : end ≡ at + length text
  pub cells : length new ≡ length old
