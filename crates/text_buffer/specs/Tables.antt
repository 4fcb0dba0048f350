-- Tables of all bytes.
use Rattle.std.specs.Prelude.{◌≡◌, ℕ, ◌<◌, List, slice_index}

-- each byte stands there as the function gives it
pub record IsTableOf (f : ℕ → ℕ) (table : List ℕ) : Type 0 where
  pub at : (b : ℕ) → b < 256 → slice_index table b ≡ f b
