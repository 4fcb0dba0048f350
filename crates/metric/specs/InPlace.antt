-- A text in cells, with its length.
use Rattle.std.specs.Prelude.{ℕ, ◌≤◌, List, take}
use Rattle.std.specs.Str.{IsUtf8}

-- so many of the 24 cells are UTF-8
pub record IsPlaced (cells : List ℕ) (len : ℕ) : Type 0 where
  pub within : len ≤ 24
  pub utf8 : IsUtf8 (take len cells)
