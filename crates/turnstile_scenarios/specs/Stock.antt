-- What contracts see of a shelf.
use Rattle.std.specs.Prelude.{ℕ, List}

-- the numbers on a shelf, the last put last, and how many were taken
pub record Stock : Type 0 where
  pub items : List ℕ
  pub taken : ℕ
