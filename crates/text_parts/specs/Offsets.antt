-- What stands at an offset of a piece.
use Rattle.std.specs.Prelude.{◌≡◌, ◌<◌, ◌-◌, ℕ, Bool, List, drop, is_some, slice_index}
use Rattle.std.specs.List.{before_first}
use Rattle.fixed_num.specs.Decimal.{decimal_of}

-- what stands from an offset on, up to the first byte that passes the test, or to the end
abbrev pub word_at : (ℕ → Bool) → List ℕ → ℕ → List ℕ
word_at ends piece offset = before_first ends (drop offset piece)

-- the byte stands right before the offset
pub record Follows (byte : ℕ) (piece : List ℕ) (offset : ℕ) : Type 0 where
  pub some : 0 < offset
  pub is : slice_index piece (offset - 1) ≡ byte

-- the text is a decimal, of any size
abbrev pub is_decimal : List ℕ → Bool
is_decimal text = is_some (decimal_of text)
