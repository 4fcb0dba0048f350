-- The numbers of a list of values.
use Rattle.std.specs.Prelude.{◌^◌, ◌+ℤ◌, ◌&&◌, neg_ℤ, ℕ, ℤ, pos, Bool, true, false, nat_lt, List, [], ◌∷◌, length}
use Rattle.std.specs.Prelude.{map, negsuc, unsigned_abs, int_lt, int_le, Option, Some, None, option_map, if◌then◌else◌}
use Rattle.std.specs.Int.{int_div_euclid, int_max, int_min}
use Rattle.std.specs.List.{fold, list_all}
use Rattle.std.specs.Option.{option_or}
use Rattle.metric.specs.Numbers.{billionths_of}
use Rattle.metric.specs.declared.value.Value.{Value}
use Rattle.metric.specs.declared.value.Value.TheVariants.{Int, Uint, Fixed, «Bool» as Truth, Text}

-- which values are numbers of a fold: a truth value and a text are none
abbrev pub is_number : Value → Bool
is_number (Int n) = true
is_number (Uint n) = true
is_number (Fixed n) = true
is_number (Truth b) = false
is_number (Text text) = false

abbrev pub is_int : Value → Bool
is_int (Int n) = true
is_int value = false

abbrev pub is_uint : Value → Bool
is_uint (Uint n) = true
is_uint value = false

-- the sum of a list
unfoldable pub sum_of : List ℤ → ℤ
sum_of [] = pos 0
sum_of (n ∷ ns) = n +ℤ sum_of ns

-- the one of a list that a choice between two leaves
abbrev pub chosen_of : (ℤ → ℤ → ℤ) → List ℤ → ℤ
chosen_of choice [] = pos 0
chosen_of choice (n ∷ ns) = fold choice n ns

-- the least of a list, and the greatest
abbrev pub least_of : List ℤ → ℤ
least_of ns = chosen_of int_min ns

abbrev pub greatest_of : List ℤ → ℤ
greatest_of ns = chosen_of int_max ns

-- what is counted of a list of numbers: how many there are; their sum, the least and the greatest, in billionths;
-- whether all are signed whole numbers, and whether all are unsigned ones
pub record Summary : Type 0 where
  pub count : ℕ
  pub sum : ℤ
  pub least : ℤ
  pub greatest : ℤ
  pub ints : Bool
  pub uints : Bool

abbrev pub summary_of : List Value → Summary
summary_of values = record {
  count = length values;
  sum = sum_of (map billionths_of values);
  least = least_of (map billionths_of values);
  greatest = greatest_of (map billionths_of values);
  ints = list_all is_int values;
  uints = list_all is_uint values;
}

-- ---- as values

-- the whole number of so many billionths
abbrev pub whole_of : ℤ → ℤ
whole_of n = int_div_euclid n (pos 1000000000)

-- a whole number in the range of signed ones
abbrev pub fitting_int : ℤ → Option ℤ
fitting_int n = if int_le (neg_ℤ (pos (2 ^ 63))) n && int_lt n (pos (2 ^ 63)) then Some n else None

-- a whole number in the range of unsigned ones
abbrev pub fitting_uint : ℤ → Option ℕ
fitting_uint (pos n) = if nat_lt n (2 ^ 64) then Some n else None
fitting_uint (negsuc n) = None

-- billionths in the range of numbers with nine decimals
abbrev pub fitting_fixed : ℤ → Option ℤ
fitting_fixed n = if nat_lt (unsigned_abs n) 18446744073709551616000000000 then Some n else None

-- so many billionths as a value: a signed whole number where all numbers are such, an unsigned one where all are such,
-- where it fits; else a number with nine decimals, where that fits
unfoldable pub value_in : Summary → ℤ → Option Value
value_in s n =
    option_or (if s.ints then option_map Int (fitting_int (whole_of n)) else None)
    (option_or (if s.uints then option_map Uint (fitting_uint (whole_of n)) else None)
    (option_map Fixed (fitting_fixed n)))
