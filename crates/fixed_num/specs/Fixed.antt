-- The number that a text is read as.
use Rattle.std.specs.Prelude.{ℕ, ◌*◌, ◌^◌, List, Option, Some, None, Result, Ok, Err, nat_lt, if◌then◌else◌}
use Rattle.std.specs.Prelude.{pos, neg_ℤ, ℤ}
use Rattle.fixed_num.specs.declared.fixed.NumFault.{NumFault}
use Rattle.fixed_num.specs.declared.fixed.NumFault.TheVariants.{NotANumber, NumberRange}
use Rattle.fixed_num.specs.Decimal.{Decimal, decimal_of, billionths}

-- the number of billionths, where it is in range
abbrev pub fixed_from : Decimal → Result ℤ NumFault
fixed_from d =
    if nat_lt (billionths d) (2 ^ 64 * 10 ^ 9)
    then Ok (if d.negative then neg_ℤ (pos (billionths d)) else pos (billionths d))
    else Err NumberRange

-- the same, where there is a decimal
abbrev pub fixed_of : Option Decimal → Result ℤ NumFault
fixed_of None = Err NotANumber
fixed_of (Some d) = fixed_from d

-- the number that the text spells, rounded half to even
abbrev pub read_as : List ℕ → Result ℤ NumFault
read_as text = fixed_of (decimal_of text)
