-- The quotient of two numbers of billionths.
use Rattle.std.specs.Prelude.{ℕ, ◌*◌, ◌^◌, ◌==◌, Bool, true, false, ℤ, pos, negsuc, neg_ℤ, unsigned_abs}
use Rattle.std.specs.Prelude.{nat_lt}
use Rattle.std.specs.Prelude.{Option, Some, None, if◌then◌else◌}
use Rattle.fixed_num.specs.Rounded.{rounded}

-- a number below 0
abbrev pub is_negative : ℤ → Bool
is_negative (pos n) = false
is_negative (negsuc n) = true

-- one of both is true, and the other isn't
abbrev pub differ : Bool → Bool → Bool
differ true true = false
differ true false = true
differ false true = true
differ false false = false

-- how many billionths the quotient has without its sign, rounded half to even
abbrev pub quotient_magnitude : ℤ → ℤ → ℕ
quotient_magnitude number by = rounded (unsigned_abs number * 10 ^ 9) (unsigned_abs by)

-- the quotient in billionths, rounded half to even: negative where one of both numbers alone is
abbrev pub quotient : ℤ → ℤ → ℤ
quotient number by =
    if differ (is_negative number) (is_negative by)
    then neg_ℤ (pos (quotient_magnitude number by))
    else pos (quotient_magnitude number by)

-- none where the divisor is 0 or the rounded quotient is out of range
abbrev pub divided : ℤ → ℤ → Option ℤ
divided number by =
    if unsigned_abs by == 0 then None
    else if nat_lt (quotient_magnitude number by) (2 ^ 64 * 10 ^ 9) then Some (quotient number by)
    else None
