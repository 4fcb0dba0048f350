-- What a whole number text is, and the number that it spells.
use Rattle.std.specs.Prelude.{ℕ, ◌+◌, ◌^◌, Bool, false, ◌==◌, List, length, drop, Result, Ok, Err}
use Rattle.std.specs.Prelude.{slice_index, nat_lt, if◌then◌else◌, ℤ, pos, neg_ℤ}
use Rattle.std.specs.Str.Parse.{digits_value}
use Rattle.fixed_num.specs.declared.fixed.NumFault.{NumFault}
use Rattle.fixed_num.specs.declared.fixed.NumFault.TheVariants.{NotANumber, NumberRange}
use Rattle.fixed_num.specs.Decimal.{digits_len, sign_len}

-- one digit or more, and nothing else
abbrev pub is_numeral : List ℕ → Bool
is_numeral ds = if length ds == 0 then false else digits_len ds == length ds

-- the text behind its sign
abbrev pub behind_sign : List ℕ → List ℕ
behind_sign text = drop (sign_len text) text

-- the number, where it is below 2^64
abbrev pub as_uint : ℕ → Result ℕ NumFault
as_uint n = if nat_lt n (2 ^ 64) then Ok n else Err NumberRange

-- the number that the digits spell, where they are digits and the number is below 2^64
unfoldable pub numeral_read_as : List ℕ → Result ℕ NumFault
numeral_read_as ds = if is_numeral ds then as_uint (digits_value 10 ds) else Err NotANumber

-- the number that the text spells, where it is one of no minus
abbrev pub uint_read_as : List ℕ → Result ℕ NumFault
uint_read_as text = if slice_index text 0 == 45 then Err NotANumber else numeral_read_as (behind_sign text)

-- the number, or its negative, where it is from -2^63 on and below 2^63
abbrev pub as_int : Bool → ℕ → Result ℤ NumFault
as_int negative n =
    if nat_lt n (if negative then 2 ^ 63 + 1 else 2 ^ 63)
    then Ok (if negative then neg_ℤ (pos n) else pos n)
    else Err NumberRange

-- the number that the text spells
abbrev pub int_read_as : List ℕ → Result ℤ NumFault
int_read_as text =
    if is_numeral (behind_sign text)
    then as_int (slice_index text 0 == 45) (digits_value 10 (behind_sign text))
    else Err NotANumber
