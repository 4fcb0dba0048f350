-- What a decimal is, and the number that it spells.
use Rattle.std.specs.Prelude.{ℕ, ◌+◌, ◌*◌, ◌^◌, Bool, false, ◌||◌, ◌==◌, List, [], ◌++◌, length, take, drop}
use Rattle.std.specs.Prelude.{Option, Some, None, slice_index, if◌then◌else◌}
use Rattle.std.specs.List.{prefix_len}
use Rattle.std.specs.Char.{is_ascii_digit}
use Rattle.std.specs.Str.Parse.{digits_value, AllDigits}
use Rattle.fixed_num.specs.Rounded.{rounded}

-- a decimal: whether it is negative, its digits before and behind the point, whether its power of ten is
-- negative, and the digits of that
pub record Decimal : Type 0 where
  pub negative : Bool
  pub whole : List ℕ
  pub fraction : List ℕ
  pub shrinks : Bool
  pub exponent : List ℕ

-- ---- reading from left to right

-- how many digits stand first
abbrev pub digits_len : List ℕ → ℕ
digits_len bs = prefix_len is_ascii_digit bs

-- 1 where a sign stands first
abbrev pub sign_len : List ℕ → ℕ
sign_len bs = if slice_index bs 0 == 43 || slice_index bs 0 == 45 then 1 else 0

-- 1 where a point stands first
abbrev pub point_len : List ℕ → ℕ
point_len bs = if slice_index bs 0 == 46 then 1 else 0

-- the decimal with the power that the rest of the text spells, where it spells one or is empty
unfoldable pub with_exponent : Decimal → List ℕ → Option Decimal
with_exponent d bs =
    if length bs == 0 then Some d else (if slice_index bs 0 == 101 || slice_index bs 0 == 69 then
    (let signed = drop 1 bs in let digits = drop (sign_len signed) signed in
    if length digits == 0 then None else (if digits_len digits == length digits
    then Some (record d { shrinks = slice_index signed 0 == 45; exponent = digits }) else None))
    else None)

-- the decimal that the whole text spells, where it spells one
unfoldable pub decimal_of : List ℕ → Option Decimal
decimal_of text =
    let unsigned = drop (sign_len text) text in
    let whole = take (digits_len unsigned) unsigned in
    let after = drop (digits_len unsigned) unsigned in
    let behind = drop (point_len after) after in
    let fraction = take (digits_len behind) behind in
    if length whole + length fraction == 0 then None else
    with_exponent (record {
      negative = slice_index text 0 == 45;
      whole = whole;
      fraction = fraction;
      shrinks = false;
      exponent = [];
    }) (drop (digits_len behind) behind)

-- ---- the number

-- how many billionths d spells, rounded half to even
unfoldable pub billionths : Decimal → ℕ
billionths d =
    let e = digits_value 10 d.exponent in
    let up = if d.shrinks then 9 else 9 + e in
    let down = if d.shrinks then length d.fraction + e else length d.fraction in
    rounded (digits_value 10 (d.whole ++ d.fraction) * 10 ^ up) (10 ^ down)

-- the parts that stand for digits are digits
pub record IsDigital (d : Decimal) : Type 0 where
  pub whole : AllDigits 10 d.whole
  pub fraction : AllDigits 10 d.fraction
  pub exponent : AllDigits 10 d.exponent
