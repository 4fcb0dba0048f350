-- A decimal is a concatenation of parts.
use Rattle.std.specs.Prelude.{◌≡◌, ℕ, ◌+◌, ◌<◌, Bool, true, false, List, [], ◌∷◌, ◌++◌, length, Some, Err}
use Rattle.std.specs.Prelude.{◌≢◌}
use Rattle.std.specs.Str.Parse.{AllDigits, IsNumeral, digits_value}
use Rattle.fixed_num.specs.Decimal.{Decimal, decimal_of}
use Rattle.fixed_num.specs.declared.fixed.NumFault.TheVariants.{NotANumber}
use Rattle.fixed_num.specs.Whole.{as_int, as_uint, int_read_as, uint_read_as}

-- a sign, which may be left out
pub data Sign : Type 0 where
  NoSign : Sign
  Plus : Sign
  Minus : Sign

-- its text, and whether it is a minus
abbrev pub sign_text : Sign → List ℕ
sign_text NoSign = []
sign_text Plus = 43 ∷ []
sign_text Minus = 45 ∷ []

abbrev pub is_minus : Sign → Bool
is_minus NoSign = false
is_minus Plus = false
is_minus Minus = true

-- a power of ten, which may be left out
pub data Power : Type 0 where
  NoPower : Power
  Small : Sign → List ℕ → Power
  Capital : Sign → List ℕ → Power

-- its text, whether it is negative, and its digits
abbrev pub power_text : Power → List ℕ
power_text NoPower = []
power_text (Small s ds) = 101 ∷ (sign_text s ++ ds)
power_text (Capital s ds) = 69 ∷ (sign_text s ++ ds)

abbrev pub shrinks_of : Power → Bool
shrinks_of NoPower = false
shrinks_of (Small s ds) = is_minus s
shrinks_of (Capital s ds) = is_minus s

abbrev pub digits_of_power : Power → List ℕ
digits_of_power NoPower = []
digits_of_power (Small s ds) = ds
digits_of_power (Capital s ds) = ds

-- at least one digit follows the letter
abbrev pub FitsPower : Power → Type 0
FitsPower NoPower = Unit {0}
FitsPower (Small s ds) = (0 < length ds) × AllDigits 10 ds
FitsPower (Capital s ds) = (0 < length ds) × AllDigits 10 ds

-- digits with at most one point
pub data Digits : Type 0 where
  Without : List ℕ → Digits
  With : List ℕ → List ℕ → Digits

-- their text, and those before and behind the point
abbrev pub digits_text : Digits → List ℕ
digits_text (Without whole) = whole
digits_text (With whole fraction) = whole ++ 46 ∷ fraction

abbrev pub whole_of : Digits → List ℕ
whole_of (Without whole) = whole
whole_of (With whole fraction) = whole

abbrev pub fraction_of : Digits → List ℕ
fraction_of (Without whole) = []
fraction_of (With whole fraction) = fraction

-- what a decimal is spelled of
pub record Spelled : Type 0 where
  pub sign : Sign
  pub digits : Digits
  pub power : Power

-- the text: the parts one behind the other
abbrev pub spelling : Spelled → List ℕ
spelling s = sign_text s.sign ++ (digits_text s.digits ++ power_text s.power)

-- there is a digit before the power, and digits are digits
pub record IsDecimal (s : Spelled) : Type 0 where
  pub some : 0 < length (whole_of s.digits) + length (fraction_of s.digits)
  pub whole : AllDigits 10 (whole_of s.digits)
  pub fraction : AllDigits 10 (fraction_of s.digits)
  pub power : FitsPower s.power

-- the decimal that is spelled
abbrev pub meaning : Spelled → Decimal
meaning s = record {
  negative = is_minus s.sign;
  whole = whole_of s.digits;
  fraction = fraction_of s.digits;
  shrinks = shrinks_of s.power;
  exponent = digits_of_power s.power;
}

-- what is spelled as a decimal is read as its meaning
abbrev pub ReadsSpelled : Type 0
ReadsSpelled = (s : Spelled) → IsDecimal s → decimal_of (spelling s) ≡ Some (meaning s)

-- what is read is spelled as a decimal of that meaning
abbrev pub SpelledIsRead : Type 0
SpelledIsRead = (text : List ℕ) (d : Decimal)
    → decimal_of text ≡ Some d → (s : Spelled) × IsDecimal s × (text ≡ spelling s) × (meaning s ≡ d)

-- a sign and at least one digit are read as the number that they spell
abbrev pub ReadsInts : Type 0
ReadsInts = (s : Sign) (ds : List ℕ)
    → IsNumeral 10 ds → int_read_as (sign_text s ++ ds) ≡ as_int (is_minus s) (digits_value 10 ds)

-- and what is read is a sign and at least one digit
abbrev pub IntsAreSpelled : Type 0
IntsAreSpelled = (text : List ℕ)
    → int_read_as text ≢ Err NotANumber → (s : Sign) × (ds : List ℕ) × IsNumeral 10 ds
    × (text ≡ sign_text s ++ ds)

-- the same without a minus
abbrev pub ReadsUints : Type 0
ReadsUints = (s : Sign) (ds : List ℕ)
    → is_minus s ≡ false → IsNumeral 10 ds → uint_read_as (sign_text s ++ ds) ≡ as_uint (digits_value 10 ds)

abbrev pub UintsAreSpelled : Type 0
UintsAreSpelled = (text : List ℕ)
    → uint_read_as text ≢ Err NotANumber → (s : Sign) × (ds : List ℕ)
    × (is_minus s ≡ false) × IsNumeral 10 ds
    × (text ≡ sign_text s ++ ds)
