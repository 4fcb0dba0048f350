-- The bytes of the texts of numbers: minus, point and digits, all from 45 to 57.
use Rattle.std.proofs.Common.{◌≡◌, ℕ, suc, ◌/◌, ◌%◌, ◌^◌, ◌*◌, ◌<◌, true, false, cond, eqb, List, [], ◌∷◌, ◌++◌, refl}
use Rattle.std.proofs.Common.{arith}
use Rattle.std.specs.Prelude.{ℤ, pos, negsuc, unsigned_abs}
use Rattle.std.specs.List.{AllByRecursion}
use Rattle.std.specs.Fmt.{decimal, signed_decimal}
use Rattle.std.specs.Int.{IsInRange}
use Rattle.std.specs.Str.{IsAscii}
use Rattle.std.specs.Str.Parse.{AllDigits}
use Rattle.std.proofs.Math.Nat.{mod-lt}
use Rattle.std.proofs.lemmas.Nat.{div_below}
use Rattle.std.proofs.lemmas.Fmt.{decimal_is_IsNumeral}
use Rattle.std.proofs.lemmas.Str.Ascii.{IsAscii-nil, IsAscii-cons}
use Rattle.std.proofs.lemmas.Str.Parse.{digit_from_value}
use Rattle.fixed_num.specs.Canonical.{places_of, fraction_text, canonical_text}
use Rattle.fixed_num.specs.Range.{InRange}
use Rattle.fixed_num.proofs.Again.{places}

-- minus, point or digit
abbrev pub IsNumberByte : ℕ → Type 0
IsNumberByte b = IsInRange 45 57 b

pub ascii_of : (bs : List ℕ) → AllByRecursion IsNumberByte bs → IsAscii bs
ascii_of [] h = IsAscii-nil
ascii_of (b ∷ bs) h = IsAscii-cons b bs (omega (arith, h.0)) (ascii_of bs h.1)

pub digits_bytes : (ds : List ℕ) → AllDigits 10 ds → AllByRecursion IsNumberByte ds
digits_bytes [] h = tt
digits_bytes (d ∷ ds) h = let r = digit_from_value d h.0 in ((omega (arith, r), omega (arith, r)), digits_bytes ds h.1)

pub all_append : {A : Type 0} (P : A → Type 0) (xs ys : List A) → AllByRecursion P xs → AllByRecursion P ys
    → AllByRecursion P (xs ++ ys)
all_append P [] ys h k = k
all_append P (x ∷ xs) ys h k = (h.0, all_append P xs ys h.1 k)

pub decimal_bytes : (n : ℕ) → n < 2 ^ 64 → AllByRecursion IsNumberByte (decimal n)
decimal_bytes n h = digits_bytes (decimal n) (decimal_is_IsNumeral n h).0.1

pub signed_decimal_bytes : (z : ℤ) → unsigned_abs z < 2 ^ 64 → AllByRecursion IsNumberByte (signed_decimal z)
signed_decimal_bytes (pos n) h = decimal_bytes n h
signed_decimal_bytes (negsuc n) h = ((omega arith, omega arith), decimal_bytes (suc n) h)

fraction_bytes : (n : ℕ) → n < 10 ^ 9 → AllByRecursion IsNumberByte (fraction_text n)
fraction_bytes n h =
    elim (eqb n 0) as (λ t. eqb n 0 ≡ t → AllByRecursion IsNumberByte (cond t [] (46 ∷ places_of 9 n))) [
      | true ↦ λ e. tt
      | false ↦ λ e. ((omega arith, omega arith), digits_bytes (places_of 9 n) (places 9 n h).digits)
    ] refl

magnitude_bytes : (n : ℕ) → n < 2 ^ 64 * 10 ^ 9 → AllByRecursion IsNumberByte
    (decimal (n / 10 ^ 9) ++ fraction_text (n % 10 ^ 9))
magnitude_bytes n h =
    all_append IsNumberByte (decimal (n / 10 ^ 9)) (fraction_text (n % 10 ^ 9))
    (decimal_bytes (n / 10 ^ 9) (div_below n (10 ^ 9) (2 ^ 64) (omega arith) (omega arith)))
    (fraction_bytes (n % 10 ^ 9) (mod-lt n {m = 10 ^ 9} (omega arith)))

-- the canonical text of each number in range
pub canonical_bytes : (z : ℤ) → InRange z → AllByRecursion IsNumberByte (canonical_text z)
canonical_bytes (pos n) h = magnitude_bytes n h
canonical_bytes (negsuc n) h = ((omega arith, omega arith), magnitude_bytes (suc n) h)

pub canonical_ascii : (z : ℤ) → InRange z → IsAscii (canonical_text z)
canonical_ascii z h = ascii_of (canonical_text z) (canonical_bytes z h)
