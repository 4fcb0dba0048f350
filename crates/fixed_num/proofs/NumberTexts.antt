-- The texts of numbers: what stands in them, and as what they are read.
use Rattle.std.proofs.Common.{◌≡◌, ℕ, ℤ, zero, suc, ◌+◌, ◌<◌, ◌*◌, ◌/◌, ◌%◌, ◌^◌, Bool, true, false, List, [], ◌∷◌}
use Rattle.std.proofs.Common.{◌++◌, length, Ok, refl, sym, ap, ◌∙◌, arith}
use Rattle.std.specs.Prelude.{pos, negsuc, neg_ℤ, unsigned_abs, FitsSigned}
use Rattle.std.specs.Int.{w64}
use Rattle.std.specs.Fmt.{decimal, signed_decimal}
use Rattle.std.specs.List.{AllByRecursion}
use Rattle.std.proofs.lemmas.Bool.{lt-ltb}
use Rattle.std.proofs.lemmas.Fmt.{decimal_is_IsNumeral}
use Rattle.std.proofs.lemmas.List.{append-nil}
use Rattle.std.proofs.lemmas.Nat.{div_below, div-mul-add, mod-mul-add}
use Rattle.fixed_num.specs.Canonical.{fraction_text, front_text, canonical, canonical_text}
use Rattle.fixed_num.specs.Fixed.{read_as}
use Rattle.fixed_num.specs.Grammar.{NoSign, Minus}
use Rattle.fixed_num.specs.Range.{InRange}
use Rattle.fixed_num.specs.Scaled.{scaled}
use Rattle.fixed_num.specs.Whole.{int_read_as, uint_read_as, as_int, as_uint}
use Rattle.fixed_num.proofs.Again.{reads_canonical}
use Rattle.fixed_num.proofs.NumberBytes.{IsNumberByte, decimal_bytes, signed_decimal_bytes, canonical_bytes}
use Rattle.fixed_num.proofs.SpelledInts.{reads_ints, reads_uints}

-- ---- what stands in them

-- minus, point and digits, and one byte or more
pub record IsNumberText (text : List ℕ) : Type 0 where
  pub bytes : AllByRecursion IsNumberByte text
  pub some : 0 < length text

decimal_some : (n : ℕ) → n < 2 ^ 64 → 0 < length (decimal n)
decimal_some n small = (decimal_is_IsNumeral n small).0.0

some_front : (xs ys : List ℕ) → 0 < length xs → 0 < length (xs ++ ys)
some_front [] ys lt = absurd (omega arith)
some_front (x ∷ xs) ys lt = omega arith

canonical_some : (z : ℤ) → InRange z → 0 < length (canonical_text z)
canonical_some (pos n) h = some_front (decimal (n / 10 ^ 9)) (fraction_text (n % 10 ^ 9))
    (decimal_some (n / 10 ^ 9) (div_below n (10 ^ 9) (2 ^ 64) (omega arith) (omega arith)))
canonical_some (negsuc n) h = omega arith

-- the magnitude of a signed number of 64 bits is one without a sign
pub magnitude_below : (z : ℤ) → FitsSigned w64 z → unsigned_abs z < 2 ^ 64
magnitude_below (pos n) h = omega (arith, h.sfits)
magnitude_below (negsuc n) h = omega (arith, h.sfits)

pub decimal_number : (n : ℕ) → n < 2 ^ 64 → IsNumberText (decimal n)
decimal_number n small = record { bytes = decimal_bytes n small; some = decimal_some n small }

pub signed_number : (z : ℤ) → unsigned_abs z < 2 ^ 64 → IsNumberText (signed_decimal z)
signed_number (pos n) small = decimal_number n small
signed_number (negsuc n) small = record { bytes = signed_decimal_bytes (negsuc n) small; some = omega arith }

pub canonical_number : (z : ℤ) → InRange z → IsNumberText (canonical_text z)
canonical_number z h = record { bytes = canonical_bytes z h; some = canonical_some z h }

-- ---- as what they are read

-- a whole number is the canonical text of its billionths
whole_canonical : (negative : Bool) (n : ℕ) → canonical negative (n * 1000000000) ≡ front_text negative n
whole_canonical negative n =
    let zeros : n * 1000000000 ≡ n * 1000000000 + 0 = omega arith in
    let q : n * 1000000000 / 1000000000 ≡ n = ap (λ (k : ℕ). k / 1000000000) zeros
    ∙ div-mul-add n 1000000000 0 (omega arith) in
    let r : n * 1000000000 % 1000000000 ≡ 0 = ap (λ (k : ℕ). k % 1000000000) zeros
    ∙ mod-mul-add n 1000000000 0 (omega arith) in
    rw (q, r) (append-nil (front_text negative n))

negative_canonical : (m : ℕ) → 0 < m → canonical_text (neg_ℤ (pos m)) ≡ canonical true m
negative_canonical zero lt = absurd (omega arith)
negative_canonical (suc k) lt = refl

negative_range : (m : ℕ) → 0 < m → m < 2 ^ 64 * 10 ^ 9 → InRange (neg_ℤ (pos m))
negative_range zero lt small = absurd (omega arith)
negative_range (suc k) lt small = small

pub decimal_read : (n : ℕ) → n < 2 ^ 64 → read_as (decimal n) ≡ Ok (pos (n * 1000000000))
decimal_read n small = ap read_as (sym (whole_canonical false n)) ∙ reads_canonical (pos (n * 1000000000)) (omega arith)

pub signed_read : (z : ℤ) → unsigned_abs z < 2 ^ 64 → read_as (signed_decimal z) ≡ Ok (scaled z)
signed_read (pos n) small = decimal_read n small
signed_read (negsuc n) small =
    let some : 0 < (1 + n) * 1000000000 = omega arith in
    let same : suc n ≡ 1 + n = omega arith in
    ap (λ (k : ℕ). read_as (45 ∷ decimal k)) same
    ∙ ap read_as (sym (negative_canonical ((1 + n) * 1000000000) some ∙ whole_canonical true (1 + n)))
    ∙ reads_canonical (neg_ℤ (pos ((1 + n) * 1000000000))) (negative_range ((1 + n) * 1000000000) some
    (omega (arith, small)))

-- ---- whole numbers, read as such

pub int_read : (z : ℤ) → FitsSigned w64 z → int_read_as (signed_decimal z) ≡ Ok z
int_read (pos n) h =
    let small : n < 2 ^ 63 = omega (arith, h.sfits) in
    let digits = decimal_is_IsNumeral n (omega arith) in
    reads_ints NoSign (decimal n) digits.0 ∙ ap (as_int false) digits.1 ∙ fits_pos n small
  where
    fits_pos : (n : ℕ) → n < 2 ^ 63 → as_int false n ≡ Ok (pos n)
    fits_pos n small = rw (lt-ltb n (2 ^ 63) small) refl
int_read (negsuc n) h =
    let small : suc n < 2 ^ 63 + 1 = omega (arith, h.sfits) in
    let digits = decimal_is_IsNumeral (suc n) (omega arith) in
    reads_ints Minus (decimal (suc n)) digits.0 ∙ ap (as_int true) digits.1 ∙ fits_neg n small
  where
    fits_neg : (n : ℕ) → suc n < 2 ^ 63 + 1 → as_int true (suc n) ≡ Ok (negsuc n)
    fits_neg n small = rw (lt-ltb (suc n) (2 ^ 63 + 1) small) refl

pub uint_read : (n : ℕ) → n < 2 ^ 64 → uint_read_as (decimal n) ≡ Ok n
uint_read n small =
    let digits = decimal_is_IsNumeral n small in
    reads_uints NoSign (decimal n) refl digits.0 ∙ ap as_uint digits.1 ∙ rw (lt-ltb n (2 ^ 64) small) refl
