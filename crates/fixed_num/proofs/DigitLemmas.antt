-- Digits that spell a number, one by one.
use Rattle.std.proofs.Common.{◌≡◌, ◌≢◌, ℕ, ℤ, ◌+◌, ◌-◌, ◌*◌, ◌^◌, ◌<◌, ◌≤◌, true, false, ltb, List, [], ◌∷◌, ◌++◌}
use Rattle.std.proofs.Common.{length, get_or, take, take_all, Ok, Some, refl, sym, ap, subst, ◌∙◌, append_assoc}
use Rattle.std.proofs.Common.{length-append, arith}
use Rattle.std.specs.Prelude.{Option, None, SomeIff, IfSome, pos}
use Rattle.std.specs.Char.{digit_value}
use Rattle.std.specs.Str.Parse.{AllDigits, digits_value}
use Rattle.std.proofs.lemmas.Bool.{lt-ltb}
use Rattle.std.proofs.lemmas.Int.Digits.{digits_more}
use Rattle.std.proofs.lemmas.List.{append-nil, length-take, length-take-le, take_more}
use Rattle.std.proofs.lemmas.Str.Parse.{digit_from_value}
use Rattle.fixed_num.specs.Decimal.{Decimal, decimal_of, billionths}
use Rattle.fixed_num.specs.Fixed.{read_as}
use Rattle.fixed_num.specs.Grammar.{NoSign, Without, With, NoPower}
use Rattle.fixed_num.specs.Range.{InRange}
use Rattle.fixed_num.proofs.Magnitude.{few_fit, plain, times}
use Rattle.fixed_num.proofs.Spelling.{reads_spelled}
use Rattle.fixed_num.proofs.SpelledInts.{numeral_is}
use Rattle.fixed_num.specs.Whole.{numeral_read_as}
use Rattle.fixed_num.proofs.Values.{AllDigits-append, digit_is, value_append, value_more}
use Rattle.fixed_num.specs.Digits.{Spells, Pointed}

-- the first digits and one more
pub one_digit : (text : List ℕ) (number : ℕ) (i : ℕ) → i < length text → digit_value (get_or text i 0) < 10
    → Spells (take i text) number
    → Spells (take (i + 1) text) (number * 10 + (get_or text i 0 - 48))
one_digit text number i lt digit s = record {
  digits = digits_more 10 text i lt s.digits digit;
  is = rw (value_more 0 text i lt, digit_is (get_or text i 0) (digit_from_value (get_or text i 0) digit), s.is) refl;
}

-- what a few digits spell fits
pub spelled_fits : (text : List ℕ) (number : ℕ) (i : ℕ) → length text ≤ 19 → Spells (take i text) number
    → number < 2 ^ 64
spelled_fits text number i few s = rw s.is (few_fit (take i text) s.digits (omega (arith, few, length-take i text)))

-- the same behind a point
pub one_behind : (text : List ℕ) (point at number : ℕ) → at < length text → digit_value (get_or text at 0) < 10
    → Pointed text point at number
    → Pointed text point (at + 1) (number * 10 + (get_or text at 0 - 48))
one_behind text point at number lt digit p =
    let c : ℕ = get_or text at 0 in
    let whole : List ℕ = take point text in
    record {
      fraction = p.fraction ++ c ∷ [];
      text_is = take_more text at 0 lt ∙ ap (λ (ts : List ℕ). ts ++ c ∷ []) p.text_is
          ∙ append_assoc whole (46 ∷ p.fraction) (c ∷ []);
      whole_digits = p.whole_digits;
      fraction_digits = AllDigits-append p.fraction (c ∷ []) p.fraction_digits (digit, tt);
      is = ap (λ (n : ℕ). n * 10 + (c - 48)) p.is ∙ ap (λ (d : ℕ). digits_value 10 (whole ++ p.fraction) * 10 + d)
          (sym (digit_is c (digit_from_value c digit)))
          ∙ sym (value_append 0 (whole ++ p.fraction) (c ∷ []))
          ∙ ap (digits_value 10) (append_assoc whole p.fraction (c ∷ []));
    }

pub behind_fits : (text : List ℕ) (point at number : ℕ) → length text ≤ 19 → Pointed text point at number
    → number < 2 ^ 64
behind_fits text point at number few p =
    let whole : List ℕ = take point text in
    let all : length (take at text) ≡ length (whole ++ 46 ∷ p.fraction) = ap length p.text_is in
    rw p.is (few_fit (whole ++ p.fraction) (AllDigits-append whole p.fraction p.whole_digits p.fraction_digits)
    (omega (
      arith,
      few,
      all,
      length-take at text,
      length-append whole (46 ∷ p.fraction),
      length-append whole p.fraction,
    )))

-- ---- what is read

-- the decimal of digits before and behind a point
of_parts : List ℕ → List ℕ → Decimal
of_parts whole fraction = record {
  negative = false;
  whole = whole;
  fraction = fraction;
  shrinks = false;
  exponent = [];
}

whole_decimal : (text : List ℕ) → 0 < length text → AllDigits 10 text → decimal_of text ≡ Some (of_parts text [])
unfolding of_parts
whole_decimal text some all =
    ap decimal_of (sym (append-nil text))
    ∙ reads_spelled (record { sign = NoSign; digits = Without text; power = NoPower })
    (record { some = omega (arith, some); whole = all; fraction = tt; power = tt })

pointed_decimal : (whole fraction : List ℕ) → 0 < length whole → AllDigits 10 whole → AllDigits 10 fraction
    → decimal_of (whole ++ 46 ∷ fraction) ≡ Some (of_parts whole fraction)
unfolding of_parts
pointed_decimal whole fraction some all more =
    ap decimal_of (sym (append-nil (whole ++ 46 ∷ fraction)))
    ∙ reads_spelled (record { sign = NoSign; digits = With whole fraction; power = NoPower })
    (record { some = omega (arith, some); whole = all; fraction = more; power = tt })

billionths_are : (whole fraction : List ℕ) (number : ℕ) → length fraction ≤ 9
    → number ≡ digits_value 10 (whole ++ fraction) → number * 10 ^ (9 - length fraction) ≡ billionths
    (of_parts whole fraction)
unfolding of_parts
billionths_are whole fraction number few is =
    plain (of_parts whole fraction) number (number * 10 ^ (9 - length fraction)) refl is
    (sym (times number 9 (length fraction) few))

-- the number is that of a decimal, where it is in range
given : (text whole fraction : List ℕ) (number : ℕ) (found : Option ℤ)
    → decimal_of text ≡ Some (of_parts whole fraction) → length fraction ≤ 9
    → number ≡ digits_value 10 (whole ++ fraction)
    → SomeIff found (InRange (pos (number * 10 ^ (9 - length fraction)))) (pos (number * 10 ^ (9 - length fraction)))
    → IfSome found (λ x. read_as text ≡ Ok x)
unfolding of_parts
given text whole fraction number None d few is g = tt
given text whole fraction number (Some x) d few is g =
    rw (
      g.1,
      d,
      sym (billionths_are whole fraction number few is),
      lt-ltb (number * 10 ^ (9 - length fraction))
          (2 ^ 64 * 10 ^ 9) g.0,
    ) refl

pub whole_given : (text : List ℕ) (point number : ℕ) (found : Option ℤ) → point ≢ 0 → point ≡ length text
    → Spells (take point text) number
    → SomeIff found (InRange (pos (number * 10 ^ 9))) (pos (number * 10 ^ 9)) → IfSome found (λ x. read_as text ≡ Ok x)
whole_given text point number found some end s g =
    let all : take point text ≡ text = take_all point text (omega (arith, end)) in
    let digits : AllDigits 10 text = subst (AllDigits 10) all s.digits in
    given text text [] number found (whole_decimal text (omega (arith, some, end)) digits) (omega arith)
    (s.is ∙ ap (digits_value 10) (all ∙ sym (append-nil text))) g

pub pointed_given : (text : List ℕ) (point places number : ℕ) (found : Option ℤ) → point ≢ 0 → point < length text
    → places ≡ length text - point - 1 → places ≤ 9
    → Pointed text point (length text) number
    → SomeIff found (InRange (pos (number * 10 ^ (9 - places)))) (pos (number * 10 ^ (9 - places)))
    → IfSome found (λ x. read_as text ≡ Ok x)
pointed_given text point places number found some lt are few p g =
    let whole : List ℕ = take point text in
    let all : text ≡ whole ++ 46 ∷ p.fraction = sym (take_all (length text) text (omega arith)) ∙ p.text_is in
    let len : length text ≡ length (whole ++ 46 ∷ p.fraction) = ap length all in
    let front : length whole ≡ point = length-take-le point text (omega (arith, lt)) in
    let same : places ≡ length p.fraction = omega (arith, are, len, front, length-append whole (46 ∷ p.fraction)) in
    given text whole p.fraction number found
    (ap decimal_of all ∙ pointed_decimal whole p.fraction (omega (arith, front, some)) p.whole_digits p.fraction_digits)
    (omega (arith, same, few)) p.is
    (subst (λ (n : ℕ). SomeIff found (InRange (pos (number * 10 ^ (9 - n)))) (pos (number * 10 ^ (9 - n)))) same g)

-- digits and nothing else
pub numeral_given : (text : List ℕ) (count number : ℕ) → count ≢ 0 → count ≡ length text → length text ≤ 19
    → Spells (take count text) number
    → numeral_read_as text ≡ Ok number
unfolding numeral_read_as
numeral_given text count number some end few s =
    let all : take count text ≡ text = take_all count text (omega (arith, end)) in
    let digits : AllDigits 10 text = subst (AllDigits 10) all s.digits in
    let is : digits_value 10 text ≡ number = ap (digits_value 10) (sym all) ∙ sym s.is in
    let fits : ltb number (2 ^ 64) ≡ true = lt-ltb _ _ (subst (λ (n : ℕ). n < 2 ^ 64) is (few_fit text digits few)) in
    rw (numeral_is text (omega (arith, some, end), digits), is, fits) refl
