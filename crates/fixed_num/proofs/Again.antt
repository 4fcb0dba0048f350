-- The canonical text is read again.
use Rattle.std.proofs.Common.{◌≡◌, ℕ, zero, suc, ◌+◌, ◌-◌, ◌*◌, ◌/◌, ◌%◌, ◌^◌, ◌<◌, ◌≤◌, Bool, true, false, cond, eqb}
use Rattle.std.proofs.Common.{List, [], ◌∷◌, ◌++◌, length, refl, sym, ap, ◌∙◌, arith, Ok, ltb}
use Rattle.std.specs.Prelude.{ℤ, pos, negsuc, neg_ℤ}
use Rattle.std.specs.Char.{digit_value}
use Rattle.std.specs.Fmt.{decimal}
use Rattle.std.specs.Str.Parse.{AllDigits, digits_value}
use Rattle.std.proofs.Math.Nat.{pow-suc, mod-lt, div-add-mod', one-le-pow}
use Rattle.std.proofs.lemmas.Bool.{lt-ltb, eqb-true}
use Rattle.std.proofs.lemmas.List.{append-nil}
use Rattle.std.proofs.lemmas.Nat.{pow-add, div_below}
use Rattle.std.proofs.lemmas.Fmt.{decimal_is_IsNumeral}
use Rattle.fixed_num.specs.Rounded.{rounded}
use Rattle.fixed_num.specs.Decimal.{Decimal, billionths}
use Rattle.fixed_num.specs.Grammar.{Sign, is_minus, Digits, digits_text, whole_of, fraction_of, NoSign, Minus, NoPower}
use Rattle.fixed_num.specs.Grammar.{Without, With, Spelled, spelling, IsDecimal, meaning}
use Rattle.fixed_num.specs.Range.{InRange}
use Rattle.fixed_num.specs.Fixed.{read_as, fixed_from}
use Rattle.fixed_num.specs.Canonical.{places_of, fraction_text, canonical, canonical_text}
use Rattle.fixed_num.proofs.Values.{value_split, value_of_parts, digit_is}
use Rattle.fixed_num.proofs.Magnitude.{times}
use Rattle.fixed_num.proofs.Spelling.{reads_spelled}

pub record ArePlaces (k n : ℕ) (ds : List ℕ) : Type 0 where
  pub digits : AllDigits 10 ds
  pub short : length ds ≤ k
  pub value : digits_value 10 ds * 10 ^ (k - length ds) ≡ n

digit_value_is : (d : ℕ) → d < 10 → digit_value (48 + d) ≡ d
digit_value_is d h = digit_is (48 + d) (omega arith, omega arith) ∙ omega arith

spread : (q a v b : ℕ) → (q * a + v) * b ≡ q * (a * b) + v * b
spread q a v b = omega arith

places_more : (k n : ℕ) → n < 10 ^ suc k → ArePlaces k (n % 10 ^ k) (places_of k (n % 10 ^ k))
    → ArePlaces (suc k) n ((48 + n / 10 ^ k) ∷ places_of k (n % 10 ^ k))
places_more k n h p =
    let ds : List ℕ = places_of k (n % 10 ^ k) in
    let ten = one-le-pow k 10 (omega arith) in
    let q : ℕ = n / 10 ^ k in
    let low : q < 10 = div_below n (10 ^ k) 10 ten (omega (arith, pow-suc 10 k)) in
    let q-is = digit_value_is q low in
    let value : digits_value 10 ((48 + q) ∷ ds) ≡ q * 10 ^ length ds + digits_value 10 ds =
    value_split (0 * 10 + digit_value (48 + q)) ds ∙ rw q-is (omega arith) in
    let gap : suc k - suc (length ds) ≡ k - length ds = omega arith in
    let powers : 10 ^ length ds * 10 ^ (k - length ds) ≡ 10 ^ k =
    sym (pow-add 10 (length ds) (k - length ds)) ∙ ap (λ (j : ℕ). 10 ^ j) (omega (arith, p.short)) in
    let parts = div-add-mod' n (10 ^ k) in
    record {
      digits = (omega (arith, q-is), p.digits);
      short = omega (arith, p.short);
      value = rw (value, gap) (spread q (10 ^ length ds) (digits_value 10 ds) (10 ^ (k - length ds))
          ∙ rw (powers, p.value) parts);
    }

pub places : (k n : ℕ) → n < 10 ^ k → ArePlaces k n (places_of k n)
unfolding places_of
places zero n h = record { digits = tt; short = omega arith; value = omega arith }
places (suc k) n h =
    elim (eqb n 0) as (λ t. eqb n 0 ≡ t → ArePlaces (suc k) n
    (cond t [] ((48 + n / 10 ^ k) ∷ places_of k (n % 10 ^ k)))) [
      | true ↦ λ e. let is = eqb-true n 0 e in record { digits = tt; short = omega arith; value = omega arith }
      | false ↦ λ e. places_more k n h (places k (n % 10 ^ k) (mod-lt n {m = 10 ^ k} (one-le-pow k 10 (omega arith))))
    ] refl

number_is : (n : ℕ) (ws f : List ℕ) → digits_value 10 ws ≡ n / 10 ^ 9 → ArePlaces 9 (n % 10 ^ 9) f
    → rounded (digits_value 10 (ws ++ f) * 10 ^ 9) (10 ^ length f) ≡ n
number_is n ws f is p =
    let k : ℕ = 9 - length f in
    let gap : length f + k ≡ 9 = omega (arith, p.short) in
    let powers : 10 ^ length f * 10 ^ k ≡ 10 ^ 9 = sym (pow-add 10 (length f) k) ∙ ap (λ (j : ℕ). 10 ^ j) gap in
    times (digits_value 10 (ws ++ f)) 9 (length f) p.short ∙ rw (value_of_parts ws f, is)
    (spread (n / 10 ^ 9) (10 ^ length f) (digits_value 10 f) (10 ^ k) ∙ rw (powers, p.value) (div-add-mod' n (10 ^ 9)))

abbrev sign_of : Bool → Sign
sign_of true = Minus
sign_of false = NoSign

fits : (d : Decimal) (n : ℕ) → billionths d ≡ n → n < 2 ^ 64 * 10 ^ 9
    → fixed_from d ≡ Ok (cond d.negative (neg_ℤ (pos n)) (pos n))
fits d n is small = let t : ltb n (2 ^ 64 * 10 ^ 9) ≡ true = lt-ltb _ _ small in rw (is, t) refl

reads_as : (text : List ℕ) (s : Spelled) (n : ℕ) → text ≡ spelling s → IsDecimal s → billionths (meaning s) ≡ n
    → n < 2 ^ 64 * 10 ^ 9 → read_as text ≡ Ok (cond (is_minus s.sign) (neg_ℤ (pos n)) (pos n))
reads_as text s n e h is small = rw (e, reads_spelled s h) (fits (meaning s) n is small)

-- the digits of the number, with a fraction or without
pub record Digital (n : ℕ) (d : Digits) : Type 0 where
  pub text : decimal (n / 10 ^ 9) ++ fraction_text (n % 10 ^ 9) ≡ digits_text d ++ []
  pub some : 0 < length (whole_of d) + length (fraction_of d)
  pub whole : AllDigits 10 (whole_of d)
  pub fraction : AllDigits 10 (fraction_of d)
  pub value : rounded (digits_value 10 (whole_of d ++ fraction_of d) * 10 ^ 9) (10 ^ length (fraction_of d)) ≡ n

digital : (n : ℕ) → n < 2 ^ 64 * 10 ^ 9 → (d : Digits) × Digital n d
digital n small =
    let w = decimal_is_IsNumeral (n / 10 ^ 9) (div_below n (10 ^ 9) (2 ^ 64) (omega arith) (omega arith)) in
    let p = places 9 (n % 10 ^ 9) (mod-lt n {m = 10 ^ 9} (omega arith)) in
    let ws : List ℕ = decimal (n / 10 ^ 9) in
    let f : List ℕ = places_of 9 (n % 10 ^ 9) in
    elim (eqb (n % 10 ^ 9) 0) as (λ t. eqb (n % 10 ^ 9) 0 ≡ t → (d : Digits) × Digital n d) [
      | true ↦ λ e.
          let is = eqb-true _ _ e in
          let none : ArePlaces 9 (n % 10 ^ 9) [] = record {
            digits = tt;
            short = omega arith;
            value =
                omega (arith, is);
          } in (
            Without ws,
            record {
              text = rw e refl;
              some = omega (arith, w.0.0);
              whole = w.0.1;
              fraction = tt;
              value = number_is n ws [] w.1 none;
            },
          )
      | false ↦ λ e. (
        With ws f,
        record {
          text = rw (e, append-nil) refl;
          some = omega (arith, w.0.0);
          whole = w.0.1;
          fraction = p.digits;
          value = number_is n ws f w.1 p;
        },
      )
    ] refl

reads_magnitude : (negative : Bool) (n : ℕ) → n < 2 ^ 64 * 10 ^ 9
    → read_as (canonical negative n) ≡ Ok (cond negative (neg_ℤ (pos n)) (pos n))
unfolding billionths
reads_magnitude true n small =
    let d = digital n small in
    reads_as (canonical true n) (record { sign = Minus; digits = d.0; power = NoPower }) n
    (ap (λ (t : List ℕ). 45 ∷ t) d.1.text) (record {
      some = d.1.some;
      whole = d.1.whole;
      fraction = d.1.fraction;
      power = tt;
    }) d.1.value small
reads_magnitude false n small =
    let d = digital n small in
    reads_as (canonical false n) (record { sign = NoSign; digits = d.0; power = NoPower }) n d.1.text
    (record { some = d.1.some; whole = d.1.whole; fraction = d.1.fraction; power = tt }) d.1.value small

pub reads_canonical : (z : ℤ) → InRange z → read_as (canonical_text z) ≡ Ok z
reads_canonical (pos n) h = reads_magnitude false n h
reads_canonical (negsuc n) h = reads_magnitude true (suc n) h
