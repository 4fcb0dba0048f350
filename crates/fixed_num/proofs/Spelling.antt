-- The decimals that are read are those that the grammar spells.
use Rattle.std.proofs.Common.{◌≡◌, ℕ, zero, suc, ◌+◌, ◌<◌, Bool, true, false, cond, eqb, List, [], ◌∷◌, ◌++◌, length}
use Rattle.std.proofs.Common.{get_or, take, drop, refl, sym, ap, subst, ◌∙◌, append_assoc, arith, inl, inr, Option}
use Rattle.std.proofs.Common.{Some, None, ◌⊎◌}
use Rattle.std.specs.Prelude.{◌||◌, ◌==◌}
use Rattle.std.specs.Char.{is_ascii_digit, digit_value}
use Rattle.std.specs.Int.{IsInRange}
use Rattle.std.specs.Str.Parse.{AllDigits}
use Rattle.std.proofs.lemmas.Bool.{le-ltb, lt-ltb, ne_eqb, eq-eqb, eqb-true}
use Rattle.std.proofs.lemmas.List.{take_at, drop_at, append-nil, take-append-drop, take_all}
use Rattle.std.proofs.lemmas.Str.Parse.{digit_from_value}
use Rattle.std.proofs.lemmas.Str.{digit_value_digit}
use Rattle.std.proofs.lemmas.Bool.Decides.{nat_tests}
use Rattle.fixed_num.specs.Decimal.{Decimal, decimal_of, with_exponent, digits_len, sign_len, point_len}
use Rattle.fixed_num.specs.Grammar.{Sign, NoSign, Plus, Minus, sign_text, is_minus, Power, NoPower, Small, Capital}
use Rattle.fixed_num.specs.Grammar.{power_text, shrinks_of, digits_of_power, FitsPower, Digits, Without, With}
use Rattle.fixed_num.specs.Grammar.{digits_text, whole_of, fraction_of, Spelled, spelling, IsDecimal, meaning}

digit_is_ascii : (c : ℕ) → digit_value c < 10 → is_ascii_digit c ≡ true
digit_is_ascii c h = let r = digit_from_value c h in grind (arith, le-ltb, lt-ltb)

-- digits, and then none
digits_len-append : (ds rest : List ℕ) → AllDigits 10 ds → digits_len rest ≡ 0 → digits_len (ds ++ rest) ≡ length ds
digits_len-append [] rest h none_more = none_more
digits_len-append (d ∷ ds) rest h none_more = let e = digit_is_ascii d h.0 in
    rw e (ap (λ (n : ℕ). 1 + n) (digits_len-append ds rest h.1 none_more) ∙ omega arith)

power_stops : (p : Power) → digits_len (power_text p) ≡ 0
power_stops NoPower = refl
power_stops (Small s ds) = refl
power_stops (Capital s ds) = refl

power_no_point : (p : Power) → point_len (power_text p) ≡ 0
power_no_point NoPower = refl
power_no_point (Small s ds) = refl
power_no_point (Capital s ds) = refl

-- a digit is no sign
digit_no_sign : (c : ℕ) → digit_value c < 10 → (eqb c 43 ≡ false) × (eqb c 45 ≡ false)
digit_no_sign c h = let r = digit_from_value c h in (
  ne_eqb c 43 (λ e. absurd (omega arith)),
  ne_eqb c 45 (λ e. absurd (omega arith)),
)

-- what begins with a digit or a point has no sign
pub record Unsigned (text : List ℕ) : Type 0 where
  pub len : sign_len text ≡ 0
  pub minus : eqb (get_or text 0 0) 45 ≡ false

digits_unsigned : (ds rest : List ℕ) → AllDigits 10 ds → 0 < length ds → Unsigned (ds ++ rest)
digits_unsigned [] rest h some = absurd (omega arith)
digits_unsigned (d ∷ ds) rest h some = let e = digit_no_sign d h.0 in record { len = rw (e.0, e.1) refl; minus = e.1 }

point_unsigned : (ds rest : List ℕ) → AllDigits 10 ds → Unsigned (ds ++ 46 ∷ rest)
point_unsigned [] rest h = record { len = refl; minus = refl }
point_unsigned (d ∷ ds) rest h = let e = digit_no_sign d h.0 in record { len = rw (e.0, e.1) refl; minus = e.1 }

pub signed : (s : Sign) (text : List ℕ) → Unsigned text → (sign_len (sign_text s ++ text) ≡ length (sign_text s))
    × (eqb (get_or (sign_text s ++ text) 0 0) 45 ≡ is_minus s)
signed NoSign text u = (u.len, u.minus)
signed Plus text u = (refl, refl)
signed Minus text u = (refl, refl)

abbrev bare : Bool → List ℕ → List ℕ → Decimal
bare n w f = record { negative = n; whole = w; fraction = f; shrinks = false; exponent = [] }

pub unsigned_digits : (ds : List ℕ) → 0 < length ds → AllDigits 10 ds → Unsigned ds
unsigned_digits ds some h = subst Unsigned (append-nil ds) (digits_unsigned ds [] h some)

pub all_digits_len : (ds : List ℕ) → AllDigits 10 ds → digits_len ds ≡ length ds
all_digits_len ds h = ap digits_len (sym (append-nil ds)) ∙ digits_len-append ds [] h refl

tail_read : (n : Bool) (w f : List ℕ) (b : ℕ) (s : Sign) (ds : List ℕ) → (b == 101 || b == 69) ≡ true → 0 < length ds
    → AllDigits 10 ds
    → with_exponent (bare n w f) (b ∷ (sign_text s ++ ds)) ≡ Some
    (record { negative = n; whole = w; fraction = f; shrinks = is_minus s; exponent = ds })
unfolding with_exponent
tail_read n w f b s ds letter some h =
    let g = signed s ds (unsigned_digits ds some h) in
    let at : drop (sign_len (sign_text s ++ ds)) (sign_text s ++ ds) ≡ ds =
    rw g.0 (drop_at (sign_text s) ds (length (sign_text s)) refl) in
    let long : (length (b ∷ (sign_text s ++ ds)) == 0) ≡ false = ne_eqb _ _ (λ e. absurd (omega arith)) in
    let some' : eqb (length ds) 0 ≡ false = ne_eqb _ _ (λ e. absurd (omega arith)) in
    let all : eqb (length ds) (length ds) ≡ true = eq-eqb _ _ refl in
    rw (letter, at, some', all_digits_len ds h, all, g.1, long) refl

power_read : (n : Bool) (w f : List ℕ) (p : Power) → FitsPower p
    → with_exponent (bare n w f) (power_text p) ≡ Some (record
    { negative = n; whole = w; fraction = f; shrinks = shrinks_of p; exponent = digits_of_power p })
unfolding with_exponent
power_read n w f NoPower h = refl
power_read n w f (Small s ds) h = tail_read n w f 101 s ds refl h.0 h.1
power_read n w f (Capital s ds) h = tail_read n w f 69 s ds refl h.0 h.1

-- what stands behind the sign
pub record Behind (u : List ℕ) (w f p : List ℕ) : Type 0 where
  pub unsigned : Unsigned u
  pub whole : digits_len u ≡ length w
  pub at_whole : take (length w) u ≡ w
  pub fraction : digits_len (drop (point_len (drop (length w) u)) (drop (length w) u)) ≡ length f
  pub at_fraction : take (length f) (drop (point_len (drop (length w) u)) (drop (length w) u)) ≡ f
  pub rest : drop (length f) (drop (point_len (drop (length w) u)) (drop (length w) u)) ≡ p

behind : (d : Digits) (p : Power) → 0 < length (whole_of d) + length (fraction_of d) → AllDigits 10 (whole_of d)
    → AllDigits 10 (fraction_of d) → Behind (digits_text d ++ power_text p) (whole_of d) (fraction_of d) (power_text p)
behind (Without w) p some hw hf =
    let after : drop (length w) (w ++ power_text p) ≡ power_text p = drop_at w (power_text p) (length w) refl in
    record {
      unsigned = digits_unsigned w (power_text p) hw (omega arith);
      whole = digits_len-append w (power_text p) hw (power_stops p);
      at_whole = take_at w (power_text p) (length w) refl;
      fraction = rw (after, power_no_point p) (power_stops p);
      at_fraction = refl;
      rest = rw (after, power_no_point p) refl;
    }
behind (With w f) p some hw hf =
    let text : (w ++ 46 ∷ f) ++ power_text p ≡ w ++ 46 ∷ (f ++ power_text p) = append_assoc w (46 ∷ f) (power_text p) in
    let after : drop (length w) (w ++ 46 ∷ (f ++ power_text p)) ≡ 46 ∷ (f ++ power_text p) =
    drop_at w (46 ∷ (f ++ power_text p)) (length w) refl in
    subst (λ (u : List ℕ). Behind u w f (power_text p)) (sym text) (record {
      unsigned = point_unsigned w (f ++ power_text p) hw;
      whole = digits_len-append w (46 ∷ (f ++ power_text p)) hw refl;
      at_whole = take_at w (46 ∷ (f ++ power_text p)) (length w) refl;
      fraction = rw after (digits_len-append f (power_text p) hf (power_stops p));
      at_fraction = rw after (take_at f (power_text p) (length f) refl);
      rest = rw after (drop_at f (power_text p) (length f) refl);
    })

pub reads_spelled : (s : Spelled) → IsDecimal s → decimal_of (spelling s) ≡ Some (meaning s)
unfolding decimal_of
reads_spelled s h =
    let u : List ℕ = digits_text s.digits ++ power_text s.power in
    let w : List ℕ = whole_of s.digits in
    let f : List ℕ = fraction_of s.digits in
    let b = behind s.digits s.power h.some h.whole h.fraction in
    let g = signed s.sign u b.unsigned in
    let at : drop (length (sign_text s.sign)) (sign_text s.sign ++ u) ≡ u =
    drop_at (sign_text s.sign) u (length (sign_text s.sign)) refl in
    let some : eqb (length w + length f) 0 ≡ false = ne_eqb _ _ (λ e. absurd (omega (arith, h.some))) in
    rw (g.0, at, b.whole, b.at_whole, b.fraction, b.at_fraction, some, g.1, b.rest)
    (power_read (is_minus s.sign) w f s.power h.power)

-- ---- what is read is spelled

some_is : {A : Type 0} (x y : A) → Some x ≡ Some y → x ≡ y
some_is x y e = cc

ascii_range : (c : ℕ) → is_ascii_digit c ≡ true → IsInRange 48 57 c
ascii_range c h = grind (arith, nat_tests)

ascii_is_digit : (c : ℕ) → is_ascii_digit c ≡ true → digit_value c < 10
ascii_is_digit c h = let r = ascii_range c h in omega (arith, digit_value_digit c r)

front_more : (b : ℕ) (bs : List ℕ) → digit_value b < 10 → AllDigits 10 (take (digits_len bs) bs)
    → AllDigits 10 (take (1 + digits_len bs) (b ∷ bs))
front_more b bs h k = let e : 1 + digits_len bs ≡ suc (digits_len bs) = omega arith in rw e (h, k)

all_front : (bs : List ℕ) → AllDigits 10 (take (digits_len bs) bs)
all_front [] = tt
all_front (b ∷ bs) =
    elim (is_ascii_digit b) as
    (λ t. is_ascii_digit b ≡ t → AllDigits 10 (take (cond t (1 + digits_len bs) 0) (b ∷ bs))) [
      | true ↦ λ e. front_more b bs (ascii_is_digit b e) (all_front bs)
      | false ↦ λ e. tt
    ] refl

pub sign_split : (text : List ℕ) → (s : Sign) × (text ≡ sign_text s ++ drop (sign_len text) text)
    × (eqb (get_or text 0 0) 45 ≡ is_minus s)
sign_split [] = (NoSign, refl, refl)
sign_split (b ∷ bs) =
    elim (eqb b 43) as (λ t. eqb b 43 ≡ t → (s : Sign) × ((b ∷ bs) ≡ sign_text s
    ++ drop (cond (t || eqb b 45) 1 0) (b ∷ bs)) × (eqb b 45 ≡ is_minus s)) [
      | true ↦ λ e. let is = eqb-true b 43 e in (Plus, rw is refl, rw is refl)
      | false ↦ λ e. elim (eqb b 45) as (λ t. eqb b 45 ≡ t → (s : Sign)
          × ((b ∷ bs) ≡ sign_text s ++ drop (cond t 1 0) (b ∷ bs)) × (t ≡ is_minus s)) [
            | true ↦ λ f. let is = eqb-true b 45 f in (Minus, rw is refl, refl)
            | false ↦ λ f. (NoSign, refl, refl)
          ] refl
    ] refl

-- a test whose answer is known
pub chosen : {A : Type 0} (b : Bool) (x y z : A) → cond b x y ≡ z → ((b ≡ true) × (x ≡ z)) ⊎ ((b ≡ false) × (y ≡ z))
chosen true x y z e = inl (refl, e)
chosen false x y z e = inr (refl, e)

pub digits_whole : (ds : List ℕ) → eqb (digits_len ds) (length ds) ≡ true → AllDigits 10 ds
digits_whole ds e = subst (AllDigits 10) (ap (λ (n : ℕ). take n ds) (eqb-true _ _ e)
    ∙ take_all (length ds) ds (omega arith)) (all_front ds)

-- what follows the digits is a power, where it is read
pub record IsPower (n : Bool) (w f bs : List ℕ) (d : Decimal) : Type 0 where
  pub power : Power
  pub fits : FitsPower power
  pub text : bs ≡ power_text power
  pub is : d ≡ record {
    negative = n;
    whole = w;
    fraction = f;
    shrinks = shrinks_of power;
    exponent = digits_of_power power;
  }

abbrev none_of : Option Decimal
none_of = None

pub some_len : (ds : List ℕ) → (length ds == 0) ≡ false → 0 < length ds
some_len [] e = absurd cc
some_len (d ∷ ds) e = omega arith

no_answer : {B : Type 0} (d : Decimal) → none_of ≡ Some d → B
no_answer d e = absurd cc

power_with : (n : Bool) (w f : List ℕ) (b : ℕ) (rest ds : List ℕ) (s : Sign) (d : Decimal)
    → (b == 101 || b == 69) ≡ true → rest ≡ sign_text s ++ ds → 0 < length ds → AllDigits 10 ds
    → d ≡ record { negative = n; whole = w; fraction = f; shrinks = is_minus s; exponent = ds }
    → IsPower n w f (b ∷ rest) d
power_with n w f b rest ds s d letter text some all is =
    elim (eqb b 101) as (λ t. eqb b 101 ≡ t → IsPower n w f (b ∷ rest) d) [
      | true ↦ λ e. let b-is = eqb-true b 101 e in record {
        power = Small s ds;
        fits = (some, all);
        text = rw (b-is, text) refl;
        is = is;
      }
      | false ↦ λ e. let b-is = eqb-true b 69 (rw e at letter) in
          record { power = Capital s ds; fits = (some, all); text = rw (b-is, text) refl; is = is }
    ] refl

power_from : (n : Bool) (w f : List ℕ) (bs : List ℕ) (d : Decimal) → with_exponent (bare n w f) bs ≡ Some d
    → IsPower n w f bs d
unfolding with_exponent
power_from n w f [] d e = record { power = NoPower; fits = tt; text = refl; is = sym (some_is _ _ e) }
power_from n w f (b ∷ bs) d e =
    let long : (length (b ∷ bs) == 0) ≡ false = ne_eqb _ _ (λ i. absurd (omega arith)) in
    let sp = sign_split bs in
    let ds : List ℕ = drop (sign_len bs) bs in
    let read : Decimal = record {
      negative = n;
      whole = w;
      fraction = f;
      shrinks = eqb (get_or bs 0 0) 45;
      exponent =
          ds;
    } in
    let third : Option Decimal = cond (digits_len ds == length ds) (Some read) None in
    let second : Option Decimal = cond (length ds == 0) None third in
    elim (chosen (b == 101 || b == 69) second None (Some d) (rw long at e)) [
      | inr none_1 ↦ no_answer d none_1.1
      | inl letter ↦ elim (chosen (length ds == 0) None third (Some d) letter.1) [
        | inl none_1 ↦ no_answer d none_1.1
        | inr more ↦ elim (chosen (digits_len ds == length ds) (Some read) None (Some d) more.1) [
          | inr none_1 ↦ no_answer d none_1.1
          | inl all ↦ power_with n w f b bs ds sp.0 d letter.0 sp.1 (some_len ds more.0) (digits_whole ds all.0)
              (sym (some_is read d all.1) ∙ rw sp.2 refl)
        ]
      ]
    ]

-- the digits that are read, and what follows them
pub record IsSplit (n : Bool) (bs : List ℕ) (d : Decimal) : Type 0 where
  pub digits : Digits
  pub power : Power
  pub text : bs ≡ digits_text digits ++ power_text power
  pub some : 0 < length (whole_of digits) + length (fraction_of digits)
  pub whole : AllDigits 10 (whole_of digits)
  pub fraction : AllDigits 10 (fraction_of digits)
  pub fits : FitsPower power
  pub is : d ≡ record {
    negative = n;
    whole = whole_of digits;
    fraction = fraction_of digits;
    shrinks = shrinks_of power;
    exponent = digits_of_power power;
  }

abbrev rest_of : Bool → List ℕ → List ℕ → Option Decimal
rest_of n w behind = cond (length w + length (take (digits_len behind) behind) == 0) None
    (with_exponent (bare n w (take (digits_len behind) behind)) (drop (digits_len behind) behind))

some_sum : (a b : ℕ) → (a + b == 0) ≡ false → 0 < a + b
some_sum zero zero e = absurd (grind (arith, nat_tests))
some_sum zero (suc b) e = omega arith
some_sum (suc a) b e = omega arith

with_point : (n : Bool) (w rest : List ℕ) (d : Decimal) → AllDigits 10 w → rest_of n w rest ≡ Some d
    → IsSplit n (w ++ 46 ∷ rest) d
with_point n w rest d all e =
    let f : List ℕ = take (digits_len rest) rest in
    let bs : List ℕ = drop (digits_len rest) rest in
    elim (chosen (length w + length f == 0) None (with_exponent (bare n w f) bs) (Some d) e) [
      | inl none_1 ↦ no_answer d none_1.1
      | inr more ↦
          let p = power_from n w f bs d more.1 in
          let text : w ++ 46 ∷ rest ≡ (w ++ 46 ∷ f) ++ power_text p.power =
          ap (λ (r : List ℕ). w ++ 46 ∷ r) (sym (take-append-drop (digits_len rest) rest))
          ∙ sym (append_assoc w (46 ∷ f) bs) ∙ ap (λ (r : List ℕ). (w ++ 46 ∷ f) ++ r) p.text in
          record {
            digits = With w f;
            power = p.power;
            text = text;
            some = some_sum _ _ more.0;
            whole = all;
            fraction = all_front rest;
            fits = p.fits;
            is = p.is;
          }
    ]

without_point : (n : Bool) (w after : List ℕ) (d : Decimal) → AllDigits 10 w → digits_len after ≡ 0
    → rest_of n w after ≡ Some d → IsSplit n (w ++ after) d
without_point n w after d all stops e =
    let e' : cond (length w + 0 == 0) None (with_exponent (bare n w []) after) ≡ Some d = rw stops at e in
    elim (chosen (length w + 0 == 0) None (with_exponent (bare n w []) after) (Some d) e') [
      | inl none_1 ↦ no_answer d none_1.1
      | inr more ↦
          let p = power_from n w [] after d more.1 in
          record {
            digits = Without w;
            power = p.power;
            text = ap (λ (r : List ℕ). w ++ r) p.text;
            some = some_sum _ _ more.0;
            whole = all;
            fraction = tt;
            fits = p.fits;
            is = p.is;
          }
    ]

split_at_point : (n : Bool) (w after : List ℕ) (d : Decimal) → AllDigits 10 w → digits_len after ≡ 0
    → rest_of n w (drop (point_len after) after) ≡ Some d → IsSplit n (w ++ after) d
split_at_point n w [] d all stops e = without_point n w [] d all stops e
split_at_point n w (b ∷ rest) d all stops e =
    elim (eqb b 46) as (λ t. eqb b 46 ≡ t → IsSplit n (w ++ b ∷ rest) d) [
      | true ↦ λ is. let b-is = eqb-true b 46 is in rw b-is (with_point n w rest d all (rw is at e))
      | false ↦ λ is. without_point n w (b ∷ rest) d all stops (rw is at e)
    ] refl

-- the digits end where they stop
stops_after : (bs : List ℕ) → digits_len (drop (digits_len bs) bs) ≡ 0
stops_after [] = refl
stops_after (b ∷ bs) =
    elim (is_ascii_digit b) as (λ t. is_ascii_digit b ≡ t → digits_len (drop (cond t (1 + digits_len bs) 0) (b ∷ bs))
    ≡ 0) [
      | true ↦ λ is. let k : 1 + digits_len bs ≡ suc (digits_len bs) = omega arith in rw k (stops_after bs)
      | false ↦ λ is. rw is refl
    ] refl

pub spelled_is_read : (text : List ℕ) (d : Decimal) → decimal_of text ≡ Some d
    → (s : Spelled) × IsDecimal s × (text ≡ spelling s) × (meaning s ≡ d)
unfolding decimal_of
spelled_is_read text d e =
    let sp = sign_split text in
    let u : List ℕ = drop (sign_len text) text in
    let q = split_at_point (eqb (get_or text 0 0) 45) (take (digits_len u) u) (drop (digits_len u) u) d (all_front u)
    (stops_after u) e in
    let s : Spelled = record { sign = sp.0; digits = q.digits; power = q.power } in
    let whole : u ≡ digits_text q.digits ++ power_text q.power = sym (take-append-drop (digits_len u) u) ∙ q.text in (
      s,
      record { some = q.some; whole = q.whole; fraction = q.fraction; power = q.fits },
      sp.1
          ∙ ap (λ (r : List ℕ). sign_text sp.0 ++ r) whole,
      rw (← sp.2) (sym q.is),
    )
