-- Digits, the numbers that they spell, and sums of them.
use Rattle.std.proofs.Common.{◌≡◌, ◌+◌, ◌-◌, ◌*◌, ◌/◌, ◌%◌, ◌^◌, ◌<◌, ◌≤◌, ℕ, suc, zero, List, [], ◌∷◌}
use Rattle.std.proofs.Common.{length, drop}
use Rattle.std.proofs.Common.{get_or, set, refl, sym, ap, ◌∙◌, arith, true, false, None}
use Rattle.std.proofs.lemmas.Bool.{and_parts, eqb-true, ne_eqb, false≢true}
use Rattle.std.proofs.lemmas.List.{drop_more, length-set, length-drop}
use Rattle.std.proofs.lemmas.Nat.{div-add-mod', mod-mul-add, pow-add}
use Rattle.std.proofs.Math.Nat.{pow-suc, one-le-pow, mul-le-mul_right, le-mul_of_pos_right}
use Rattle.std.proofs.Math.Nat.{mul-add-mod_self_right}
use Rattle.std.proofs.Math.Nat.{mul-add-div_right, zero-div, zero-mod}
use Rattle.std.specs.List.{list_all}
use Rattle.std.specs.Prelude.{◌==◌, replicate}
use Rattle.agent_config.specs.Durations.{Pair, fitting, longest, number_behind, scaled, whole_of}
use Rattle.agent_config.specs.Sums.{AreDigits, weight}

grows : (n : ℕ) (digits : List ℕ) → n ≤ number_behind n digits
grows n [] = omega arith
grows n (digit ∷ digits) = omega (arith, grows (n * 10 + (digit - 48)) digits)

-- a number that is too long stays so, with a digit more
pub too_long : (n i all : ℕ) (digits : List ℕ) → i < length digits → 922337203685477580 < n
    → number_behind n (drop i digits) ≡ all → longest < all
too_long n i all digits lt long e =
    let split = ap (number_behind n) (drop_more digits i 0 lt) in
    omega (arith, grows (n * 10 + (get_or digits i 0 - 48)) (drop (i + 1) digits), split)

-- the number before digits counts as many times as they have places
number_split : (n : ℕ) (digits : List ℕ)
    → number_behind n digits ≡ n * 10 ^ length digits + number_behind 0 digits
number_split n [] = omega arith
number_split n (digit ∷ digits) =
    omega (
      arith,
      number_split (n * 10 + (digit - 48)) digits,
      number_split (0 * 10 + (digit - 48)) digits,
      ap (λ p. n * p) (pow-suc 10 (length digits)),
    )

-- a digit in place of another
weight-set : (digits : List ℕ) (i x e : ℕ) → i + 1 + e ≡ length digits
    → weight (set digits i x) + get_or digits i 0 * 10 ^ e ≡ weight digits + x * 10 ^ e
weight-set [] i x e h = absurd (omega arith)
weight-set (d ∷ digits) zero x e h =
    let last : e ≡ length digits = omega arith in
    rw last (omega arith)
weight-set (d ∷ digits) (suc i) x e h =
    omega (arith, weight-set digits i x e (omega arith), ap (λ n. d * 10 ^ n) (length-set digits i x))

-- one place, with what is carried: `p` is there, and a digit `d` of a unit `u` comes
carried : (w' w w0 p r q s d u c P Q F F' G H : ℕ) → w' + p * P ≡ w + r * P → Q ≡ P * 10 → H * G ≡ P
    → F' ≡ (0 * 10 + d) * H + F → q * 10 + r ≡ s → s ≡ p + d * u + c → w + c * P ≡ w0 + F * u * G
    → w' + q * Q ≡ w0 + F' * u * G
carried w' w w0 p r q s d u c P Q F F' G H set_to tenth joined front parts sum before =
    let a = ap (λ x. q * x) tenth in
    let b = ap (λ x. x * P) parts in
    let e = ap (λ x. x * P) sum in
    let f = ap (λ x. x * u * G) front in
    let g = ap (λ x. d * u * x) joined in
    omega (arith, a, b, e, f, g)

pub place_more : (places digits : List ℕ) (n before at unit carry w0 sum : ℕ) → length places ≡ n
    → before ≡ at + 1 → at < length digits → length digits ≤ n
    → sum ≡ get_or places at 0 + (get_or digits at 0 - 48) * unit + carry
    → weight places + carry * 10 ^ (n - before)
    ≡ w0 + number_behind 0 (drop before digits) * unit * 10 ^ (n - length digits)
    → weight (set places at (sum % 10)) + sum / 10 * 10 ^ (n - at)
    ≡ w0 + number_behind 0 (drop at digits) * unit * 10 ^ (n - length digits)
place_more places digits n before at unit carry w0 sum len one lt fits is so_far =
    let rest = drop before digits in
    let split : drop at digits ≡ get_or digits at 0 ∷ rest =
    drop_more digits at 0 lt ∙ ap (λ k. get_or digits at 0 ∷ drop k digits) (sym one) in
    let left : length rest ≡ length digits - before = length-drop before digits in
    let behind : length rest + (n - length digits) ≡ n - before = omega arith in
    let next : n - at ≡ suc (n - before) = omega arith in
    let e : at + 1 + (n - before) ≡ length places = omega arith in
    let tenth : 10 ^ (n - at) ≡ 10 ^ (n - before) * 10 = ap (λ k. 10 ^ k) next ∙ pow-suc 10 (n - before) in
    let joined : 10 ^ length rest * 10 ^ (n - length digits) ≡ 10 ^ (n - before) =
    sym (pow-add 10 (length rest) (n - length digits)) ∙ ap (λ k. 10 ^ k) behind in
    carried (weight (set places at (sum % 10))) (weight places) w0 (get_or places at 0) (sum % 10)
    (sum / 10) sum
    (get_or digits at 0 - 48) unit carry (10 ^ (n - before)) (10 ^ (n - at)) (number_behind 0 rest)
    (number_behind 0 (drop at digits)) (10 ^ (n - length digits)) (10 ^ length rest)
    (weight-set places at (sum % 10) (n - before) e) tenth joined
    (ap (number_behind 0) split ∙ number_split (0 * 10 + (get_or digits at 0 - 48)) rest)
    (div-add-mod' sum 10) is so_far

-- a whole number, and places with what they carry, are a sum with a pair more
parts : (whole number unit carry s k g f w w' : ℕ) → k * g ≡ s → w' + carry * s ≡ w + f * unit * g
    → (whole + number * unit + carry) * s + w' ≡ (whole * s + w) + (number * k + f) * unit * g
parts whole number unit carry s k g f w w' joined sum =
    let a = ap (λ x. number * unit * x) joined in
    omega (arith, a)

joins : (k n : ℕ) → k ≤ n → 10 ^ k * 10 ^ (n - k) ≡ 10 ^ n
joins k n h =
    let e : k + (n - k) ≡ n = omega arith in
    sym (pow-add 10 k (n - k)) ∙ ap (λ i. 10 ^ i) e

pub added : (n whole carry : ℕ) (pair : Pair) (before after : List ℕ) → length pair.places ≤ n
    → weight after + carry * 10 ^ n
    ≡ weight before + number_behind 0 pair.places * pair.unit * 10 ^ (n - length pair.places)
    → (whole + number_behind 0 pair.whole * pair.unit + carry) * 10 ^ n + weight after
    ≡ (whole * 10 ^ n + weight before) + scaled n pair
added n whole carry pair before after fits sum =
    parts whole (number_behind 0 pair.whole) pair.unit carry (10 ^ n) (10 ^ length pair.places)
    (10 ^ (n - length pair.places)) (number_behind 0 pair.places) (weight before) (weight after)
    (joins (length pair.places) n fits) sum
    ∙ ap (λ m. (whole * 10 ^ n + weight before) + m * pair.unit * 10 ^ (n - length pair.places))
    (sym (number_split (number_behind 0 pair.whole) pair.places))

-- no time is so long as a sum with a whole part that is too long
pub too_much : (n whole carry total : ℕ) (pair : Pair) (before after : List ℕ) → length pair.places ≤ n
    → weight after + carry * 10 ^ n
    ≡ weight before + number_behind 0 pair.places * pair.unit * 10 ^ (n - length pair.places)
    → total ≡ whole + number_behind 0 pair.whole * pair.unit + carry → longest < total
    → (longest + 1) * 10 ^ n ≤ (whole * 10 ^ n + weight before) + scaled n pair
too_much n whole carry total pair before after fits sum is long =
    let more : longest + 1 ≤ whole + number_behind 0 pair.whole * pair.unit + carry = omega arith in
    omega (arith, added n whole carry pair before after fits sum, mul-le-mul_right (10 ^ n) more)

-- nor as a pair whose digits before the point are too many
too_many_parts : (m number unit s k g f : ℕ) → m ≤ number → 1 ≤ unit → k * g ≡ s
    → m * s ≤ (number * k + f) * unit * g
too_many_parts m number unit s k g f long some joined =
    let a = ap (λ x. number * unit * x) joined in
    let b : number ≤ number * unit = le-mul_of_pos_right number (omega arith) in
    let c : m ≤ number * unit = omega arith in
    let d = mul-le-mul_right s c in
    omega (arith, a, d)

pub too_many : (n whole : ℕ) (pair : Pair) (before : List ℕ) → length pair.places ≤ n → 1 ≤ pair.unit
    → longest < number_behind 0 pair.whole
    → (longest + 1) * 10 ^ n ≤ (whole * 10 ^ n + weight before) + scaled n pair
too_many n whole pair before fits some long =
    let a = too_many_parts (longest + 1) (number_behind 0 pair.whole) pair.unit (10 ^ n)
    (10 ^ length pair.places)
    (10 ^ (n - length pair.places)) (number_behind 0 pair.places) (omega arith) some
    (joins (length pair.places) n fits) in
    let b = ap (λ m. m * pair.unit * 10 ^ (n - length pair.places))
    (number_split (number_behind 0 pair.whole) pair.places) in
    omega (arith, a, b)

-- digits are below the next power
weight_below : (digits : List ℕ) → AreDigits digits → weight digits < 10 ^ length digits
weight_below [] h = omega arith
weight_below (d ∷ digits) h =
    let a : d ≤ 9 = h 0 in
    omega (
      arith,
      mul-le-mul_right (10 ^ length digits) a,
      weight_below digits (λ k. h (suc k)),
      pow-suc 10 (length digits),
    )

pub weight_zero : (digits : List ℕ) → list_all (λ d. d == 0) digits ≡ true → weight digits ≡ 0
weight_zero [] h = refl
weight_zero (d ∷ digits) h =
    let both = and_parts (d == 0) (list_all (λ d. d == 0) digits) h in
    let a = ap (λ x. x * 10 ^ length digits) (eqb-true d 0 both.0) in
    omega (arith, a, weight_zero digits both.1)

positive : (d p w : ℕ) → 1 ≤ p → d * p + w ≡ 0 → (d ≡ 0) × (w ≡ 0)
positive zero p w some h = (refl, omega arith)
positive (suc d) p w some h = absurd (omega arith)

pub weight_some : (digits : List ℕ) → list_all (λ d. d == 0) digits ≡ false → weight digits ≡ 0 → ⊥
weight_some [] h z = false≢true (sym h)
weight_some (d ∷ digits) h z =
    let both = positive d (10 ^ length digits) (weight digits) (one-le-pow (length digits) 10
    (omega arith)) z in
    weight_some digits (rw both.0 at h) both.1

pub whole_there : (n whole : ℕ) (places : List ℕ) → list_all (λ d. d == 0) places ≡ true
    → whole_of n (whole * 10 ^ n + weight places) ≡ fitting whole
unfolding whole_of
whole_there n whole places zeros =
    let z = weight_zero places zeros in
    let some : 0 < 10 ^ n = omega (arith, one-le-pow n 10 (omega arith)) in
    let rest : (whole * 10 ^ n + weight places) % 10 ^ n ≡ 0 =
    mul-add-mod_self_right whole (10 ^ n) (weight places) ∙ ap (λ w. w % 10 ^ n) z ∙ zero-mod (10 ^ n) in
    let front : (whole * 10 ^ n + weight places) / 10 ^ n ≡ whole =
    mul-add-div_right some whole (weight places)
    ∙ ap (λ w. whole + w / 10 ^ n) z ∙ ap (λ w. whole + w) (zero-div (10 ^ n)) ∙ omega arith in
    rw (rest, front) refl

pub whole_not : (n whole : ℕ) (places : List ℕ) → length places ≡ n → AreDigits places
    → list_all (λ d. d == 0) places ≡ false → whole_of n (whole * 10 ^ n + weight places) ≡ None
unfolding whole_of
whole_not n whole places len digits some =
    let below : weight places < 10 ^ n = rw len at (weight_below places digits) in
    let rest : (whole * 10 ^ n + weight places) % 10 ^ n ≡ weight places =
    mod-mul-add whole (10 ^ n) (weight places) below in
    let test : (weight places == 0) ≡ false = ne_eqb (weight places) 0 (weight_some places some) in
    rw (rest, test) refl

pub weight_zeros : (n : ℕ) → weight (replicate n 0) ≡ 0
weight_zeros zero = refl
weight_zeros (suc n) = omega (arith, weight_zeros n)

pub digits-set : (digits : List ℕ) (i x : ℕ) → AreDigits digits → x ≤ 9 → AreDigits (set digits i x)
digits-set [] i x h small k = h k
digits-set (d ∷ digits) zero x h small zero = small
digits-set (d ∷ digits) zero x h small (suc k) = h (suc k)
digits-set (d ∷ digits) (suc i) x h small zero = h 0
digits-set (d ∷ digits) (suc i) x h small (suc k) = digits-set digits i x (λ j. h (suc j)) small k

pub same_total : (a b u c a' b' u' c' : ℕ) → a ≡ a' → b ≡ b' → u ≡ u' → c ≡ c'
    → a + b * u + c ≡ a' + b' * u' + c'
same_total a b u c a' b' u' c' e f g h = cc
