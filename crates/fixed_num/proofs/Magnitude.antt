-- The number with a capped exponent agrees with the number below the limit.
use Rattle.std.proofs.Common.{◌≡◌, ℕ, zero, suc, ◌+◌, ◌-◌, ◌*◌, ◌/◌, ◌%◌, ◌^◌, ◌<◌, ◌≤◌, min, refl, sym, ap, subst, ◌∙◌}
use Rattle.std.proofs.Common.{arith, true, false, inl, inr, Bool, cond, List, [], ◌∷◌, ◌++◌, length, take, drop}
use Rattle.std.specs.Prelude.{MatchBool, if◌then◌else◌}
use Rattle.std.specs.Str.Parse.{digits_value, digits_value_after, AllDigits}
use Rattle.std.proofs.Math.Nat.{mul-le-mul_right, pow-suc, one-le-pow, pow-le-pow_right}
use Rattle.std.proofs.lemmas.Bool.{cases_lt, cases_order}
use Rattle.std.proofs.lemmas.Nat.{pow-add, le-div}
use Rattle.std.proofs.lemmas.List.{take-append-drop, length-drop, length-append}
use Rattle.std.proofs.lemmas.Int.Digits.{digits_value-lt}
use Rattle.fixed_num.specs.Rounded.{rounded, AgreesBelow}
use Rattle.fixed_num.specs.Decimal.{Decimal, billionths}
use Rattle.fixed_num.proofs.Rounding.{rounds_down, rounds_up, rounds_even, scaled, whole, nothing, mark, mark_is}
use Rattle.fixed_num.proofs.Rounding.{marked}
use Rattle.fixed_num.proofs.Values.{AllDigits-drop, AllDigits-append, value_append, value_of_parts}

ten_pos : (k : ℕ) → 0 < 10 ^ k
ten_pos k = one-le-pow k 10 (omega arith)

ten_more : (i j : ℕ) → i < j → 10 * 10 ^ i ≤ 10 ^ j
ten_more i j h = omega (arith, pow-suc 10 i, pow-le-pow_right {n = 10} (omega arith) {i = suc i} {j = j} (omega arith))

pub vanishes : (ds : List ℕ) (cut : ℕ) → AllDigits 10 ds → length ds < cut → rounded (digits_value 10 ds) (10 ^ cut) ≡ 0
vanishes ds cut all h = nothing _ _ (omega (arith, digits_value-lt 10 ds all, ten_more (length ds) cut h))

pub same_agrees : (limit n r : ℕ) → r ≡ n → AgreesBelow limit n r
same_agrees limit n r e = record { below = λ h. e; above = λ h. omega arith }

pub both_above : (limit n r : ℕ) → limit ≤ n → limit ≤ r → AgreesBelow limit n r
both_above limit n r h k = record { below = λ u. absurd (omega arith); above = λ u. k }

floor_le : (n d : ℕ) → n / d ≤ rounded n d
unfolding rounded
floor_le n d =
    elim (cases_order (2 * (n % d)) d) [
      | inl is ↦ omega (arith, rounds_even d (n / d) (n % d) is)
      | inr x ↦ elim x [
        | inl lt ↦ omega (arith, rounds_down d (n / d) (n % d) lt)
        | inr gt ↦ omega (arith, rounds_up d (n / d) (n % d) gt)
      ]
    ]

pub capped_agrees : (limit m x s : ℕ) → 10 * limit ≤ m → AgreesBelow limit (rounded (2 * x + s) 20)
    (rounded (2 * min x m + s) 20)
capped_agrees limit m x s h =
    elim (cases_lt x m) [
      | inl lt ↦ let e : min x m ≡ x = omega arith in same_agrees _ _ _ (rw e refl)
      | inr le ↦
          let e : min x m ≡ m = omega arith in
          let one = floor_le (2 * x + s) 20 in
          let two = floor_le (2 * min x m + s) 20 in
          let three : limit ≤ (2 * x + s) / 20 = le-div limit (2 * x + s) 20 (omega arith) (omega arith) in
          let four : limit ≤ (2 * min x m + s) / 20 = le-div limit (2 * min x m + s) 20 (omega arith) (omega arith) in
          both_above _ _ _ (omega arith) (omega arith)
    ]

-- the mark of what is left, as the code knows it
pub mark_at : (b : Bool) (r : ℕ) → MatchBool b (r ≡ 0) (0 < r) → mark r ≡ (if b then 0 else 1)
mark_at true r h = (mark_is r).1 h
mark_at false r h = (mark_is r).2 h

-- some digits, and those behind them
pub cut_off : (ds : List ℕ) (kept cut : ℕ) → AllDigits 10 ds → kept + cut ≡ length ds + 1 → 0 < cut
    → rounded (digits_value 10 ds) (10 ^ cut) ≡ rounded (2 * digits_value 10 (take kept ds) + mark
    (digits_value 10 (drop kept ds))) 20
cut_off ds kept cut all e h =
    let parts : digits_value 10 ds ≡ digits_value 10 (take kept ds) * 10 ^ length (drop kept ds) + digits_value 10
    (drop kept ds) = ap (digits_value 10) (sym (take-append-drop kept ds))
    ∙ value_of_parts (take kept ds) (drop kept ds) in
    let len : length (drop kept ds) ≡ cut - 1 = omega (arith, length-drop kept ds) in
    let low = digits_value-lt 10 (drop kept ds) (AllDigits-drop kept ds all) in
    let ten : 10 ^ cut ≡ 10 * 10 ^ length (drop kept ds) = ap (λ (k : ℕ). 10 ^ k)
    (let f : cut ≡ suc (length (drop kept ds)) = omega arith in f) ∙ pow-suc 10 (length (drop kept ds)) ∙ omega arith in
    ap (λ (n : ℕ). rounded n (10 ^ cut)) parts ∙ ap (rounded _) ten
    ∙ marked (digits_value 10 (take kept ds)) (10 ^ length (drop kept ds)) (digits_value 10 (drop kept ds)) low

-- ---- powers of ten on both sides

pub times : (n up down : ℕ) → down ≤ up → rounded (n * 10 ^ up) (10 ^ down) ≡ n * 10 ^ (up - down)
times n up down h =
    let e : up ≡ (up - down) + down = omega arith in
    let p : n * 10 ^ up ≡ (n * 10 ^ (up - down)) * 10 ^ down =
    ap (λ (k : ℕ). n * 10 ^ k) e ∙ ap (λ (x : ℕ). n * x) (pow-add 10 (up - down) down) ∙ omega arith in
    ap (λ (x : ℕ). rounded x (10 ^ down)) p ∙ whole (n * 10 ^ (up - down)) (10 ^ down) (ten_pos down)

pub over : (n up down : ℕ) → up ≤ down → rounded (n * 10 ^ up) (10 ^ down) ≡ rounded n (10 ^ (down - up))
over n up down h =
    let e : down ≡ (down - up) + up = omega arith in
    let p : 10 ^ down ≡ 10 ^ (down - up) * 10 ^ up = ap (λ (k : ℕ). 10 ^ k) e ∙ pow-add 10 (down - up) up in
    ap (rounded (n * 10 ^ up)) p ∙ scaled n (10 ^ (down - up)) (10 ^ up) (ten_pos (down - up)) (ten_pos up)

-- ---- an exponent that was capped at m, far above the limit, the places and the digits

far_above : (limit n power places : ℕ) → limit ≤ 10 ^ 40 → places + 40 ≤ 9 + power
    → limit ≤ rounded (suc n * 10 ^ (9 + power)) (10 ^ places)
far_above limit n power places small room =
    let k : ℕ = 9 + power - places in
    let real = times (suc n) (9 + power) places (omega arith) in
    let p : 10 ^ 40 ≤ 10 ^ k = pow-le-pow_right {n = 10} (omega arith) {i = 40} {j = k} (omega arith) in
    let q : 1 * 10 ^ k ≤ suc n * 10 ^ k = mul-le-mul_right {m = 1} {n = suc n} (10 ^ k) (omega arith) in
    omega arith

zero_is : (power places : ℕ) → rounded (0 * 10 ^ (9 + power)) (10 ^ places) ≡ 0
zero_is power places = let e : 0 * 10 ^ (9 + power) ≡ 0 = omega arith in
    ap (λ (x : ℕ). rounded x (10 ^ places)) e ∙ nothing 0 (10 ^ places) (omega (arith, ten_pos places))

pub cap_up : (limit m n power capped places v : ℕ) → capped ≡ min power m → places + 40 ≤ m → limit ≤ 10 ^ 40
    → AgreesBelow limit (rounded (n * 10 ^ (9 + capped)) (10 ^ places)) v
    → AgreesBelow limit (rounded (n * 10 ^ (9 + power)) (10 ^ places)) v
cap_up limit m zero power capped places v is room small h = rw (zero_is power places, ← zero_is capped places) h
cap_up limit m (suc n) power capped places v is room small h =
    elim (cases_lt m power) [
      | inr le ↦ let same : capped ≡ power = omega arith in subst
          (λ (k : ℕ). AgreesBelow limit (rounded (suc n * 10 ^ (9 + k)) (10 ^ places)) v) same h
      | inl gt ↦ both_above _ _ _ (far_above limit n power places small (omega arith))
          (h.above (far_above limit n capped places small (omega arith)))
    ]

pub cap_down : (limit m : ℕ) (ds : List ℕ) (power capped places v : ℕ) → AllDigits 10 ds → capped ≡ min power m
    → length ds + 40 ≤ m
    → AgreesBelow limit (rounded (digits_value 10 ds * 10 ^ 9) (10 ^ (places + capped))) v
    → AgreesBelow limit (rounded (digits_value 10 ds * 10 ^ 9) (10 ^ (places + power))) v
cap_down limit m ds power capped places v all is room h =
    elim (cases_lt m power) [
      | inr le ↦ let same : capped ≡ power = omega arith in subst
          (λ (k : ℕ). AgreesBelow limit (rounded (digits_value 10 ds * 10 ^ 9) (10 ^ (places + k))) v) same h
      | inl gt ↦
          let one = over (digits_value 10 ds) 9 (places + capped) (omega arith)
          ∙ vanishes ds (places + capped - 9) all (omega arith) in
          let two = over (digits_value 10 ds) 9 (places + power) (omega arith)
          ∙ vanishes ds (places + power - 9) all (omega arith) in
          rw (two, ← one) h
    ]

pub min_agrees : (limit m n v : ℕ) → limit ≤ m → v ≡ min n m → AgreesBelow limit n v
min_agrees limit m n v small e = record { below = λ u. omega arith; above = λ u. omega arith }

-- ---- texts with no power

pub small_power : (k : ℕ) → 1 ≤ k → k ≤ 18 → (2 ≤ 10 ^ k) × (10 ^ k < 2 ^ 63)
small_power k low high =
    let p : 10 ^ 1 ≤ 10 ^ k = pow-le-pow_right {n = 10} (omega arith) {i = 1} {j = k} low in
    let q : 10 ^ k ≤ 10 ^ 18 = pow-le-pow_right {n = 10} (omega arith) {i = k} {j = 18} high in
    (omega (arith, p), omega (arith, q))

nothing_in : (xs : List ℕ) → length xs ≡ 0 → digits_value 10 xs ≡ 0
nothing_in [] e = refl
nothing_in (x ∷ xs) e = absurd (omega (arith, e))

pub plain : (d : Decimal) (n r : ℕ) → length d.exponent ≡ 0 → n ≡ digits_value 10 (d.whole ++ d.fraction)
    → r ≡ rounded (n * 10 ^ 9) (10 ^ length d.fraction) → r ≡ billionths d
unfolding billionths
plain d n r none is e =
    let power = nothing_in d.exponent none in
    let all : r ≡ rounded (digits_value 10 (d.whole ++ d.fraction) * 10 ^ 9) (10 ^ length d.fraction) =
    e ∙ ap (λ (k : ℕ). rounded (k * 10 ^ 9) (10 ^ length d.fraction)) is in
    let up : 9 + digits_value 10 d.exponent ≡ 9 = omega (arith, power) in
    let down : length d.fraction + digits_value 10 d.exponent ≡ length d.fraction = omega (arith, power) in
    elim d.shrinks as (λ t. r ≡ rounded (digits_value 10 (d.whole ++ d.fraction) * 10 ^
    (cond t 9 (9 + digits_value 10 d.exponent))) (10 ^ (cond t (length d.fraction + digits_value 10 d.exponent)
    (length d.fraction)))) [
      | true ↦ rw down all
      | false ↦ rw up all
    ]

-- ---- digits that are few

pub few_fit : (ds : List ℕ) → AllDigits 10 ds → length ds ≤ 19 → digits_value 10 ds < 2 ^ 64
few_fit ds all few =
    let p : 10 ^ length ds ≤ 10 ^ 19 = pow-le-pow_right {n = 10} (omega arith) {i = length ds} {j = 19} few in
    omega (arith, p, digits_value-lt 10 ds all)

pub both_fit : (xs ys : List ℕ) (v : ℕ) → AllDigits 10 xs → AllDigits 10 ys → length xs ≤ 19
    → length ys ≤ 19 - length xs
    → v ≡ digits_value 10 xs → digits_value_after 10 v ys < 2 ^ 64
both_fit xs ys v all more few fewer e =
    let len : length (xs ++ ys) ≡ length xs + length ys = length-append xs ys in
    let fits = few_fit (xs ++ ys) (AllDigits-append xs ys all more) (omega arith) in
    rw (e, sym (value_append 0 xs ys)) fits
