-- Rounding half to even, of a quotient with one more digit and a mark of what is left.
use Rattle.std.proofs.Common.{◌≡◌, ℕ, zero, suc, ◌+◌, ◌*◌, ◌/◌, ◌%◌, ◌<◌, ◌≤◌, refl, sym, ap, ◌∙◌, arith, true, false}
use Rattle.std.proofs.Common.{ltb, inl, inr}
use Rattle.std.proofs.Math.Nat.{div-add-mod', mod-lt, mul-le-mul_right, mul-lt-mul_of_pos_right}
use Rattle.std.proofs.lemmas.Bool.{le-ltb, lt-ltb, cases_order}
use Rattle.std.proofs.lemmas.Nat.{div-mul-add, mod-mul-add}
use Rattle.fixed_num.specs.Rounded.{rounded, rounded_of}

pub rounds_down : (d q r : ℕ) → 2 * r < d → rounded_of d q r ≡ q
rounds_down d q r h = let a : ltb (2 * r) d ≡ true = lt-ltb _ _ h in rw a refl

pub rounds_up : (d q r : ℕ) → d < 2 * r → rounded_of d q r ≡ q + 1
rounds_up d q r h =
    let a : ltb (2 * r) d ≡ false = le-ltb _ _ (omega arith) in
    let b : ltb d (2 * r) ≡ true = lt-ltb _ _ h in
    rw (a, b) refl

pub rounds_even : (d q r : ℕ) → 2 * r ≡ d → rounded_of d q r ≡ q + q % 2
rounds_even d q r h =
    let a : ltb (2 * r) d ≡ false = le-ltb _ _ (omega arith) in
    let b : ltb d (2 * r) ≡ false = le-ltb _ _ (omega arith) in
    rw (a, b) refl

pub rounded_at : (d q r : ℕ) → r < d → rounded (q * d + r) d ≡ rounded_of d q r
unfolding rounded
rounded_at d q r h = rw (div-mul-add q d r h, mod-mul-add q d r h) refl

-- the two remainders stand alike to the half of their divisors
pub record SameSide (d r e s : ℕ) : Type 0 where
  pub below : 2 * r < d → 2 * s < e
  pub above : d < 2 * r → e < 2 * s
  pub even : 2 * r ≡ d → 2 * s ≡ e

pub same_side : (d r e s q : ℕ) → SameSide d r e s → rounded_of d q r ≡ rounded_of e q s
same_side d r e s q h =
    elim (cases_order (2 * r) d) [
      | inl is ↦ rounds_even d q r is ∙ sym (rounds_even e q s (h.even is))
      | inr x ↦ elim x [
        | inl lt ↦ rounds_down d q r lt ∙ sym (rounds_down e q s (h.below lt))
        | inr gt ↦ rounds_up d q r gt ∙ sym (rounds_up e q s (h.above gt))
      ]
    ]

-- a common factor changes nothing
pub scaled : (n d c : ℕ) → 0 < d → 0 < c → rounded (n * c) (d * c) ≡ rounded n d
scaled n d c h k =
    let parts = div-add-mod' n d in
    let low = mod-lt n {m = d} h in
    let low' : (n % d) * c < d * c = mul-lt-mul_of_pos_right low k in
    let e : n * c ≡ (n / d) * (d * c) + (n % d) * c = ap (λ (x : ℕ). x * c) (sym parts) ∙ omega arith in
    let side : SameSide d (n % d) (d * c) ((n % d) * c) = record {
      below = λ lt. omega (arith, mul-lt-mul_of_pos_right {k = c} lt k);
      above = λ lt. omega (arith, mul-lt-mul_of_pos_right {k = c} lt k);
      even = λ is. omega (arith, ap (λ (x : ℕ). x * c) is);
    } in
    let one : rounded (n * c) (d * c) ≡ rounded_of (d * c) (n / d) ((n % d) * c) =
    ap (λ (x : ℕ). rounded x (d * c)) e ∙ rounded_at (d * c) (n / d) ((n % d) * c) low' in
    let two : rounded n d ≡ rounded_of d (n / d) (n % d) = ap (λ (x : ℕ). rounded x d) (sym parts)
    ∙ rounded_at d (n / d) (n % d) low in
    one ∙ sym (same_side d (n % d) (d * c) ((n % d) * c) (n / d) side) ∙ sym two

pub whole : (n d : ℕ) → 0 < d → rounded (n * d) d ≡ n
whole n d h =
    let e : n * d ≡ n * d + 0 = omega arith in
    ap (λ (x : ℕ). rounded x d) e ∙ rounded_at d n 0 h ∙ rounds_down d n 0 (omega arith)

pub nothing : (n d : ℕ) → 2 * n < d → rounded n d ≡ 0
nothing n d h =
    let e : n ≡ 0 * d + n = omega arith in
    ap (λ (x : ℕ). rounded x d) e ∙ rounded_at d 0 n (omega arith) ∙ rounds_down d 0 n h

-- 1 where something is left
abbrev pub mark : ℕ → ℕ
mark zero = 0
mark (suc r) = 1

pub mark_is : (r : ℕ) → (mark r ≤ 1) × (r ≡ 0 → mark r ≡ 0) × (0 < r → mark r ≡ 1)
mark_is zero = (omega arith, λ e. refl, λ h. absurd (omega arith))
mark_is (suc r) = (omega arith, λ e. absurd (omega arith), λ h. refl)

-- both remainders stand alike to their halves
sides : (b m r k : ℕ) → r < m → k ≤ 1 → (r ≡ 0 → k ≡ 0) → (0 < r → k ≡ 1) → SameSide (10 * m) (b * m + r) 20 (2 * b + k)
sides b m r k h le none_left some_left =
    elim (cases_order b 5) [
      | inl is ↦ let five : b * m ≡ 5 * m = ap (λ (x : ℕ). x * m) is in
          record {
            below = λ u. absurd (omega arith);
            above = λ u. omega (arith, some_left (omega arith));
            even = λ u. omega (arith, none_left (omega arith));
          }
      | inr x ↦ elim x [
        | inl lt ↦ let top : (b + 1) * m ≤ 5 * m = mul-le-mul_right m (omega arith) in
            record { below = λ u. omega arith; above = λ u. absurd (omega arith); even = λ u. absurd (omega arith) }
        | inr gt ↦ let bottom : 6 * m ≤ b * m = mul-le-mul_right m (omega arith) in
            record { below = λ u. absurd (omega arith); above = λ u. omega arith; even = λ u. absurd (omega arith) }
      ]
    ]

-- one more digit than the quotient has, and a mark of what is left, round as the whole does
pub marked : (x m r : ℕ) → r < m → rounded (x * m + r) (10 * m) ≡ rounded (2 * x + mark r) 20
marked x m r h =
    let parts = div-add-mod' x 10 in
    let low : x % 10 < 10 = mod-lt x {m = 10} (omega arith) in
    let q : ℕ = x / 10 in
    let b : ℕ = x % 10 in
    let e : x * m + r ≡ q * (10 * m) + (b * m + r) = ap (λ (y : ℕ). y * m + r) (sym parts) ∙ omega arith in
    let f : 2 * x + mark r ≡ q * 20 + (2 * b + mark r) = ap (λ (y : ℕ). 2 * y + mark r) (sym parts) ∙ omega arith in
    let k = mark_is r in
    let side = sides b m r (mark r) h k.0 k.1 k.2 in
    let top : (b + 1) * m ≤ 10 * m = mul-le-mul_right m (omega arith) in
    ap (λ (y : ℕ). rounded y (10 * m)) e ∙ rounded_at (10 * m) q (b * m + r) (omega arith)
    ∙ same_side (10 * m) (b * m + r) 20 (2 * b + mark r) q side
    ∙ sym (ap (λ (y : ℕ). rounded y 20) f ∙ rounded_at 20 q (2 * b + mark r) (omega (arith, k.0)))
