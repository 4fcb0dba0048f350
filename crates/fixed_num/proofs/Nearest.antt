-- A rounded quotient is the nearest whole number.
use Rattle.std.proofs.Common.{◌≡◌, ℕ, ◌+◌, ◌*◌, ◌/◌, ◌%◌, ◌<◌, sym, subst, arith, inl, inr}
use Rattle.std.proofs.Math.Nat.{div-add-mod', mod-lt}
use Rattle.std.proofs.lemmas.Bool.{cases_order}
use Rattle.fixed_num.specs.Rounded.{rounded, rounded_of, IsNearest}
use Rattle.fixed_num.proofs.Rounding.{rounds_down, rounds_up, rounds_even, rounded_at}

-- the quotient is near, where the rest is at most half of the divisor
below : (d q r : ℕ) → 2 * r < d → IsNearest (q * d + r) d q
below d q r h =
    let same : d * q ≡ q * d = omega arith in
    record { near = omega (arith, same); even = λ e. absurd (omega (arith, same)) }

above : (d q r : ℕ) → r < d → d < 2 * r → IsNearest (q * d + r) d (q + 1)
above d q r low h =
    let same : d * (q + 1) ≡ q * d + d = omega arith in
    record { near = omega (arith, same); even = λ e. absurd (omega (arith, same)) }

tie_even : (d q r : ℕ) → 2 * r ≡ d → q % 2 ≡ 0 → IsNearest (q * d + r) d q
tie_even d q r h e =
    let same : d * q ≡ q * d = omega arith in
    record { near = omega (arith, same); even = λ u. e }

tie_odd : (d q r : ℕ) → 2 * r ≡ d → q % 2 ≡ 1 → IsNearest (q * d + r) d (q + 1)
tie_odd d q r h e =
    let same : d * (q + 1) ≡ q * d + d = omega arith in
    record { near = omega (arith, same); even = λ u. omega arith }

tie : (d q r : ℕ) → 2 * r ≡ d → IsNearest (q * d + r) d (q + q % 2)
tie d q r h =
    let most = mod-lt q {m = 2} (omega arith) in
    elim (cases_order (q % 2) 1) [
      | inl e ↦ subst (IsNearest (q * d + r) d) (omega arith) (tie_odd d q r h e)
      | inr x ↦ elim x [
        | inl lt ↦ subst (IsNearest (q * d + r) d) (omega arith) (tie_even d q r h (omega arith))
        | inr gt ↦ absurd (omega arith)
      ]
    ]

of_parts : (d q r : ℕ) → r < d → IsNearest (q * d + r) d (rounded_of d q r)
of_parts d q r low =
    elim (cases_order (2 * r) d) [
      | inl is ↦ subst (IsNearest (q * d + r) d) (sym (rounds_even d q r is)) (tie d q r is)
      | inr x ↦ elim x [
        | inl lt ↦ subst (IsNearest (q * d + r) d) (sym (rounds_down d q r lt)) (below d q r lt)
        | inr gt ↦ subst (IsNearest (q * d + r) d) (sym (rounds_up d q r gt)) (above d q r low gt)
      ]
    ]

pub rounds_to_nearest : (n d : ℕ) → 0 < d → IsNearest n d (rounded n d)
rounds_to_nearest n d h =
    let parts = div-add-mod' n d in
    let low = mod-lt n {m = d} h in
    let is : IsNearest ((n / d) * d + n % d) d (rounded ((n / d) * d + n % d) d) =
    subst (IsNearest ((n / d) * d + n % d) d) (sym (rounded_at d (n / d) (n % d) low))
    (of_parts d (n / d) (n % d) low) in
    subst (λ (x : ℕ). IsNearest x d (rounded x d)) parts is
