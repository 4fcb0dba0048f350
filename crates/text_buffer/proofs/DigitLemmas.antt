-- How many digits a number has.
use Rattle.std.proofs.Common.{◌≡◌, ◌+◌, ◌*◌, ◌<◌, ◌≤◌, ◌^◌, ℕ, suc, List, ◌++◌, length, take, drop}
use Rattle.std.proofs.Common.{ap, ◌∙◌, arith, lit<, inl, inr, length-append, length-drop, take-add}
use Rattle.std.proofs.Math.Seq.{take-append_seam}
use Rattle.std.proofs.Math.Nat.{eq-or-lt_of_le, pow-suc, pow-le-pow_right}
use Rattle.std.proofs.lemmas.Fmt.{length-decimal-le, decimal_is_IsNumeral}
use Rattle.std.proofs.lemmas.Int.Digits.{digits_value-lt}
use Rattle.std.specs.Fmt.{decimal}
use Rattle.text_buffer.specs.Placed.{Placed}

-- a number of 64 bits has at most 20 digits
pub room_for : (n : ℕ) → n < 2 ^ 64 → length (decimal n) ≤ 20
room_for n h = length-decimal-le 20 n (omega arith) (omega arith) h

-- a number from one power of ten up to the next one
pub counted : (n k : ℕ) → n < 2 ^ 64 → 10 ^ k ≤ n → n < 10 * 10 ^ k → length (decimal n) ≡ k + 1
counted n k small least most =
    let next : 10 ^ (k + 1) ≡ 10 * 10 ^ k =
    ap (λ (j : ℕ). 10 ^ j) (let one : k + 1 ≡ suc k = omega arith in one) ∙ pow-suc 10 k ∙ omega arith in
    let upper : length (decimal n) ≤ k + 1 = length-decimal-le (k + 1) n (omega arith) (omega (arith, next)) small in
    let spelled = decimal_is_IsNumeral n small in
    elim (eq-or-lt_of_le upper) [
      | inl e ↦ e
      | inr fewer ↦ absurd (omega (
        arith,
        digits_value-lt 10 (decimal n) spelled.0.1,
        spelled.1,
        pow-le-pow_right {n = 10} (lit< tt) (let few : length (decimal n) ≤ k = omega arith in few),
      ))
    ]

-- digits that end where as many cells behind an index end
pub digits_placed : (old new digits : List ℕ) (at start end : ℕ) → 0 < length digits → end ≤ length old
    → end ≡ at + length digits → start + length digits ≡ end → drop start new ≡ digits ++ drop end old
    → take start new ≡ take start old → Placed old new at digits end
digits_placed old new digits at start end some within ends sum written before =
    let here : start ≡ at = omega arith in
    let split : end ≡ start + length digits = omega arith in
    record {
      bytes = ap (λ (k : ℕ). take k new) split ∙ take-add start (length digits) new
          ∙ (λ i. before i ++ take (length digits) (written i))
          ∙ ap (λ (row : List ℕ). take start old ++ row) (take-append_seam digits (drop end old))
          ∙ ap (λ (k : ℕ). take k old ++ digits) here;
      end_at = ends;
      cells = omega (
        arith,
        ap length written,
        length-append digits (drop end old),
        length-drop start new,
        length-drop end old,
      );
    }
