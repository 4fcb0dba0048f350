-- The longest front of a piece that is UTF-8.
use Rattle.std.proofs.Common.{◌≡◌, ℕ, zero, suc, ◌<◌, ◌≤◌, Bool, true, false, cond, ltb, List, length, take, take_all}
use Rattle.std.proofs.Common.{refl, subst, arith}
use Rattle.std.specs.Str.{IsUtf8, IsValidUpTo, is_utf8}
use Rattle.std.specs.Str.Lossy.{valid_len_up_to, utf8_valid_len}
use Rattle.std.proofs.lemmas.Bool.{ltb-true, ltb-false}
use Rattle.std.proofs.lemmas.Str.{IsUtf8-from_is_utf8, is_utf8-from_IsUtf8, IsUtf8-nil, utf8_valid_len_le}

front_valid : (bs : List ℕ) (m : ℕ) → IsUtf8 (take (valid_len_up_to bs m) bs)
front_valid bs zero = IsUtf8-nil
front_valid bs (suc m) = elim (is_utf8 (take (suc m) bs)) as
    (λ t. is_utf8 (take (suc m) bs) ≡ t → IsUtf8 (take (cond t (suc m) (valid_len_up_to bs m)) bs)) [
      | true ↦ λ e. IsUtf8-from_is_utf8 (take (suc m) bs) e
      | false ↦ λ e. front_valid bs m
    ] refl

never : (t : Bool) → t ≡ true → t ≡ false → ⊥
never true e f = absurd cc
never false e f = absurd cc

no_longer : (bs : List ℕ) (m k : ℕ) → valid_len_up_to bs m < k → k ≤ m → IsUtf8 (take k bs) → ⊥
no_longer bs zero k over le u = absurd (omega arith)
no_longer bs (suc m) k over le u = elim (is_utf8 (take (suc m) bs)) as
    (λ t. is_utf8 (take (suc m) bs) ≡ t → cond t (suc m) (valid_len_up_to bs m) < k → ⊥) [
      | true ↦ λ e lt. absurd (omega arith)
      | false ↦ λ e lt. elim (ltb m k) as (λ t. ltb m k ≡ t → ⊥) [
        | true ↦ λ last.
            let same : k ≡ suc m = omega (arith, ltb-true m k last) in
            never (is_utf8 (take (suc m) bs)) (is_utf8-from_IsUtf8 (take (suc m) bs)
            (subst (λ (n : ℕ). IsUtf8 (take n bs)) same u)) e
        | false ↦ λ below. no_longer bs m k lt (ltb-false m k below) u
      ] refl
    ] refl over

-- where a piece isn't UTF-8, its longest front that is ends at the offset that is given
pub valid_up_to : (piece : List ℕ) → is_utf8 piece ≡ false → IsValidUpTo piece (utf8_valid_len piece)
unfolding utf8_valid_len
valid_up_to piece not = record {
  short = shorter (valid_len_up_to piece (length piece)) (utf8_valid_len_le piece) (front_valid piece (length piece));
  front = front_valid piece (length piece);
  longest = λ m over u. elim (ltb (length piece) m) as (λ t. ltb (length piece) m ≡ t → ⊥) [
    | true ↦ λ past. let lt = ltb-true (length piece) m past in whole (subst IsUtf8 (take_all m piece (omega arith)) u)
    | false ↦ λ within. no_longer piece (length piece) m over (ltb-false (length piece) m within) u
  ] refl;
}
  where
    whole : IsUtf8 piece → ⊥
    whole u = never (is_utf8 piece) (is_utf8-from_IsUtf8 piece u) not

    shorter : (n : ℕ) → n ≤ length piece → IsUtf8 (take n piece) → n < length piece
    shorter n le u = elim (ltb n (length piece)) as (λ t. ltb n (length piece) ≡ t → n < length piece) [
      | true ↦ λ lt. ltb-true n (length piece) lt
      | false ↦ λ ge. let all = ltb-false n (length piece) ge in absurd (whole (subst IsUtf8 (take_all n piece all) u))
    ] refl
