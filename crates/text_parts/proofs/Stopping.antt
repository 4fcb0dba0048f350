-- The first byte that passes a test, found by bits.
use Rattle.std.proofs.Common.{◌≡◌, ◌==◌, ◌||◌, ◌+◌, ◌-◌, ◌<◌, ◌≤◌, ◌^◌, ℕ, Bool, true, false, cond, eqb, List, length}
use Rattle.std.proofs.Common.{take, drop, get_or, map, max, refl, sym, ap, subst, ◌∙◌, arith, inl, inr}
use Rattle.std.specs.Int.{bit_at}
use Rattle.std.specs.Int.Bits.{bit_or}
use Rattle.std.specs.List.{position_or_len}
use Rattle.std.specs.Simd.Lanes.{mask_l, chunk}
use Rattle.std.proofs.lemmas.Bool.{cases_lt}
use Rattle.std.proofs.lemmas.List.{length-map, get_or-map, get_or-drop, length-drop, take_all}
use Rattle.std.proofs.lemmas.List.Sums.{position_or_len_is}
use Rattle.std.proofs.lemmas.Nat.Bits.{bit_at_or, bit_at_above, bit_at-zero}
use Rattle.std.proofs.lemmas.Simd.{bit_mask_l, mask_l-lt, get_or-chunk}
use Rattle.text_parts.specs.Stops.{Says}

pub says_equal : (byte : ℕ) (lanes : List ℕ) → length lanes ≡ 16
    → Says (λ b. b == byte) lanes (mask_l (map (λ b. eqb b byte) lanes))
says_equal byte lanes long =
    let f : ℕ → Bool = λ b. eqb b byte in
    let len : length (map f lanes) ≡ 16 = length-map lanes f ∙ long in
    record {
      each = λ k lt. bit_mask_l (map f lanes) k ∙ ap (λ (t : Bool). cond {A = ℕ} t 1 0)
          (get_or-map f lanes k 0 false (omega (arith, lt, long)));
      none = λ k le. bit_at_above (mask_l (map f lanes)) 16 k
          (subst (λ (n : ℕ). mask_l (map f lanes) < 2 ^ n) len (mask_l-lt (map f lanes))) le;
    }

one_of : (s t : Bool) → max (cond {A = ℕ} s 1 0) (cond {A = ℕ} t 1 0) ≡ cond {A = ℕ} (s || t) 1 0
one_of true true = refl
one_of true false = refl
one_of false true = refl
one_of false false = refl

pub says_either : (p q : ℕ → Bool) (bytes : List ℕ) (m n : ℕ) → Says p bytes m → Says q bytes n
    → Says (λ b. p b || q b) bytes (bit_or m n)
says_either p q bytes m n first second = record {
  each = λ k lt. bit_at_or m n k ∙ rw (first.each k lt, second.each k lt)
      (one_of (p (get_or bytes k 0)) (q (get_or bytes k 0)));
  none = λ k le. bit_at_or m n k ∙ rw (first.none k le, second.none k le) refl;
}

-- what is said of the first sixteen bytes is said of the bytes
says_front : (p : ℕ → Bool) (bytes : List ℕ) (m : ℕ) → Says p (chunk 0 16 bytes) m → Says p bytes m
says_front p bytes m says = record {
  each = λ k lt. says.each k lt ∙ ap (λ (b : ℕ). cond {A = ℕ} (p b) 1 0)
      (get_or-chunk 0 16 bytes k 0 lt ∙ ap (λ (i : ℕ). get_or bytes i 0) (let e : 0 + k ≡ k = omega arith in e));
  none = says.none;
}

pub says_any : (e0 e1 e2 e3 : ℕ) (bytes : List ℕ) (m0 m1 m2 m3 : ℕ)
    → Says (λ b. b == e0) (chunk 0 16 bytes) m0 → Says (λ b. b == e1) (chunk 0 16 bytes) m1
    → Says (λ b. b == e2) (chunk 0 16 bytes) m2 → Says (λ b. b == e3) (chunk 0 16 bytes) m3
    → Says (λ b. b == e0 || b == e1 || b == e2 || b == e3) bytes (bit_or (bit_or (bit_or m0 m1) m2) m3)
says_any e0 e1 e2 e3 bytes m0 m1 m2 m3 s0 s1 s2 s3 =
    let lanes = chunk 0 16 bytes in
    let two = says_either (λ b. b == e0) (λ b. b == e1) lanes m0 m1 s0 s1 in
    let three = says_either (λ b. b == e0 || b == e1) (λ b. b == e2) lanes (bit_or m0 m1) m2 two s2 in
    says_front (λ b. b == e0 || b == e1 || b == e2 || b == e3) bytes _
    (says_either (λ b. b == e0 || b == e1 || b == e2) (λ b. b == e3) lanes (bit_or (bit_or m0 m1) m2) m3 three s3)

bit_true : (t : Bool) → cond {A = ℕ} t 1 0 ≡ 1 → t ≡ true
bit_true true e = refl
bit_true false e = absurd (omega arith)

bit_false : (t : Bool) → cond {A = ℕ} t 1 0 ≡ 0 → t ≡ false
bit_false true e = absurd (omega arith)
bit_false false e = refl

-- none of the bytes before an offset passes
abbrev pub NoneTo : (ℕ → Bool) → List ℕ → ℕ → Type 0
NoneTo p bytes at = (k : ℕ) → k < at → p (get_or bytes k 0) ≡ false

at_offset : (p : ℕ → Bool) (bytes : List ℕ) (at k : ℕ) → p (get_or (drop at bytes) k 0) ≡ p (get_or bytes (at + k) 0)
at_offset p bytes at k = ap p (get_or-drop at bytes k 0)

none_by_bits : (p : ℕ → Bool) (bytes : List ℕ) (at m n : ℕ) → n ≤ 16 → NoneTo p bytes at → Says p (drop at bytes) m
    → ((k : ℕ) → k < n → bit_at m k ≡ 0)
    → NoneTo p bytes (at + n)
none_by_bits p bytes at m n few before says clear k lt =
    elim (cases_lt k at) [
      | inl low ↦ before k low
      | inr high ↦
          let j : ℕ = k - at in
          let is : at + j ≡ k = omega arith in
          let small : j < n = omega arith in
          ap (λ (i : ℕ). p (get_or bytes i 0)) (sym is) ∙ sym (at_offset p bytes at j)
          ∙ bit_false (p (get_or (drop at bytes) j 0)) (sym (says.each j (omega arith)) ∙ clear j small)
    ]

-- the slice from an offset on is what stands behind it
pub says_behind : (p : ℕ → Bool) (bytes : List ℕ) (at m : ℕ) → at ≤ length bytes
    → Says p (take (length bytes - at) (drop at bytes)) m → Says p (drop at bytes) m
says_behind p bytes at m within says =
    subst (λ (bs : List ℕ). Says p bs m) (take_all (length bytes - at) (drop at bytes)
    (omega (arith, length-drop at bytes, within))) says

pub missed : (p : ℕ → Bool) (bytes : List ℕ) (at m : ℕ) → NoneTo p bytes at → Says p (drop at bytes) m → m ≡ 0
    → NoneTo p bytes (at + 16)
missed p bytes at m before says none = none_by_bits p bytes at m 16 (omega arith) before says
    (λ k lt. ap (λ (n : ℕ). bit_at n k) none ∙ bit_at-zero k)

pub found : (p : ℕ → Bool) (bytes : List ℕ) (at m t : ℕ) → at + 16 ≤ length bytes → NoneTo p bytes at
    → Says p (drop at bytes) m
    → bit_at m t ≡ 1 → ((k : ℕ) → k < t → bit_at m k ≡ 0) → (position_or_len p bytes ≡ at + t) × (at + t ≤ length bytes)
found p bytes at m t room before says set below =
    let small : t < 16 = elim (cases_lt t 16) [ inl lt ↦ lt | inr le ↦ absurd (omega (arith, set, says.none t le)) ] in
    let none = none_by_bits p bytes at m t (omega arith) before says below in
    let stops : p (get_or bytes (at + t) 0) ≡ true = sym (at_offset p bytes at t)
    ∙ bit_true (p (get_or (drop at bytes) t 0)) (sym (says.each t small) ∙ set) in
    (position_or_len_is p bytes (at + t) 0 (omega arith) none (λ lt. stops), omega arith)
