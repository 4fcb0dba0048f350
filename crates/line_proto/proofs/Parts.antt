-- Parts of a line without a backslash.
use Rattle.std.proofs.Common.{◌≡◌, ℕ, zero, suc, ◌+◌, ◌<◌, Bool, true, false, ltb, eqb, List, [], ◌∷◌, length, drop}
use Rattle.std.proofs.Common.{get_or, add-zero, subst, refl, sym, ap, ◌∙◌, arith, inl, inr}
use Rattle.std.specs.Prelude.{◌==◌, ◌||◌, not}
use Rattle.std.specs.List.{position_or_len, prefix_len}
use Rattle.std.proofs.lemmas.Bool.{eqb-true, ltb-true, ltb-false}
use Rattle.std.specs.Str.{IsUtf8, IsCharBoundary}
use Rattle.std.proofs.lemmas.Str.{IsCharBoundary-after_ascii}
use Rattle.std.proofs.lemmas.List.{get_or-drop, get_or_past, length-drop}
use Rattle.std.proofs.lemmas.List.Sums.{prefix_len_passes}
use Rattle.text_parts.specs.Part.{Kind}
use Rattle.text_parts.specs.Kinds.{kind_of}
use Rattle.text_parts.specs.Stops.{is_any_of}
use Rattle.text_parts.proofs.Spans.{position_or_len_le}
use Rattle.text_parts.proofs.Utf8.{EndsLow, either}
use Rattle.line_proto.specs.Kinds.{name_part, key_part, tag_value_part, text_part, value_part}
use Rattle.line_proto.specs.declared.read_parts.TheConstants.{NAME, KEY, TAG_VALUE, TEXT}

pub value_low : EndsLow value_part
value_low b e =
    elim (either (eqb b 44) (eqb b 32) e) [
      | inl x ↦ omega (arith, eqb-true b 44 x)
      | inr y ↦ omega (arith, eqb-true b 32 y)
    ]

-- ---- the kinds of parts, as the code gives them

same_kind : (k j : Kind) → ((b : ℕ) → k.ends b ≡ j.ends b) → ((b : ℕ) → k.escapes b ≡ j.escapes b)
    → ((b : ℕ) → k.means b ≡ j.means b)
    → k ≡ j
same_kind k j ends escapes means = λ i. record {
  ends = λ b. ends b i;
  escapes = λ b. escapes b i;
  means = λ b. means b i;
}

-- a last test that was made before
once_more : (a b : Bool) → ((a || b) || b) ≡ (a || b)
once_more true b = refl
once_more false true = refl
once_more false false = refl

twice : (a : Bool) → ((a || a) || a) ≡ a
twice true = refl
twice false = refl

pub name_kind : kind_of NAME ≡ name_part
name_kind = same_kind (kind_of NAME) name_part (λ b. once_more (b == 44) (b == 32)) (λ b. once_more (b == 44) (b == 32))
    (λ b. refl)

pub key_kind : kind_of KEY ≡ key_part
key_kind = refl

pub tag_value_kind : kind_of TAG_VALUE ≡ tag_value_part
tag_value_kind = same_kind (kind_of TAG_VALUE) tag_value_part (λ b. once_more (b == 44) (b == 32)) (λ b. refl)
    (λ b. refl)

pub text_kind : kind_of TEXT ≡ text_part
text_kind = same_kind (kind_of TEXT) text_part (λ b. twice (b == 34)) (λ b. once_more (b == 34) (b == 92)) (λ b. refl)

-- ---- bytes that are looked for, as the code gives them

same_test : (p q : ℕ → Bool) → ((b : ℕ) → p b ≡ q b) → p ≡ q
same_test p q same = λ i. λ b. same b i

pub comma_or_space : is_any_of (44 ∷ 32 ∷ 32 ∷ 32 ∷ []) ≡ (λ b. b == 44 || b == 32)
comma_or_space = same_test _ _ (λ b. ap (λ (t : Bool). t || b == 32) (once_more (b == 44) (b == 32))
    ∙ once_more (b == 44) (b == 32))

pub space_alone : is_any_of (32 ∷ 32 ∷ 32 ∷ 32 ∷ []) ≡ (λ b. b == 32)
space_alone = same_test _ _ (λ b. ap (λ (t : Bool). t || b == 32) (twice (b == 32)) ∙ both_same (b == 32))
  where
    both_same : (t : Bool) → (t || t) ≡ t
    both_same true = refl
    both_same false = refl

not_not : (b : Bool) → not (not b) ≡ true → b ≡ true
not_not true e = refl
not_not false e = absurd cc

-- behind spaces a character ends
pub spaces_boundary : (piece : List ℕ) (i : ℕ) → IsUtf8 piece → IsCharBoundary piece i
    → IsCharBoundary piece (i + position_or_len (λ b. not (b == 32)) (drop i piece))
spaces_boundary piece i u at = by_len (position_or_len (λ b. not (b == 32)) (drop i piece)) refl
  where
    by_len : (n : ℕ) → position_or_len (λ b. not (b == 32)) (drop i piece) ≡ n → IsCharBoundary piece (i + n)
    by_len zero e = subst (IsCharBoundary piece) (sym (add-zero i)) at
    by_len (suc m) e =
        let low : m < prefix_len (λ b. not (not (b == 32))) (drop i piece) = omega (arith, e) in
        let space : get_or (drop i piece) m 0 ≡ 32 = eqb-true (get_or (drop i piece) m 0) 32
        (not_not (eqb (get_or (drop i piece) m 0) 32) (prefix_len_passes (λ b. not (not (b == 32)))
        (drop i piece) m 0 low)) in
        let there : get_or piece (i + m) 0 ≡ 32 = sym (get_or-drop i piece m 0) ∙ space in
        let within : i + m < length piece = omega (
          arith,
          position_or_len_le (λ b. not (b == 32)) (drop i piece),
          length-drop i piece,
          e,
        ) in
        subst (IsCharBoundary piece) (omega arith) (IsCharBoundary-after_ascii piece (i + m) u within (omega arith))

-- what is true of a text's bytes is true of the text
pub at_text : (text bytes : List ℕ) (i r : ℕ) → bytes ≡ text → IsUtf8 text → IsCharBoundary text i
    → (IsUtf8 bytes → IsCharBoundary bytes i → IsCharBoundary bytes r) → IsCharBoundary text r
at_text text bytes i r same u at h = subst (λ (l : List ℕ). IsCharBoundary l r) same
    (h (subst IsUtf8 (sym same) u) (subst (λ (l : List ℕ). IsCharBoundary l i) (sym same) at))

-- behind an ASCII byte a character ends
pub byte_boundary : (piece bytes : List ℕ) (at b : ℕ) → bytes ≡ piece → 0 < b → b < 128 → IsUtf8 piece
    → (get_or bytes at 0 == b) ≡ true → IsCharBoundary piece (at + 1)
byte_boundary piece bytes at b same some low u e =
    let is : get_or piece at 0 ≡ b = ap (λ (l : List ℕ). get_or l at 0) (sym same) ∙ eqb-true (get_or bytes at 0) b e in
    IsCharBoundary-after_ascii piece at u (within piece at (omega (arith, is))) (omega (arith, is))
  where
    within : (piece : List ℕ) (at : ℕ) → 0 < get_or piece at 0 → at < length piece
    within piece at some = elim (ltb at (length piece)) as (λ t. ltb at (length piece) ≡ t → at < length piece) [
      | true ↦ λ lt. ltb-true at (length piece) lt
      | false ↦ λ ge. absurd (omega (arith, get_or_past piece at 0 (ltb-false at (length piece) ge)))
    ] refl
