-- What stands between two offsets of a piece.
use Rattle.std.proofs.Common.{◌≡◌, ℕ, suc, ◌+◌, ◌<◌, ◌≤◌, true, false, ltb, List, [], ◌∷◌, ◌++◌, length, get_or, take}
use Rattle.std.proofs.Common.{drop, refl, sym, ap, subst, ◌∙◌, append_assoc, drop-cons, add-one, arith}
use Rattle.std.proofs.lemmas.Bool.{ltb-true, ltb-false}
use Rattle.std.proofs.lemmas.List.{take_at, drop-drop, get_or_past, length-append, length-drop, take-append-drop}
use Rattle.text_parts.specs.Part.{Kind, part_len, len_at, text_at, plain}
use Rattle.text_parts.specs.Grammar.{Mark, spelled, meant, IsPart}
use Rattle.text_parts.proofs.MarkLemmas.{found, part_is_read}

-- the text stands between two offsets
pub record Spans (piece : List ℕ) (i j : ℕ) (text : List ℕ) : Type 0 where
  pub is : drop i piece ≡ text ++ drop j piece
  pub more : i ≤ j
  pub within : j ≤ length piece

pub joins : (piece : List ℕ) (i j k : ℕ) (a b : List ℕ) → Spans piece i j a → Spans piece j k b
    → Spans piece i k (a ++ b)
joins piece i j k a b x y = record {
  is = x.is ∙ ap (λ (t : List ℕ). a ++ t) y.is
      ∙ sym (append_assoc a b (drop k piece));
  more = omega (arith, x.more, y.more);
  within = y.within;
}

pub none_spans : (piece : List ℕ) (i : ℕ) → i ≤ length piece → Spans piece i i []
none_spans piece i le = record { is = refl; more = omega arith; within = le }

pub byte_at : (piece : List ℕ) (m b : ℕ) → 0 < b → get_or piece m 0 ≡ b → drop m piece ≡ b ∷ drop (m + 1) piece
byte_at piece m b some e =
    let within : m < length piece = is_within piece m (omega arith) in
    rw add-one (drop-cons piece m 0 within ∙ ap (λ (x : ℕ). x ∷ drop (suc m) piece) e)
  where
    is_within : (piece : List ℕ) (m : ℕ) → 0 < get_or piece m 0 → m < length piece
    is_within piece m some = elim (ltb m (length piece)) as (λ t. ltb m (length piece) ≡ t → m < length piece) [
      | true ↦ λ lt. ltb-true m (length piece) lt
      | false ↦ λ ge. absurd (omega (arith, get_or_past piece m 0 (ltb-false m (length piece) ge)))
    ] refl

pub byte_spans : (piece : List ℕ) (m b : ℕ) → 0 < b → get_or piece m 0 ≡ b → Spans piece m (m + 1) (b ∷ [])
byte_spans piece m b some e =
    let is = byte_at piece m b some e in
    record {
      is = is;
      more = omega arith;
      within = omega (
        arith,
        ap length is,
        length-drop m piece,
        length-drop (m + 1) piece,
      );
    }

pub front_spans : (piece : List ℕ) (i n : ℕ) → i + n ≤ length piece → Spans piece i (i + n) (take n (drop i piece))
front_spans piece i n within = record {
  is = sym (take-append-drop n (drop i piece))
      ∙ ap (λ (t : List ℕ). take n (drop i piece) ++ t) (drop-drop n i piece);
  more = omega arith;
  within = within;
}

-- a part that is read stands there as marks
pub record Parted (k : Kind) (piece : List ℕ) (i : ℕ) : Type 0 where
  pub marks : List Mark
  pub len : len_at k piece i ≡ length (spelled marks)
  pub means : text_at k piece i ≡ meant k marks
  pub part : IsPart k marks (drop (i + length (spelled marks)) piece)
  pub spans : Spans piece i (i + length (spelled marks)) (spelled marks)

pub part_again : (k : Kind) (piece : List ℕ) (i : ℕ) → i ≤ length piece → Parted k piece i
part_again k piece i le =
    let f = found k (drop i piece) in
    let read = part_is_read k f.marks (drop (part_len k (drop i piece)) (drop i piece)) f.part in
    let len : part_len k (drop i piece) ≡ length (spelled f.marks) = ap (part_len k) f.text ∙ read.0 in
    let rest : drop (i + length (spelled f.marks)) piece ≡ drop (part_len k (drop i piece)) (drop i piece) =
    ap (λ (m : ℕ). drop (i + m) piece) (sym len) ∙ sym (drop-drop (part_len k (drop i piece)) i piece) in
    let cut : take (part_len k (drop i piece)) (drop i piece) ≡ spelled f.marks =
    ap (λ (m : ℕ). take m (drop i piece)) len ∙ ap (take (length (spelled f.marks))) f.text
    ∙ take_at (spelled f.marks) _ (length (spelled f.marks)) refl in
    let whole : length (drop i piece) ≡ length (spelled f.marks) + length
    (drop (part_len k (drop i piece)) (drop i piece)) =
    ap length f.text ∙ length-append (spelled f.marks) (drop (part_len k (drop i piece)) (drop i piece)) in
    record {
      marks = f.marks;
      len = len;
      means = ap (plain k) cut ∙ read.1;
      part = subst (IsPart k f.marks) (sym rest) f.part;
      spans = record {
        is = f.text ∙ ap (λ (t : List ℕ). spelled f.marks ++ t) (sym rest);
        more = omega arith;
        within = omega (arith, whole, length-drop i piece);
      };
    }
