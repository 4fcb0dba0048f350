-- What stands at an offset of a piece, up to its end.
use Rattle.std.proofs.Common.{◌≡◌, ℕ, ◌+◌, ◌<◌, false, List, [], ◌∷◌, ◌++◌, length, get_or, take, drop, Result, Ok}
use Rattle.std.proofs.Common.{refl, sym, ap, ◌∙◌, add-zero, arith}
use Rattle.std.specs.Prelude.{◌==◌}
use Rattle.std.proofs.lemmas.Bool.{ne_eqb}
use Rattle.std.proofs.lemmas.List.{take_at, drop_at, drop-drop, get_or-drop, length-append}
use Rattle.text_parts.specs.Part.{Kind, part_len, len_at, text_at, plain}
use Rattle.text_parts.specs.Grammar.{Mark, spelled, meant, IsPart}
use Rattle.text_parts.proofs.MarkLemmas.{part_is_read}

pub record At (piece : List ℕ) (i : ℕ) (text : List ℕ) : Type 0 where
  pub is : drop i piece ≡ text
  pub within : i + length text ≡ length piece

pub at_start : (piece : List ℕ) → At piece 0 piece
at_start piece = record { is = refl; within = omega arith }

pub step : (piece : List ℕ) (i : ℕ) (w rest : List ℕ) → At piece i (w ++ rest) → At piece (i + length w) rest
step piece i w rest at = record {
  is = sym (drop-drop (length w) i piece) ∙ ap (drop (length w)) at.is ∙ drop_at w rest (length w) refl;
  within = omega (arith, at.within, length-append w rest);
}

pub over : (piece : List ℕ) (i b : ℕ) (rest : List ℕ) → At piece i (b ∷ rest) → At piece (i + 1) rest
over piece i b rest at = step piece i (b ∷ []) rest at

pub at_byte : (piece : List ℕ) (i : ℕ) (text : List ℕ) → At piece i text → get_or piece i 0 ≡ get_or text 0 0
at_byte piece i text at = sym (get_or-drop i piece 0 0 ∙ rw add-zero refl) ∙ ap (λ (l : List ℕ). get_or l 0 0) at.is

-- a part is read up to its end, as what it means
pub part_takes : (k : Kind) (piece : List ℕ) (i : ℕ) (w rest : List ℕ) (marks : List Mark) → At piece i (w ++ rest)
    → w ≡ spelled marks → IsPart k marks rest → (len_at k piece i ≡ length w) × (text_at k piece i ≡ meant k marks)
part_takes k piece i w rest marks at is part =
    let read = part_is_read k marks rest part in
    let here : drop i piece ≡ spelled marks ++ rest = at.is ∙ ap (λ (t : List ℕ). t ++ rest) is in
    let len : part_len k (drop i piece) ≡ length (spelled marks) = ap (part_len k) here ∙ read.0 in
    let cut : take (part_len k (drop i piece)) (drop i piece) ≡ spelled marks =
    ap (λ (n : ℕ). take n (drop i piece)) len ∙ ap (take (length (spelled marks))) here
    ∙ take_at (spelled marks) rest (length (spelled marks)) refl in
    (len ∙ ap length (sym is), ap (plain k) cut ∙ read.1)

pub not_none : (w : List ℕ) → 0 < length w → (length w == 0) ≡ false
not_none w some = ne_eqb _ _ (λ e. absurd (omega arith))

-- what was read, and that the rest stands behind it
abbrev pub Took : {F A : Type 0} → Result (A × ℕ) F → List ℕ → List ℕ → A → Type 0
Took reading piece rest x = (behind : ℕ) × (reading ≡ Ok (x, behind)) × At piece behind rest
