-- One step over a part.
use Rattle.std.proofs.Common.{◌≡◌, ℕ, ◌+◌, ◌<◌, ◌≤◌, true, false, List, [], ◌∷◌, ◌++◌, length, get_or, drop, refl, sym}
use Rattle.std.proofs.Common.{ap, ◌∙◌, append_assoc, add-zero, arith}
use Rattle.std.proofs.lemmas.List.{drop-drop, length-drop, get_or-drop, drop_all}
use Rattle.text_parts.specs.Part.{Kind, part_len, plain, is_escape}

escape_len : (k : Kind) (bs : List ℕ) → is_escape k bs ≡ true → 2 ≤ length bs
escape_len k [] h = absurd cc
escape_len k (b ∷ []) h = absurd cc
escape_len k (b ∷ c ∷ bs) h = omega arith

part_len-escape : (k : Kind) (bs : List ℕ) → is_escape k bs ≡ true → part_len k bs ≡ 2 + part_len k (drop 2 bs)
unfolding part_len
part_len-escape k [] h = absurd cc
part_len-escape k (b ∷ []) h = absurd cc
part_len-escape k (b ∷ c ∷ bs) h = rw h refl

part_len-end : (k : Kind) (bs : List ℕ) → is_escape k bs ≡ false → 0 < length bs → k.ends (get_or bs 0 0) ≡ true
    → part_len k bs ≡ 0
unfolding part_len
part_len-end k [] h some e = refl
part_len-end k (b ∷ []) h some e = rw e refl
part_len-end k (b ∷ c ∷ bs) h some e = rw (h, e) refl

part_len-more : (k : Kind) (bs : List ℕ) → is_escape k bs ≡ false → 0 < length bs → k.ends (get_or bs 0 0) ≡ false
    → part_len k bs ≡ 1 + part_len k (drop 1 bs)
unfolding part_len
part_len-more k [] h some e = absurd (omega arith)
part_len-more k (b ∷ []) h some e = rw e refl
part_len-more k (b ∷ c ∷ bs) h some e = rw (h, e) refl

plain-escape : (k : Kind) (bs : List ℕ) → is_escape k bs ≡ true
    → plain k bs ≡ k.means (get_or bs 1 0) ∷ plain k (drop 2 bs)
unfolding plain
plain-escape k [] h = absurd cc
plain-escape k (b ∷ []) h = absurd cc
plain-escape k (b ∷ c ∷ bs) h = rw h refl

plain-more : (k : Kind) (bs : List ℕ) → is_escape k bs ≡ false → 0 < length bs
    → plain k bs ≡ get_or bs 0 0 ∷ plain k (drop 1 bs)
unfolding plain
plain-more k [] h some = absurd (omega arith)
plain-more k (b ∷ []) h some = refl
plain-more k (b ∷ c ∷ bs) h some = rw h refl

-- ---- the same at an offset

pub escape_at : (k : Kind) (bs : List ℕ) (i : ℕ) → is_escape k (drop i bs) ≡ true
    → (i + 2 ≤ length bs) × (part_len k (drop i bs) ≡ 2 + part_len k (drop (i + 2) bs))
escape_at k bs i h = (
  omega (arith, escape_len k (drop i bs) h, length-drop i bs),
  part_len-escape k (drop i bs) h
      ∙ rw drop-drop refl,
)

pub end_at : (k : Kind) (bs : List ℕ) (i : ℕ) → is_escape k (drop i bs) ≡ false → i < length bs
    → k.ends (get_or bs i 0) ≡ true → part_len k (drop i bs) ≡ 0
end_at k bs i h lt e = part_len-end k (drop i bs) h (omega (arith, length-drop i bs)) (rw (get_or-drop, add-zero) e)

pub more_at : (k : Kind) (bs : List ℕ) (i : ℕ) → is_escape k (drop i bs) ≡ false → i < length bs
    → k.ends (get_or bs i 0) ≡ false → part_len k (drop i bs) ≡ 1 + part_len k (drop (i + 1) bs)
more_at k bs i h lt e = part_len-more k (drop i bs) h (omega (arith, length-drop i bs)) (rw (get_or-drop, add-zero) e)
    ∙ rw drop-drop refl

pub all_read : (k : Kind) (bs : List ℕ) (i : ℕ) → length bs ≤ i → part_len k (drop i bs) ≡ 0
unfolding part_len
all_read k bs i le = rw (drop_all i bs le) refl

pub plain_escape_at : (k : Kind) (bs : List ℕ) (i : ℕ) → is_escape k (drop i bs) ≡ true
    → plain k (drop i bs) ≡ k.means (get_or bs (i + 1) 0) ∷ plain k (drop (i + 2) bs)
plain_escape_at k bs i h = plain-escape k (drop i bs) h ∙ rw (drop-drop, get_or-drop) refl

pub plain_more_at : (k : Kind) (bs : List ℕ) (i : ℕ) → is_escape k (drop i bs) ≡ false → i < length bs
    → plain k (drop i bs) ≡ get_or bs i 0 ∷ plain k (drop (i + 1) bs)
plain_more_at k bs i h lt = plain-more k (drop i bs) h (omega (arith, length-drop i bs))
    ∙ rw (drop-drop, get_or-drop, add-zero) refl

pub all_plain : (k : Kind) (bs : List ℕ) (i : ℕ) → length bs ≤ i → plain k (drop i bs) ≡ []
unfolding plain
all_plain k bs i le = rw (drop_all i bs le) refl

pub pushed_plain : (k : Kind) (old new : List ℕ) (b : ℕ) (before after whole : List ℕ) → new ≡ old ++ b ∷ []
    → plain k before ≡ b ∷ plain k after → old ++ plain k before ≡ whole → new ++ plain k after ≡ whole
pushed_plain k old new b before after whole pushed step so_far =
    rw (pushed, append_assoc) (ap (λ (r : List ℕ). old ++ r) (sym step) ∙ so_far)
