-- Text stays UTF-8 where it is cut at ASCII bytes, and without its escapes.
use Rattle.std.proofs.Common.{◌≡◌, ℕ, ◌+◌, ◌<◌, ◌≤◌, Bool, true, false, cond, eqb, List, [], ◌∷◌, ◌++◌, length, get_or}
use Rattle.std.proofs.Common.{take, drop, refl, sym, ap, subst, ◌∙◌, append_assoc, arith, add-zero, ◌⊎◌, inl, inr}
use Rattle.std.proofs.Common.{rules}
use Rattle.std.specs.Prelude.{◌&&◌, ◌||◌, ◌==◌, slice_index}
use Rattle.std.specs.Str.{IsUtf8, IsCharBoundary}
use Rattle.std.proofs.lemmas.Bool.{eqb-true}
use Rattle.std.proofs.lemmas.List.{take_at, drop_at, get_or_at, length-append, length-drop, drop-drop, get_or-drop}
use Rattle.std.proofs.lemmas.Str.{IsUtf8-append, IsUtf8-take, IsUtf8-drop, IsUtf8-encode, encode_ascii}
use Rattle.std.proofs.lemmas.Str.{IsCharBoundary-before_ascii, IsCharBoundary-after_ascii, IsCharBoundary-end}
use Rattle.text_parts.specs.Part.{Kind, plain, part_len}
use Rattle.text_parts.specs.Grammar.{Mark, Escaped, Bare, IsPart, Ends}
use Rattle.text_parts.specs.declared.part.Part.{Part}
use Rattle.text_parts.specs.Kinds.{kind_of, meaning_of, IsAsciiPart}
use Rattle.text_parts.proofs.MarkLemmas.{found}

-- what stands before a byte below 128 is UTF-8, and so is what stands behind it
pub around_ascii : (xs ys : List ℕ) (b : ℕ) → b < 128 → IsUtf8 (xs ++ b ∷ ys) → IsUtf8 xs × IsUtf8 ys
around_ascii xs ys b small u =
    let at : get_or (xs ++ b ∷ ys) (length xs) 0 ≡ b = get_or_at xs b ys 0 (length xs) refl in
    let low : get_or (xs ++ b ∷ ys) (length xs) 0 < 128 = omega arith in
    let within : length xs < length (xs ++ b ∷ ys) = omega (arith, length-append xs (b ∷ ys)) in
    let later : drop (length xs + 1) (xs ++ b ∷ ys) ≡ ys = sym (drop-drop 1 (length xs) (xs ++ b ∷ ys))
    ∙ ap (drop 1) (drop_at xs (b ∷ ys) (length xs) refl) in (
      subst IsUtf8 (take_at xs (b ∷ ys) (length xs) refl) (IsUtf8-take (xs ++ b ∷ ys) (length xs) u
          (IsCharBoundary-before_ascii (xs ++ b ∷ ys) (length xs) within low)),
      subst IsUtf8 later (IsUtf8-drop (xs ++ b ∷ ys) (length xs + 1) u
          (IsCharBoundary-after_ascii (xs ++ b ∷ ys) (length xs) u within low)),
    )

pub one_ascii : (c : ℕ) → c < 128 → IsUtf8 (c ∷ [])
one_ascii c low = subst IsUtf8 (encode_ascii c low) (IsUtf8-encode c (search rules))

-- a byte below 128 in front of a text
pub first_ascii : (c : ℕ) (text : List ℕ) → c < 128 → IsUtf8 text → IsUtf8 (c ∷ text)
first_ascii c text low u = IsUtf8-append (c ∷ []) text (one_ascii c low) u

-- a byte below 128 can be left out
pub without_ascii : (xs ys : List ℕ) (b : ℕ) → b < 128 → IsUtf8 (xs ++ b ∷ ys) → IsUtf8 (xs ++ ys)
without_ascii xs ys b small u = let around = around_ascii xs ys b small u in IsUtf8-append xs ys around.0 around.1

-- a byte below 128 can become another
other_ascii : (xs ys : List ℕ) (b c : ℕ) → b < 128 → c < 128 → IsUtf8 (xs ++ b ∷ ys) → IsUtf8 (xs ++ c ∷ ys)
other_ascii xs ys b c small low u =
    let around = around_ascii xs ys b small u in
    IsUtf8-append xs (c ∷ ys) around.0 (first_ascii c ys low around.1)

-- all that ends such a part or is hidden in it is ASCII, and so is what it means
pub record IsAsciiKind (k : Kind) : Type 0 where
  pub ends : (b : ℕ) → k.ends b ≡ true → b < 128
  pub escapes : (b : ℕ) → k.escapes b ≡ true → b < 128
  pub means : (b : ℕ) → b < 128 → k.means b < 128

both_true : (a b : Bool) → (a && b) ≡ true → (a ≡ true) × (b ≡ true)
both_true true b e = (refl, e)
both_true false b e = absurd cc

one_more : (front : List ℕ) (c : ℕ) (rest : List ℕ) → IsUtf8 ((front ++ c ∷ []) ++ rest) → IsUtf8 (front ++ c ∷ rest)
one_more front c rest u = subst IsUtf8 (append_assoc front (c ∷ []) rest) u

one_out : (front : List ℕ) (c : ℕ) (rest : List ℕ) → IsUtf8 (front ++ c ∷ rest) → IsUtf8 ((front ++ c ∷ []) ++ rest)
one_out front c rest u = subst IsUtf8 (sym (append_assoc front (c ∷ []) rest)) u

-- an escape becomes what it means
unescaped : (k : Kind) → IsAsciiKind k → (front : List ℕ) (b c : ℕ) (bs : List ℕ) → (b == 92 && k.escapes c) ≡ true
    → IsUtf8 (front ++ b ∷ c ∷ bs) → IsUtf8 (front ++ k.means c ∷ bs)
unescaped k low front b c bs e u =
    let both = both_true (b == 92) (k.escapes c) e in
    let is : b ≡ 92 = eqb-true b 92 both.0 in
    let small : c < 128 = low.escapes c both.1 in
    other_ascii front bs c (k.means c) small (low.means c small) (without_ascii front (c ∷ bs) b (omega arith) u)

plain_more : (k : Kind) → IsAsciiKind k → (front bs : List ℕ) → IsUtf8 (front ++ bs) → IsUtf8 (front ++ plain k bs)
unfolding plain
plain_more k low front [] u = u
plain_more k low front (b ∷ []) u = u
plain_more k low front (b ∷ c ∷ bs) u =
    elim (b == 92 && k.escapes c) as (λ t. (b == 92 && k.escapes c) ≡ t
    → IsUtf8 (front ++ cond t (k.means c ∷ plain k bs) (b ∷ plain k (c ∷ bs)))) [
      | true ↦ λ e. one_more front (k.means c) (plain k bs) (plain_more k low (front ++ k.means c ∷ []) bs
          (one_out front (k.means c) bs (unescaped k low front b c bs e u)))
      | false ↦ λ e. one_more front b (plain k (c ∷ bs)) (plain_more k low (front ++ b ∷ []) (c ∷ bs)
          (one_out front b (c ∷ bs) u))
    ] refl

-- UTF-8 without its escapes is UTF-8
pub plain-IsUtf8 : (k : Kind) → IsAsciiKind k → (bs : List ℕ) → IsUtf8 bs → IsUtf8 (plain k bs)
plain-IsUtf8 k low bs u = plain_more k low [] bs u

-- ---- where a part ends a character ends

ends_after : (k : Kind) (marks : List Mark) (rest : List ℕ) → IsPart k marks rest → Ends k rest
ends_after k [] rest h = h
ends_after k (Escaped c ∷ marks) rest h = ends_after k marks rest h.1
ends_after k (Bare b ∷ marks) rest h = ends_after k marks rest h.2

-- the bytes that end such a part are ASCII
abbrev pub EndsLow : Kind → Type 0
EndsLow k = (b : ℕ) → k.ends b ≡ true → b < 128

boundary_before : (k : Kind) → EndsLow k → (bs rest : List ℕ) (n : ℕ) → n ≤ length bs → drop n bs ≡ rest → Ends k rest
    → IsCharBoundary bs n
boundary_before k low bs [] n le e h = let all : n ≡ length bs = omega (arith, length-drop n bs, ap length e) in
    subst (IsCharBoundary bs) (sym all) (IsCharBoundary-end bs)
boundary_before k low bs (b ∷ rest) n le e h =
    let within : n < length bs = omega (arith, length-drop n bs, ap length e) in
    let at : get_or bs n 0 ≡ b = let same = ap (λ (l : List ℕ). get_or l 0 0) e in
    sym (get_or-drop n bs 0 0 ∙ rw add-zero refl) ∙ same in
    let small : b < 128 = low b h.0 in
    IsCharBoundary-before_ascii bs n within (omega arith)

-- the part that begins a text ends where a character ends
pub part-IsCharBoundary : (k : Kind) → EndsLow k → (bs : List ℕ) → part_len k bs ≤ length bs
    → IsCharBoundary bs (part_len k bs)
part-IsCharBoundary k low bs le = let f = found k bs in boundary_before k low bs (drop (part_len k bs) bs)
    (part_len k bs) le refl (ends_after k f.marks _ f.part)

-- the part that begins at an offset of a text ends where a character ends
pub part-IsCharBoundary_at : (k : Kind) → EndsLow k → (bs : List ℕ) (i : ℕ) → i ≤ length bs
    → part_len k (drop i bs) ≤ length (drop i bs) → IsCharBoundary bs (i + part_len k (drop i bs))
part-IsCharBoundary_at k low bs i within le =
    let f = found k (drop i bs) in
    boundary_before k low bs (drop (part_len k (drop i bs)) (drop i bs)) (i + part_len k (drop i bs))
    (omega (arith, length-drop i bs)) (sym (drop-drop (part_len k (drop i bs)) i bs)) (ends_after k f.marks _ f.part)

-- the text of a part is UTF-8
pub part-IsUtf8 : (k : Kind) → IsAsciiKind k → (bs : List ℕ) (i : ℕ) → IsUtf8 bs → IsCharBoundary bs i
    → part_len k (drop i bs) ≤ length (drop i bs) → IsUtf8 (plain k (take (part_len k (drop i bs)) (drop i bs)))
part-IsUtf8 k low bs i u at le =
    plain-IsUtf8 k low _ (IsUtf8-take (drop i bs) (part_len k (drop i bs)) (IsUtf8-drop bs i u at)
    (part-IsCharBoundary k low.ends (drop i bs) le))

-- one of two tests is true
pub either : (a b : Bool) → (a || b) ≡ true → (a ≡ true) ⊎ (b ≡ true)
either true b e = inl refl
either false b e = inr e

one_of : (b x y z : ℕ) → x < 128 → y < 128 → z < 128 → (eqb b x || eqb b y || eqb b z) ≡ true → b < 128
one_of b x y z lx ly lz e = elim (either (eqb b x || eqb b y) (eqb b z) e) [
  | inl xy ↦ elim (either (eqb b x) (eqb b y) xy) [
    | inl w ↦ omega (arith, eqb-true b x w)
    | inr w ↦ omega (arith, eqb-true b y w)
  ]
  | inr w ↦ omega (arith, eqb-true b z w)
]

meaning_low : (p : Part) (b : ℕ) → b < 128 → meaning_of p b < 128
meaning_low p b low = elim (p.newlines && b == 110) as (λ t. cond t 10 b < 128) [ true ↦ omega arith | false ↦ low ]

pub ascii_kind : (p : Part) → IsAsciiPart p → IsAsciiKind (kind_of p)
ascii_kind p low = record {
  ends = λ b e. one_of b (slice_index p.ends 0) (slice_index p.ends 1) (slice_index p.ends 2) low.end_0 low.end_1
      low.end_2 e;
  escapes = λ b e. one_of b (slice_index p.escapes 0) (slice_index p.escapes 1)
      (slice_index p.escapes 2) low.escape_0 low.escape_1 low.escape_2 e;
  means = meaning_low p;
}
