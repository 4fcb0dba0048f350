-- An escaped text is a part that means the text.
use Rattle.std.proofs.Common.{◌≡◌, ◌≤◌, ℕ, true, false, not, cond, List, [], ◌∷◌, ◌++◌, length, take, get_or, refl, sym}
use Rattle.std.proofs.Common.{ap, subst, ◌∙◌, inl, inr, arith}
use Rattle.std.specs.Prelude.{◌==◌, ◌||◌, ◌⊎◌}
use Rattle.std.specs.List.{list_all, flat_map}
use Rattle.std.proofs.lemmas.Bool.{eqb-true, eq-eqb, and_parts, not-true}
use Rattle.std.proofs.lemmas.Grind.{common_steps}
use Rattle.text_parts.specs.Part.{Kind, is_escape}
use Rattle.text_parts.specs.Grammar.{Mark, Escaped, Bare, spelled, meant, Ends, IsPart}
use Rattle.text_parts.specs.declared.escapes.Marks.{Marks}
use Rattle.text_parts.specs.Marks.{is_mark_of, written_of}
use Rattle.text_parts.specs.Escaped.{Escapes, escaped_byte, escaped, IsNotIn, NoBackslashEnd, HidesMarks, Suits}

-- what the bytes of an escaped text are
abbrev pub marks_for : Escapes → List ℕ → List Mark
marks_for e [] = []
marks_for e (b ∷ bs) = cond (e.is_mark b) (Escaped (e.written b)) (Bare b) ∷ marks_for e bs

one_mark : (e : Escapes) (b : ℕ) (us : List Mark)
    → spelled (cond (e.is_mark b) (Escaped (e.written b)) (Bare b) ∷ us) ≡ escaped_byte e b ++ spelled us
one_mark e b us =
    elim (e.is_mark b) as (λ t. spelled (cond t (Escaped (e.written b)) (Bare b) ∷ us) ≡ cond t (92 ∷ e.written b ∷ [])
    (b ∷ []) ++ spelled us)
    [ true ↦ refl | false ↦ refl ]

spelled_is : (e : Escapes) (text : List ℕ) → escaped e text ≡ spelled (marks_for e text)
unfolding escaped
spelled_is e [] = refl
spelled_is e (b ∷ bs) = ap (λ (t : List ℕ). escaped_byte e b ++ t) (spelled_is e bs)
    ∙ sym (one_mark e b (marks_for e bs))

means_text : (k : Kind) (e : Escapes) → ((b : ℕ) → e.is_mark b ≡ true → k.means (e.written b) ≡ b) → (text : List ℕ)
    → meant k (marks_for e text) ≡ text
means_text k e means [] = refl
means_text k e means (b ∷ bs) =
    elim (e.is_mark b) as (λ t. e.is_mark b ≡ t → meant k (cond t (Escaped (e.written b)) (Bare b) ∷ marks_for e bs) ≡ b
    ∷ bs) [
      | true ↦ λ is. rw (means b is) (ap (λ (t : List ℕ). b ∷ t) (means_text k e means bs))
      | false ↦ λ is. ap (λ (t : List ℕ). b ∷ t) (means_text k e means bs)
    ] refl

-- the backslash is a mark; or the kind hides nothing but marks, and the text ends with no backslash
abbrev Closes : Kind → Escapes → List ℕ → Type 0
Closes k e text = (e.is_mark 92 ≡ true) ⊎ (HidesMarks k e × NoBackslashEnd text)

true_false : true ≡ false → ⊥
true_false e = cc

no_escape : (k : Kind) (b : ℕ) (rest : List ℕ) → (b == 92) ≡ false → is_escape k (b ∷ rest) ≡ false
no_escape k b [] e = refl
no_escape k b (c ∷ rest) e = rw e refl

-- behind a backslash that is no mark stands no byte that is hidden
backslash_alone : (k : Kind) (e : Escapes) → e.is_mark 92 ≡ false → HidesMarks k e → (c : ℕ) (bs rest : List ℕ)
    → is_escape k (92 ∷ (spelled (marks_for e (c ∷ bs)) ++ rest)) ≡ false
backslash_alone k e none only c bs rest =
    elim (e.is_mark c) as (λ t. e.is_mark c ≡ t → is_escape k
    (92 ∷ (spelled (cond t (Escaped (e.written c)) (Bare c) ∷ marks_for e bs) ++ rest)) ≡ false) [
      | true ↦ λ is. only 92 none
      | false ↦ λ is. only c is
    ] refl

bare_stands : (k : Kind) (e : Escapes) (b : ℕ) (bs rest : List ℕ) → e.is_mark b ≡ false → Closes k e (b ∷ bs)
    → is_escape k (b ∷ (spelled (marks_for e bs) ++ rest)) ≡ false
bare_stands k e b bs rest none closes =
    elim (b == 92) as (λ t. (b == 92) ≡ t → is_escape k (b ∷ (spelled (marks_for e bs) ++ rest)) ≡ false) [
      | true ↦ λ test.
          let is : b ≡ 92 = eqb-true b 92 test in
          alone is bs (subst (λ (x : ℕ). e.is_mark x ≡ false) is none)
          (subst (λ (x : ℕ). Closes k e (x ∷ bs)) is closes)
      | false ↦ λ test. no_escape k b (spelled (marks_for e bs) ++ rest) test
    ] refl
  where
    alone : b ≡ 92 → (bs : List ℕ) → e.is_mark 92 ≡ false → Closes k e (92 ∷ bs)
        → is_escape k (b ∷ (spelled (marks_for e bs) ++ rest)) ≡ false
    alone is bs none (inl mark) = absurd (true_false (sym mark ∙ none))
    alone is [] none (inr only) = absurd (true_false only.1)
    alone is (c ∷ bs) none (inr only) = rw is (backslash_alone k e none only.0 c bs rest)

closes_behind : (k : Kind) (e : Escapes) (b : ℕ) (bs : List ℕ) → Closes k e (b ∷ bs) → Closes k e bs
closes_behind k e b bs (inl mark) = inl mark
closes_behind k e b [] (inr only) = inr (only.0, tt)
closes_behind k e b (c ∷ bs) (inr only) = inr only

-- a byte that is no mark and stands in the text is no end
bare_no_end : (k : Kind) (e : Escapes) (b : ℕ) (bs : List ℕ) → e.is_mark b ≡ false
    → (k.ends b ≡ true → (e.is_mark b ≡ true) ⊎ IsNotIn b (b ∷ bs))
    → k.ends b ≡ false
bare_no_end k e b bs none ends = elim (k.ends b) as (λ t. k.ends b ≡ t → t ≡ false) [
  | true ↦ λ is. elim (ends is) [
    | inl mark ↦ absurd (true_false (sym mark ∙ none))
    | inr out ↦ absurd (true_false (sym (eq-eqb b b refl) ∙ out.0))
  ]
  | false ↦ λ is. refl
] refl

ends_behind : (e : Escapes) (c b : ℕ) (bs : List ℕ) → (e.is_mark c ≡ true) ⊎ IsNotIn c (b ∷ bs)
    → (e.is_mark c ≡ true) ⊎ IsNotIn c bs
ends_behind e c b bs (inl mark) = inl mark
ends_behind e c b bs (inr out) = inr out.1

suits_behind : (k : Kind) (e : Escapes) (b : ℕ) (bs : List ℕ) → Suits k e (b ∷ bs) → Suits k e bs
suits_behind k e b bs s = record {
  hides = s.hides;
  means = s.means;
  ends = λ c is. ends_behind e c b bs (s.ends c is);
  closes = closes_behind k e b bs s.closes;
}

part_of : (k : Kind) (e : Escapes) (text rest : List ℕ) → Suits k e text → Ends k rest
    → IsPart k (marks_for e text) rest
part_of k e [] rest s ends = ends
part_of k e (b ∷ bs) rest s ends =
    let behind = part_of k e bs rest (suits_behind k e b bs s) ends in
    elim (e.is_mark b) as (λ t. e.is_mark b ≡ t → IsPart k (cond t (Escaped (e.written b)) (Bare b) ∷ marks_for e bs)
    rest) [
      | true ↦ λ is. (s.hides b is, behind)
      | false ↦ λ is. (bare_no_end k e b bs is (s.ends b), bare_stands k e b bs rest is s.closes, behind)
    ] refl

pub escaped_is_part : (k : Kind) (e : Escapes) (text rest : List ℕ) → Suits k e text → Ends k rest
    → (marks : List Mark) × (escaped e text ≡ spelled marks) × IsPart k marks rest × (meant k marks ≡ text)
escaped_is_part k e text rest s ends = (
  marks_for e text,
  spelled_is e text,
  part_of k e text rest s ends,
  means_text k e s.means text,
)

-- ---- writing

-- a text without marks is written as it is
pub unmarked_text : (e : Escapes) (text : List ℕ) → list_all (λ b. not (e.is_mark b)) text ≡ true
    → escaped e text ≡ text
unfolding escaped
unmarked_text e [] h = refl
unmarked_text e (b ∷ bs) h =
    let parts = and_parts (not (e.is_mark b)) (list_all (λ c. not (e.is_mark c)) bs) h in
    let none : e.is_mark b ≡ false = not-true _ parts.0 in
    rw none (ap (λ (rest : List ℕ). b ∷ rest) (unmarked_text e bs parts.1))

-- all bytes were written
pub all_written : (out old : List ℕ) (e : Escapes) (text : List ℕ) (i : ℕ) → length text ≤ i
    → out ≡ old ++ flat_map (escaped_byte e) (take i text)
    → out ≡ old ++ escaped e text
unfolding escaped
all_written out old e text i end h =
    let all : take i text ≡ text = grind (arith, common_steps) in
    h ∙ ap (λ bytes. old ++ flat_map (escaped_byte e) bytes) all

-- texts are written alike by escapes of the same marks, where each is written alike
pub escaped-same : (d e : Escapes) → ((b : ℕ) → d.is_mark b ≡ e.is_mark b)
    → ((b : ℕ) → e.is_mark b ≡ true → d.written b ≡ e.written b) → (text : List ℕ)
    → escaped d text ≡ escaped e text
unfolding escaped
escaped-same d e marks written [] = refl
escaped-same d e marks written (b ∷ bs) =
    rw (byte, escaped-same d e marks written bs) refl
  where
    byte : escaped_byte d b ≡ escaped_byte e b
    byte = elim (e.is_mark b) as (λ t. e.is_mark b ≡ t → escaped_byte d b ≡ cond t (92 ∷ e.written b ∷ []) (b ∷ [])) [
      | true ↦ λ is. rw (marks b, is, written b is) refl
      | false ↦ λ is. rw (marks b, is) refl
    ] refl

written_one : (b x y z : ℕ) → ((b == x || b == y) || b == z) ≡ true → cond (b == x) x (cond (b == y) y z) ≡ b
written_one b x y z h =
    elim (b == x) as (λ t. (b == x) ≡ t → ((t || b == y) || b == z) ≡ true → cond t x (cond (b == y) y z) ≡ b) [
      | true ↦ λ e g. sym (eqb-true b x e)
      | false ↦ λ e g. elim (b == y) as (λ s. (b == y) ≡ s → (s || b == z) ≡ true → cond s y z ≡ b) [
        | true ↦ λ f k. sym (eqb-true b y f)
        | false ↦ λ f k. sym (eqb-true b z k)
      ] refl g
    ] refl h

-- marks that are written as they are
pub written_as_it_is : (m : Marks) → m.written ≡ m.bytes → (b : ℕ) → is_mark_of m b ≡ true → written_of m b ≡ b
written_as_it_is m same b is = rw same (written_one b (get_or m.bytes 0 0) (get_or m.bytes 1 0) (get_or m.bytes 2 0) is)
