-- What stands in a line, by what it was read as.
use Rattle.std.proofs.Common.{◌≡◌, ℕ, ℤ, ◌<◌, ◌^◌, Bool, true, List, [], ◌∷◌, Option, Some, refl, sym, ap, ◌∙◌}
use Rattle.std.specs.Prelude.{FitsSigned}
use Rattle.std.specs.Int.{w64}
use Rattle.std.specs.Fmt.{decimal, signed_decimal}
use Rattle.std.specs.List.{join_with_byte}
use Rattle.std.specs.Str.{bytes_eq}
use Rattle.text_parts.specs.Bytes.{space}
use Rattle.text_parts.proofs.Splits.{split_are_joined}
use Rattle.journal_reader.specs.Words.{Parts, taken, behind, is_none_left, at_end, number, small_number}
use Rattle.journal_reader.specs.Words.{signed_number, either_of, words_of}
use Rattle.journal_reader.specs.SetupReading.{numbered_in}
use Rattle.journal_reader.proofs.WordLemmas.{bind_some, held, same_some, are_bytes, number_is, small_is, signed_is}
use Rattle.journal_reader.proofs.WordLemmas.{either_text, either_is}
use Rattle.journal_reader.proofs.Holding.{Holds, one_answer, where_answer}

-- the same word before the same words
pub more : (word : List ℕ) (a b : Parts) → a ≡ b → word ∷ a ≡ word ∷ b
more word a b e = ap (λ (ws : Parts). word ∷ ws) e

-- a word before the same words
pub same_first : (a b : List ℕ) (words : Parts) → a ≡ b → a ∷ words ≡ b ∷ words
same_first a b words e = ap (λ (w : List ℕ). w ∷ words) e

-- a line is its words with a space between two of them
pub line_is : (line : List ℕ) (words : Parts) → words_of line ≡ words → line ≡ join_with_byte space words
line_is line words e = sym (split_are_joined space line).0 ∙ ap (join_with_byte space) e

-- what was taken of words
pub record Took {A : Type 0} (says : List ℕ → Option A) (words : Parts) (x : A × Parts) : Type 0 where
  pub word : List ℕ
  pub is : words ≡ word ∷ x.1
  pub said : says word ≡ Some x.0

pub taken_some : {A : Type 0} (says : List ℕ → Option A) (words : Parts) (x : A × Parts) → taken says words ≡ Some x
    → Took says words x
taken_some says [] x e = absurd cc
taken_some {A} says (word ∷ words) x e =
    let one = bind_some (says word) (λ (y : A). Some (y, words)) x e in
    let same : (one.0, words) ≡ x = same_some (one.0, words) x one.2 in
    record {
      word = word;
      is = ap (λ (p : A × Parts). word ∷ p.1) same;
      said = one.1 ∙ ap (λ (p : A × Parts). Some p.0) same;
    }

pub behind_some : (text : List ℕ) (words new : Parts) → behind text words ≡ Some new → words ≡ text ∷ new
unfolding behind
behind_some text [] new e = absurd cc
behind_some text (word ∷ words) new e =
    let parts = held (bytes_eq word text) (Some words) new e in
    same_first word text words (are_bytes word text parts.0) ∙ more text words new (same_some words new parts.1)

pub none_left : (words : Parts) → is_none_left words ≡ true → words ≡ []
none_left [] e = refl
none_left (word ∷ words) e = absurd cc

-- an answer where no word is left
pub end_answer : {A : Type 0} (P : A → Type 0) (x : A) (words : Parts) → (words ≡ [] → P x) → Holds P (at_end x words)
end_answer P x words h =
    where_answer P (is_none_left words) (Some x) (λ e. one_answer P x (h (none_left words e)))

pub numbered_some : (word : List ℕ) (index : ℕ) (words new : Parts) → numbered_in word index words ≡ Some new
    → words ≡ word ∷ decimal index ∷ new
unfolding numbered_in
numbered_some word index words new e =
    let first = bind_some (behind word words) (λ (ws : Parts). behind (decimal index) ws) new e in
    behind_some word words first.0 first.1
    ∙ more word first.0 (decimal index ∷ new) (behind_some (decimal index) first.0 new first.2)

pub took_number : (words : Parts) (x : ℕ × Parts) → taken number words ≡ Some x
    → (words ≡ decimal x.0 ∷ x.1) × (x.0 < 2 ^ 64)
took_number words x e =
    let t = taken_some number words x e in
    let n = number_is t.word x.0 t.said in
    (t.is ∙ same_first t.word (decimal x.0) x.1 n.is, n.fits)

pub took_small : (words : Parts) (x : ℕ × Parts) → taken small_number words ≡ Some x
    → (words ≡ decimal x.0 ∷ x.1) × (x.0 < 2 ^ 32)
took_small words x e =
    let t = taken_some small_number words x e in
    let n = small_is t.word x.0 t.said in
    (t.is ∙ same_first t.word (decimal x.0) x.1 n.is, n.fits)

pub took_signed : (words : Parts) (x : ℤ × Parts) → taken signed_number words ≡ Some x
    → (words ≡ signed_decimal x.0 ∷ x.1) × FitsSigned w64 x.0
took_signed words x e =
    let t = taken_some signed_number words x e in
    let n = signed_is t.word x.0 t.said in
    (t.is ∙ same_first t.word (signed_decimal x.0) x.1 n.is, n.fits)

pub took_either : (first second : List ℕ) (words : Parts) (x : Bool × Parts)
    → taken (either_of first second) words ≡ Some x → words ≡ either_text first second x.0 ∷ x.1
took_either first second words x e =
    let t = taken_some (either_of first second) words x e in
    t.is ∙ same_first t.word (either_text first second x.0) x.1 (either_is first second t.word x.0 t.said)
