-- Words with spaces between them.
use Rattle.std.proofs.Common.{◌≡◌, ℕ, zero, suc, ◌+◌, ◌<◌, true, false, List, [], ◌∷◌, ◌++◌, length, refl, sym, ap}
use Rattle.std.proofs.Common.{subst, ◌∙◌, arith}
use Rattle.std.specs.Prelude.{◌==◌, filter}
use Rattle.std.specs.List.{slice_split}
use Rattle.std.proofs.lemmas.Bool.{ne_eqb, eqb-true}
use Rattle.std.proofs.lemmas.List.{append-nil}
use Rattle.text_parts.specs.Split.{PartAt, is_byte, placed, parts_of}
use Rattle.text_parts.specs.Words.{is_filled, words_of, spaces, Spaced, spaced_text, spaced_at, IsWord, AreWords}
use Rattle.text_parts.specs.Words.{SpacedAreWords, WordsAreSpaced}
use Rattle.text_parts.proofs.Splits.{split_none, split_found}

-- what stands between spaces, the empty texts left out
abbrev between : ℕ → List ℕ → List PartAt
between offset text = filter is_filled (placed offset (slice_split (is_byte 32) text))

same_offset : (m n : ℕ) (text : List ℕ) → m ≡ n → between m text ≡ between n text
same_offset m n text e = ap (λ (k : ℕ). between k text) e

behind_spaces : (n offset : ℕ) (text : List ℕ) → between offset (spaces n ++ text) ≡ between (offset + n) text
behind_spaces zero offset text = same_offset offset (offset + 0) text (omega arith)
behind_spaces (suc n) offset text =
    behind_spaces n (offset + 0 + 1) text ∙ same_offset (offset + 0 + 1 + n) (offset + suc n) text (omega arith)

filled_first : (offset : ℕ) (word : List ℕ) (parts : List PartAt) → 0 < length word
    → filter is_filled ((offset, word) ∷ parts) ≡ (offset, word) ∷ filter is_filled parts
filled_first offset word parts some =
    let test : (length word == 0) ≡ false = ne_eqb (length word) 0 (λ e. absurd (omega arith)) in
    rw test refl

-- a word at the end, and one before a space
last_word : (offset : ℕ) (word : List ℕ) → IsWord word → between offset word ≡ (offset, word) ∷ []
last_word offset word is =
    ap (λ (texts : List (List ℕ)). filter is_filled (placed offset texts)) (split_none (is_byte 32) word is.none)
    ∙ filled_first offset word [] is.filled

word_before : (offset n : ℕ) (word rest : List ℕ) → IsWord word
    → between offset (word ++ (spaces (suc n) ++ rest)) ≡ (offset, word) ∷ between (offset + length word + suc n) rest
word_before offset n word rest is =
    ap (λ (texts : List (List ℕ)). filter is_filled (placed offset texts))
    (split_found (is_byte 32) word 32 (spaces n ++ rest) is.none refl)
    ∙ filled_first offset word (placed (offset + length word + 1) (slice_split (is_byte 32) (spaces n ++ rest)))
    is.filled
    ∙ ap (λ (parts : List PartAt). (offset, word) ∷ parts)
    (behind_spaces n (offset + length word + 1) rest ∙ same_offset (offset + length word + 1 + n)
    (offset + length word + suc n) rest (omega arith))

spaced_are : (offset : ℕ) (words : List Spaced) → AreWords words
    → between offset (spaced_text words) ≡ spaced_at offset words
spaced_are offset [] are = refl
spaced_are offset ((word, suc n) ∷ words) are =
    word_before offset n word (spaced_text words) are.0
    ∙ ap (λ (parts : List PartAt). (offset, word) ∷ parts) (spaced_are (offset + length word + suc n) words are.2)
spaced_are offset ((word, zero) ∷ []) are = subst (λ (text : List ℕ). between offset text ≡ (offset, word) ∷ [])
    (sym (append-nil word)) (last_word offset word are.0)
spaced_are offset ((word, zero) ∷ v ∷ words) are = absurd (omega (arith, are.1))

pub spaced_are_words : SpacedAreWords
unfolding words_of parts_of
spaced_are_words offset before words are = behind_spaces before offset (spaced_text words)
    ∙ spaced_are (offset + before) words are

-- ---- each text

one : (b : ℕ) → (b == 32) ≡ false → IsWord (b ∷ [])
one b e = record { filled = omega arith; none = (e, tt) }

abbrev SpacedAs : List ℕ → Type 0
SpacedAs text = (before : ℕ) × (words : List Spaced) × (text ≡ spaces before ++ spaced_text words) × AreWords words

-- one byte more at the front
onto : (b : ℕ) (bs : List ℕ) → (b == 32) ≡ false → (before : ℕ) (words : List Spaced)
    → bs ≡ spaces before ++ spaced_text words → AreWords words → SpacedAs (b ∷ bs)
onto b bs e before [] is are = (0, (b ∷ [], before) ∷ [], ap (λ (t : List ℕ). b ∷ t) is, (one b e, tt, tt))
onto b bs e (suc n) (v ∷ words) is are = (
  0,
  (b ∷ [], suc n) ∷ v ∷ words,
  ap (λ (t : List ℕ). b ∷ t) is,
  (one b e, omega arith, are),
)
onto b bs e zero (v ∷ words) is are = (
  0,
  (b ∷ v.0, v.1) ∷ words,
  ap (λ (t : List ℕ). b ∷ t) is,
  (record { filled = omega arith; none = (e, are.0.none) }, are.1, are.2),
)

pub words_are_spaced : WordsAreSpaced
words_are_spaced [] = (0, [], refl, tt)
words_are_spaced (b ∷ bs) =
    let rest = words_are_spaced bs in
    elim (b == 32) as (λ t. (b == 32) ≡ t → SpacedAs (b ∷ bs)) [
      | true ↦ λ e. (suc rest.0, rest.1, rw (eqb-true b 32 e) (ap (λ (t : List ℕ). 32 ∷ t) rest.2), rest.3)
      | false ↦ λ e. onto b bs e rest.0 rest.1 rest.2 rest.3
    ] refl
