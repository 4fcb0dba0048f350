-- The words of a text: what stands between its spaces.
use Rattle.std.specs.Prelude.{◌≡◌, ℕ, zero, suc, ◌+◌, ◌<◌, ◌==◌, Bool, not, List, [], ◌∷◌, ◌++◌, length}
use Rattle.std.specs.Prelude.{filter}
use Rattle.text_parts.specs.Bytes.{space}
use Rattle.text_parts.specs.Grammar.{HasNone}
use Rattle.text_parts.specs.Split.{PartAt, is_byte, parts_of}

-- the part isn't empty
abbrev pub is_filled : PartAt → Bool
is_filled part = not (length part.1 == 0)

-- the words of a part of a piece, each with its offset there: what stands between spaces and isn't empty
unfoldable pub words_of : PartAt → List PartAt
words_of part = filter is_filled (parts_of space part)

-- ---- laws

abbrev pub spaces : ℕ → List ℕ
spaces zero = []
spaces (suc n) = space ∷ spaces n

-- words, each with the number of spaces behind it, as they are written, and as they stand from an offset on
abbrev pub Spaced : Type 0
Spaced = List ℕ × ℕ

abbrev pub spaced_text : List Spaced → List ℕ
spaced_text [] = []
spaced_text (word ∷ words) = word.0 ++ (spaces word.1 ++ spaced_text words)

abbrev pub spaced_at : ℕ → List Spaced → List PartAt
spaced_at offset [] = []
spaced_at offset (word ∷ words) = (offset, word.0) ∷ spaced_at (offset + length word.0 + word.1) words

-- a word isn't empty and has no space
pub record IsWord (text : List ℕ) : Type 0 where
  pub filled : 0 < length text
  pub none : HasNone (is_byte space) text

-- a space stands before another word
abbrev pub Parted : ℕ → List Spaced → Type 0
Parted n [] = Unit {0}
Parted n (word ∷ words) = 0 < n

abbrev pub AreWords : List Spaced → Type 0
AreWords [] = Unit {0}
AreWords (word ∷ words) = IsWord word.0 × Parted word.1 words × AreWords words

-- words with one or more spaces between them, and any number around, are these words
abbrev pub SpacedAreWords : Type 0
SpacedAreWords = (offset before : ℕ) (words : List Spaced) → AreWords words
    → words_of (offset, spaces before ++ spaced_text words) ≡ spaced_at (offset + before) words

-- each text is such words
abbrev pub WordsAreSpaced : Type 0
WordsAreSpaced = (text : List ℕ)
    → (before : ℕ) × (words : List Spaced) × (text ≡ spaces before ++ spaced_text words) × AreWords words
