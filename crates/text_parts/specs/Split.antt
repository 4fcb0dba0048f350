-- Texts cut at a byte.
use Rattle.std.specs.Prelude.{◌≡◌, ℕ, ◌+◌, ◌<◌, ◌^◌, Bool, ◌==◌, List, [], ◌∷◌, ◌++◌, length, nat_lt, Option}
use Rattle.std.specs.Prelude.{Some, None, Result, Ok, if◌then◌else◌}
use Rattle.std.specs.List.{slice_split, join_with_byte, before_first, after_first, position_or_len}
use Rattle.std.specs.List.{AllByRecursion}
use Rattle.text_parts.specs.Chain.{◌>>=◌}
use Rattle.text_parts.specs.Grammar.{HasNone}

-- a part of a piece: the offset where it begins there, and its text
abbrev pub PartAt : Type 0
PartAt = ℕ × List ℕ

-- the offset behind a part is a number of the machine, with one to spare
abbrev pub Fits : PartAt → Type 0
Fits part = part.0 + length part.1 + 1 < 2 ^ 64

abbrev pub is_byte : ℕ → ℕ → Bool
is_byte byte b = b == byte

-- what stands before the first such byte, and what stands behind it, where there is one
unfoldable pub first_part : ℕ → List ℕ → List ℕ × Option (List ℕ)
first_part byte text = (
  before_first (is_byte byte) text,
  if nat_lt (position_or_len (is_byte byte) text) (length text)
      then Some (after_first (is_byte byte) text) else None,
)

-- parts of which the first begins at an offset, with one byte between two of them, each with its offset
abbrev pub placed : ℕ → List (List ℕ) → List PartAt
placed offset [] = []
placed offset (text ∷ texts) = (offset, text) ∷ placed (offset + length text + 1) texts

-- the parts of a part between the separators in it
unfoldable pub parts_of : ℕ → PartAt → List PartAt
parts_of separator part = placed part.0 (slice_split (is_byte separator) part.1)

-- what is read of parts one by one: the first fault counts
unfoldable pub each : {A F : Type 0} → (PartAt → Result A F) → List PartAt → Result (List A) F
each read [] = Ok []
each read (part ∷ parts) = do
  first ← read part
  others ← each read parts
  Ok (first ∷ others)

-- ---- laws

-- no text has the byte
abbrev pub AllLack : ℕ → List (List ℕ) → Type 0
AllLack byte texts = AllByRecursion (HasNone (is_byte byte)) texts

-- texts without the separator, joined by it, are split into these texts
abbrev pub JoinedAreSplit : Type 0
JoinedAreSplit = (separator : ℕ) (first : List ℕ) (others : List (List ℕ))
    → AllLack separator (first ∷ others)
    → slice_split (is_byte separator) (join_with_byte separator (first ∷ others)) ≡ first ∷ others

-- a text is its parts joined by the separator, and no part has it
abbrev pub SplitAreJoined : Type 0
SplitAreJoined = (separator : ℕ) (text : List ℕ)
    → (join_with_byte separator (slice_split (is_byte separator) text) ≡ text)
    × AllLack separator (slice_split (is_byte separator) text)

-- a text without the byte is its first part; with it and a rest behind it, it is cut there
abbrev pub FirstIsCut : Type 0
FirstIsCut = (byte : ℕ) (text rest : List ℕ) → HasNone (is_byte byte) text
    → (first_part byte text ≡ (text, None)) × (first_part byte (text ++ byte ∷ rest) ≡ (text, Some rest))

-- a text is its first part alone, or that, the byte and what stands behind it; the part lacks the byte
abbrev pub behind_first : ℕ → Option (List ℕ) → List ℕ
behind_first byte None = []
behind_first byte (Some rest) = byte ∷ rest

abbrev pub CutIsFirst : Type 0
CutIsFirst = (byte : ℕ) (text : List ℕ)
    → (text ≡ (first_part byte text).0 ++ behind_first byte (first_part byte text).1)
    × HasNone (is_byte byte) (first_part byte text).0
