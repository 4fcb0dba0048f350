-- A part is a concatenation of marks: an escape, or a byte that stands for itself.
use Rattle.std.specs.Prelude.{◌≡◌, ◌<◌, ℕ, Bool, true, false, List, [], ◌∷◌, ◌++◌, length, drop}
use Rattle.text_parts.specs.Bytes.{backslash}
use Rattle.text_parts.specs.Part.{Kind, part_len, plain, is_escape}

pub data Mark : Type 0 where
  Escaped : ℕ → Mark
  Bare : ℕ → Mark

-- how a part is written
abbrev pub spelled : List Mark → List ℕ
spelled [] = []
spelled (Escaped c ∷ marks) = backslash ∷ c ∷ spelled marks
spelled (Bare b ∷ marks) = b ∷ spelled marks

-- what a part says
abbrev pub meant : Kind → List Mark → List ℕ
meant k [] = []
meant k (Escaped c ∷ marks) = k.means c ∷ meant k marks
meant k (Bare b ∷ marks) = b ∷ meant k marks

-- the rest is empty, or begins with a byte that ends the part
abbrev pub Ends : Kind → List ℕ → Type 0
Ends k [] = Unit {0}
Ends k (b ∷ rest) = (k.ends b ≡ true) × (is_escape k (b ∷ rest) ≡ false)

-- the marks are a whole part before the rest
abbrev pub IsPart : Kind → List Mark → List ℕ → Type 0
IsPart k [] rest = Ends k rest
IsPart k (Escaped c ∷ marks) rest = (k.escapes c ≡ true) × IsPart k marks rest
IsPart k (Bare b ∷ marks) rest =
    (k.ends b ≡ false) × (is_escape k (b ∷ (spelled marks ++ rest)) ≡ false) × IsPart k marks rest

-- a part before its end is read whole, and as what it says
abbrev pub PartIsRead : Type 0
PartIsRead = (k : Kind) (marks : List Mark) (rest : List ℕ) → IsPart k marks rest
    → (part_len k (spelled marks ++ rest) ≡ length (spelled marks))
    × (plain k (spelled marks) ≡ meant k marks)

-- each text begins with a part, which is the one that is read
abbrev pub ReadIsPart : Type 0
ReadIsPart = (k : Kind) (bs : List ℕ) → (marks : List Mark)
    × (bs ≡ spelled marks ++ drop (part_len k bs) bs) × IsPart k marks (drop (part_len k bs) bs)

-- the text is a filled part of this kind in front of the rest, and means this
pub record IsWritten (k : Kind) (text rest means : List ℕ) : Type 0 where
  pub some : 0 < length text
  pub marks : List Mark
  pub is : text ≡ spelled marks
  pub part : IsPart k marks rest
  pub says : meant k marks ≡ means

-- no byte passes the test
abbrev pub HasNone : (ℕ → Bool) → List ℕ → Type 0
HasNone p [] = Unit {0}
HasNone p (b ∷ bs) = (p b ≡ false) × HasNone p bs
