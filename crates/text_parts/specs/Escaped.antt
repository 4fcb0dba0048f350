-- Texts that are written with escapes.
use Rattle.std.specs.Prelude.{◌≡◌, ℕ, ◌==◌, Bool, true, false, List, [], ◌∷◌, ◌⊎◌, flat_map, if◌then◌else◌}
use Rattle.text_parts.specs.Bytes.{backslash}
use Rattle.text_parts.specs.Grammar.{Mark, spelled, meant, Ends, IsPart}
use Rattle.text_parts.specs.Part.{Kind}

-- the marks, which are written behind a backslash, and the byte that is written for each
pub record Escapes : Type 0 where
  pub is_mark : ℕ → Bool
  pub written : ℕ → ℕ

-- a byte, behind a backslash where it is a mark
abbrev pub escaped_byte : Escapes → ℕ → List ℕ
escaped_byte e b = if e.is_mark b then backslash ∷ e.written b ∷ [] else b ∷ []

-- a text with its marks escaped
unfoldable pub escaped : Escapes → List ℕ → List ℕ
escaped e text = flat_map (escaped_byte e) text

-- the byte doesn't stand in the text
abbrev pub IsNotIn : ℕ → List ℕ → Type 0
IsNotIn b [] = Unit {0}
IsNotIn b (c ∷ text) = ((c == b) ≡ false) × IsNotIn b text

-- the last byte is no backslash
abbrev pub NoBackslashEnd : List ℕ → Type 0
NoBackslashEnd [] = Unit {0}
NoBackslashEnd (b ∷ []) = (b == backslash) ≡ false
NoBackslashEnd (b ∷ c ∷ text) = NoBackslashEnd (c ∷ text)

-- the kind hides nothing but marks
abbrev pub HidesMarks : Kind → Escapes → Type 0
HidesMarks k e = (b : ℕ) → e.is_mark b ≡ false → k.escapes b ≡ false

-- a kind of part that reads the escapes of a text: it hides what is written for each mark and means the mark by it;
-- each of its ends is a mark or not in the text; and the backslash is a mark, or the kind hides nothing but marks and
-- the text ends with no backslash
pub record Suits (k : Kind) (e : Escapes) (text : List ℕ) : Type 0 where
  pub hides : (b : ℕ) → e.is_mark b ≡ true → k.escapes (e.written b) ≡ true
  pub means : (b : ℕ) → e.is_mark b ≡ true → k.means (e.written b) ≡ b
  pub ends : (b : ℕ) → k.ends b ≡ true → (e.is_mark b ≡ true) ⊎ IsNotIn b text
  pub closes : (e.is_mark backslash ≡ true) ⊎ (HidesMarks k e × NoBackslashEnd text)

-- an escaped text in front of an end is a part that means the text
abbrev pub EscapedIsPart : Type 0
EscapedIsPart = (k : Kind) (e : Escapes) (text rest : List ℕ) → Suits k e text → Ends k rest
    → (marks : List Mark) × (escaped e text ≡ spelled marks) × IsPart k marks rest × (meant k marks ≡ text)
