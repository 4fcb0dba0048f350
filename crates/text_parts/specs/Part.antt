-- A part of a text: what ends it, and what a backslash hides.
use Rattle.std.specs.Prelude.{◌≡◌, ℕ, ◌+◌, Bool, false, ◌==◌, ◌&&◌, List, [], ◌∷◌, length, take, drop}
use Rattle.std.specs.Prelude.{if◌then◌else◌}
use Rattle.text_parts.specs.Bytes.{backslash}

-- a kind of part: the bytes that end it, those that a backslash hides, and what a hidden one means
pub record Kind : Type 0 where
  pub ends : ℕ → Bool
  pub escapes : ℕ → Bool
  pub means : ℕ → ℕ

-- how many bytes stand before the first one that ends the part
unfoldable pub part_len : Kind → List ℕ → ℕ
part_len k [] = 0
part_len k (b ∷ []) = if k.ends b then 0 else 1
part_len k (b ∷ c ∷ bs) =
    if b == backslash && k.escapes c then 2 + part_len k bs
    else (if k.ends b then 0 else 1 + part_len k (c ∷ bs))

-- the text without its escapes
unfoldable pub plain : Kind → List ℕ → List ℕ
plain k [] = []
plain k (b ∷ []) = b ∷ []
plain k (b ∷ c ∷ bs) = if b == backslash && k.escapes c then k.means c ∷ plain k bs else b ∷ plain k (c ∷ bs)

-- the bytes begin with a backslash and a byte that it hides
abbrev pub is_escape : Kind → List ℕ → Bool
is_escape k [] = false
is_escape k (b ∷ []) = false
is_escape k (b ∷ c ∷ bs) = b == backslash && k.escapes c

-- how many bytes the part has that begins at an offset
abbrev pub len_at : Kind → List ℕ → ℕ → ℕ
len_at k piece i = part_len k (drop i piece)

-- the text of the part that begins at an offset, without its escapes
abbrev pub text_at : Kind → List ℕ → ℕ → List ℕ
text_at k piece i = plain k (take (len_at k piece i) (drop i piece))

-- the text is the part of this kind that begins at an offset, and it means itself
pub record IsPartAt (k : Kind) (piece : List ℕ) (i : ℕ) (text : List ℕ) : Type 0 where
  pub len : len_at k piece i ≡ length text
  pub means : text_at k piece i ≡ text
