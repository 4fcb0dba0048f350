-- Texts cut at a byte, without the offsets of their parts.
use Rattle.std.proofs.Common.{◌≡◌, ℕ, ◌+◌, List, [], ◌∷◌, length, Option, Some, None, refl, sym, ap, ◌∙◌}
use Rattle.std.specs.Prelude.{map}
use Rattle.std.specs.List.{slice_split}
use Rattle.text_parts.specs.Parts as offset
use Rattle.text_parts.specs.Split.{PartAt, is_byte, first_part, placed, parts_of}
use Rattle.text_parts.proofs.Splits.{next_part}
use Rattle.journal_reader.specs.Words.{parts_left}

abbrev texts_of : List PartAt → List (List ℕ)
texts_of parts = map (λ (part : PartAt). part.1) parts

texts_placed : (offset : ℕ) (texts : List (List ℕ)) → texts_of (placed offset texts) ≡ texts
texts_placed offset [] = refl
texts_placed offset (text ∷ texts) =
    ap (λ (others : List (List ℕ)). text ∷ others) (texts_placed (offset + length text + 1) texts)

texts_split : (separator offset : ℕ) (text : List ℕ)
    → texts_of (parts_of separator (offset, text)) ≡ slice_split (is_byte separator) text
unfolding parts_of
texts_split separator offset text = texts_placed offset (slice_split (is_byte separator) text)

texts_left : (separator at : ℕ) (rest : Option (List ℕ))
    → texts_of (offset.parts_left separator at rest) ≡ parts_left separator rest
texts_left separator at None = refl
texts_left separator at (Some rest) = texts_split separator at rest

-- a text is split into its first part and the parts of what stands behind it
pub next_is : (separator : ℕ) (text front : List ℕ) (rest : Option (List ℕ)) → (front, rest) ≡ first_part separator text
    → slice_split (is_byte separator) text ≡ front ∷ parts_left separator rest
next_is separator text front rest e =
    sym (texts_split separator 0 text)
    ∙ ap texts_of (next_part separator 0 text front rest e)
    ∙ ap (λ (others : List (List ℕ)). front ∷ others) (texts_left separator (0 + length front + 1) rest)
