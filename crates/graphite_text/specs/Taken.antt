-- Texts that segments make, and the segments that a thing takes, as the code has them.
use Rattle.std.specs.Prelude.{◌≡◌, ◌<◌, ℕ, List, [], ◌∷◌, length, map}
use Rattle.std.specs.String.{string_bytes}
use Rattle.graphite_text.specs.declared.collected.Taken.{Taken}
use Rattle.graphite_text.specs.declared.collected.Taken.TheVariants as taken
use Rattle.graphite_text.specs.declared.collected.JoinedText.{JoinedText}
use Rattle.graphite_text.specs.declared.collected.JoinedText.TheVariants.{Whole, Joined}
use Rattle.graphite_text.specs.Applied.{joined}
use Rattle.format_words.specs.Views.{now_of}

abbrev pub joined_view : JoinedText → List ℕ
joined_view (Whole text) = text.now
joined_view (Joined text) = string_bytes text

-- the text is these, of which there are some, joined by the separator
pub record AreJoined (separator : List ℕ) (texts : List (List ℕ)) (text : List ℕ) : Type 0 where
  pub some : 0 < length texts
  pub joins : text ≡ joined separator texts

-- these are there, and at least one of them
pub record IsRow (row texts : List (List ℕ)) : Type 0 where
  pub some : 0 < length texts
  pub are : texts ≡ row

-- what is taken stands for these segments
abbrev pub Takes : Taken → List (List ℕ) → Type 0
Takes taken.Nothing texts = texts ≡ []
Takes (taken.One text) texts = texts ≡ text.now ∷ []
Takes (taken.Row row) texts = IsRow (map now_of row.now) texts
Takes taken.Some texts = 0 < length texts
