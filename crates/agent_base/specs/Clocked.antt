-- Moments that a clock gave one after another, by their indices in its list.
use Rattle.std.specs.Prelude.{◌≡◌, ◌≤◌, ℕ, ℤ, ◌+◌, min, List, [], ◌∷◌, ◌++◌}
use Rattle.std.specs.Int.{int_max}
use Rattle.agent_base.specs.Moments.{Moments}

-- the index behind an index; the last index stands behind itself
abbrev pub index_behind : Moments → ℕ → ℕ
index_behind moments index = min (index + 1) moments.last

-- a moment is that of an index between two others, and what holds of the index behind it
pub record IsAtIndex (first last : ℕ) (IsMoment Behind : ℕ → Type 0) : Type 0 where
  pub index : ℕ
  pub from : first ≤ index
  pub to : index ≤ last
  pub is : IsMoment index
  pub rest : Behind index

-- the moments are those of indices from a first to a last one, each index behind the one before it
unfoldable pub Clocked : Moments → ℕ → ℕ → List ℤ → Type 0
Clocked moments first last [] = first ≤ last
Clocked moments first last (m ∷ ms) = IsAtIndex first last (λ index. m ≡ moments.at index)
    (λ index. Clocked moments (index_behind moments index) last ms)

-- the same, where each counts as no earlier than the one before it, and the first as no earlier than a given
-- one
unfoldable pub Counted : Moments → ℕ → ℕ → ℤ → List ℤ → Type 0
Counted moments first last floor [] = first ≤ last
Counted moments first last floor (m ∷ ms) = IsAtIndex first last
    (λ index. m ≡ int_max floor (moments.at index))
    (λ index. Counted moments (index_behind moments index) last m ms)

-- the last moment, or a given one where there is none
abbrev pub last_of : ℤ → List ℤ → ℤ
last_of floor [] = floor
last_of floor (m ∷ ms) = last_of m ms

-- moments up to an index and moments from it on are moments one after another
abbrev pub ClockedJoins : Type 0
ClockedJoins = (moments : Moments) (first middle last : ℕ) (ms ns : List ℤ) → Clocked moments first middle ms
    → Clocked moments middle last ns → Clocked moments first last (ms ++ ns)

-- the same where they are counted, and the later ones go on from the last of the earlier ones
abbrev pub CountedJoins : Type 0
CountedJoins = (moments : Moments) (first middle last : ℕ) (floor : ℤ) (ms ns : List ℤ)
    → Counted moments first middle floor ms → Counted moments middle last (last_of floor ms) ns
    → Counted moments first last floor (ms ++ ns)
