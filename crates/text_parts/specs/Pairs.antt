-- Pairs of a key and a value, as they are written.
use Rattle.std.specs.Prelude.{ℕ, List, [], ◌∷◌, ◌++◌}
use Rattle.text_parts.specs.Bytes.{comma, equals_sign}

-- `key=value`
abbrev pub pair_text : List ℕ × List ℕ → List ℕ
pair_text pair = pair.0 ++ equals_sign ∷ pair.1

-- pairs, each behind a comma
abbrev pub pairs_text : List (List ℕ × List ℕ) → List ℕ
pairs_text [] = []
pairs_text (pair ∷ pairs) = comma ∷ (pair_text pair ++ pairs_text pairs)

-- what a written pair in front of a rest may be
abbrev pub Meaning : Type 0 → Type 1
Meaning X = List ℕ × List ℕ → List ℕ → X → Type 0

-- the written pairs in front of the rest are the items, one by one
abbrev pub AllAre : {X : Type 0} → Meaning X → List (List ℕ × List ℕ) → List ℕ → List X → Type 0
AllAre Is [] rest [] = Unit {0}
AllAre Is [] rest (x ∷ xs) = ⊥
AllAre Is (w ∷ ws) rest [] = ⊥
AllAre Is (w ∷ ws) rest (x ∷ xs) = Is w (pairs_text ws ++ rest) x × AllAre Is ws rest xs
