-- The text of what was counted of a run.
use Rattle.std.specs.Prelude.{ℕ, ◌+◌, List, [], ◌∷◌, ◌++◌, codes, decimal, if◌then◌else◌}
use Rattle.std.specs.List.{flat_map}
use Rattle.account.specs.declared.numbers.InputNumbers.{InputNumbers}
use Rattle.account.specs.declared.numbers.OutputNumbers.{OutputNumbers}
use Rattle.account.specs.Numbers.{Numbers}

-- labels, each with its number
abbrev pub counted : List (List ℕ × ℕ) → List ℕ
counted counts = flat_map (λ (count : List ℕ × ℕ). count.0 ++ decimal count.1) counts

-- the line of an input
unfoldable pub input_line : ℕ → InputNumbers → List ℕ
input_line input x =
    counted (
    (codes "input ", input)
    ∷ (codes " pieces ", x.pieces)
    ∷ (codes " refused ", x.refused)
    ∷ (codes " passed ", x.passed)
    ∷ (codes " filtered ", x.filtered)
    ∷ (codes " gathered ", x.gathered)
    ∷ []
    )
    ++ (if x.has_ended then codes " ended\n" else codes " unread\n")

-- the line of an input's groups
unfoldable pub groups_line : ℕ → InputNumbers → List ℕ
groups_line input x =
    counted (
    (codes "groups ", input)
    ∷ (codes " delivered ", x.delivered)
    ∷ (codes " rejected ", x.rejected)
    ∷ (codes " undelivered ", x.undelivered)
    ∷ []
    )
    ++ codes "\n"

-- the line of an input's groups where it is tracked, and nothing where it isn't
unfoldable pub tracked_groups : ℕ → InputNumbers → List ℕ
tracked_groups input x = if x.tracked then groups_line input x else []

-- the line of the items
unfoldable pub items_line : ℕ → ℕ → ℕ → List ℕ
items_line made removed routed =
    counted ((codes "items made ", made) ∷ (codes " removed ", removed) ∷ (codes " routed ", routed) ∷ [])
    ++ codes "\n"

-- the line of an output
unfoldable pub output_line : ℕ → OutputNumbers → List ℕ
output_line output x =
    counted (
    (codes "output ", output)
    ∷ (codes " filtered ", x.filtered)
    ∷ (codes " late ", x.late)
    ∷ (codes " consumed ", x.consumed)
    ∷ (codes " written ", x.written)
    ∷ (codes " buffered ", x.buffered)
    ∷ (codes " dropped ", x.dropped)
    ∷ []
    )
    ++ codes "\n"

-- the texts of elements one after the other, each with its number; the first one has this number
unfoldable pub numbered : {X : Type 0} → (ℕ → X → List ℕ) → ℕ → List X → List ℕ
numbered text n [] = []
numbered text n (x ∷ xs) = text n x ++ numbered text (n + 1) xs

-- the account of a run: the lines of its inputs, those of the groups of tracked inputs, its items, and its
-- outputs
unfoldable pub account_text : Numbers → List ℕ
account_text numbers =
    numbered input_line 0 numbers.inputs
    ++ numbered tracked_groups 0 numbers.inputs
    ++ items_line numbers.made numbers.removed numbers.routed
    ++ numbered output_line 0 numbers.outputs
