-- The lines of an account, by their words.
use Rattle.std.specs.Prelude.{ℕ, ◌+◌, List, [], ◌∷◌, ◌++◌, codes, Option, Some, None}
use Rattle.journal_text.specs.declared.setup.JournalSetup.{JournalSetup}
use Rattle.journal_reader.specs.Words.{◌>>=◌, Parts, taken, behind, either_of, at_end, number}
use Rattle.journal_reader.specs.SetupReading.{numbered_in}
use Rattle.journal_reader.specs.declared.account_lines.Form.{Form}
use Rattle.journal_reader.specs.declared.account_lines.Form.TheVariants.{Input, Groups, Items, Output}

-- the words behind a label and a number below 2^64
unfoldable pub behind_count : List ℕ → Parts → Option Parts
behind_count label words = do
  words ← behind label words
  count ← taken number words
  Some count.1

-- the words behind labels, each with such a number
unfoldable pub behind_counts : List (List ℕ) → Parts → Option Parts
behind_counts [] words = Some words
behind_counts (label ∷ labels) words = do
  words ← behind_count label words
  behind_counts labels words

abbrev pub input_labels : List (List ℕ)
input_labels =
    codes "pieces" ∷ codes "refused" ∷ codes "passed" ∷ codes "filtered" ∷ codes "gathered" ∷ []

abbrev pub groups_labels : List (List ℕ)
groups_labels = codes "delivered" ∷ codes "rejected" ∷ codes "undelivered" ∷ []

abbrev pub items_labels : List (List ℕ)
items_labels = codes "made" ∷ codes "removed" ∷ codes "routed" ∷ []

abbrev pub output_labels : List (List ℕ)
output_labels =
    codes "filtered" ∷ codes "late" ∷ codes "consumed" ∷ codes "written" ∷ codes "buffered" ∷ codes "dropped" ∷ []

abbrev pub Nothing : Type 0
Nothing = Unit {0}

-- the line of a name and a number that only counts: labels, each with such a number
unfoldable pub line_counts : List ℕ → ℕ → List (List ℕ) → Parts → Option Nothing
line_counts name index labels words = do
  words ← numbered_in name index words
  words ← behind_counts labels words
  at_end tt words

-- one that counts, and then says whether an input was read to its end
unfoldable pub ended_counts : List ℕ → ℕ → List (List ℕ) → Parts → Option Nothing
ended_counts name index labels words = do
  words ← numbered_in name index words
  words ← behind_counts labels words
  ending ← taken (either_of (codes "ended") (codes "unread")) words
  at_end tt ending.1

unfoldable pub items_counts : Parts → Option Nothing
items_counts words = do
  words ← behind (codes "items") words
  words ← behind_counts items_labels words
  at_end tt words

-- the words are a line of this form, with any numbers below 2^64
abbrev pub counts_in : Form → Parts → Option Nothing
counts_in (Input index) words = ended_counts (codes "input") index input_labels words
counts_in (Groups index) words = line_counts (codes "groups") index groups_labels words
counts_in Items words = items_counts words
counts_in (Output index) words = line_counts (codes "output") index output_labels words

-- ---- which lines there are

abbrev pub input_forms : ℕ → List (Option ℕ) → List Form
input_forms index [] = []
input_forms index (most ∷ inputs) = Input index ∷ input_forms (index + 1) inputs

-- one for each tracked input
abbrev pub groups_forms : ℕ → List (Option ℕ) → List Form
groups_forms index [] = []
groups_forms index (None ∷ inputs) = groups_forms (index + 1) inputs
groups_forms index (Some most ∷ inputs) = Groups index ∷ groups_forms (index + 1) inputs

abbrev pub output_forms : ℕ → List (ℕ × ℕ) → List Form
output_forms index [] = []
output_forms index (sizes ∷ outputs) = Output index ∷ output_forms (index + 1) outputs

-- the lines of an account of this set-up, in order
unfoldable pub forms_of : JournalSetup → List Form
forms_of setup =
    input_forms 0 setup.inputs ++ groups_forms 0 setup.inputs ++ Items ∷ output_forms 0 setup.outputs

-- `end N`, where there are N entries
unfoldable pub end_in : ℕ → Parts → Option Nothing
end_in entries words = do
  words ← numbered_in (codes "end") entries words
  at_end tt words
