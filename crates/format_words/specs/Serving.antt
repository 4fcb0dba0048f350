-- Which paths a template serves.
use Rattle.std.specs.Prelude.{◌&&◌, ◌||◌, ℕ, Bool, true, false, List, [], ◌∷◌, Option, Some, None}
use Rattle.std.specs.Str.{bytes_eq}
use Rattle.format_words.specs.Bytes.{star}
use Rattle.format_words.specs.Template.{Shape}

-- a segment of a filter stands for itself, and `*` for any one segment
abbrev pub admits : List ℕ → List ℕ → Bool
admits wanted text = bytes_eq wanted (star ∷ []) || bytes_eq wanted text

-- the first segments are those of the filter
unfoldable pub begins_with : List (List ℕ) → List (List ℕ) → Bool
begins_with [] segments = true
begins_with (wanted ∷ filter) [] = false
begins_with (wanted ∷ filter) (text ∷ segments) = admits wanted text && begins_with filter segments

-- a template without a filter serves every path
abbrev pub passes : Option (List (List ℕ)) → List (List ℕ) → Bool
passes None segments = true
passes (Some filter) segments = begins_with filter segments

abbrev pub serves : List (List ℕ) → Shape → Bool
serves segments shape = passes shape.filter segments
