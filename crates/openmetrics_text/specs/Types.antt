-- The types of samples.
use Rattle.std.specs.Prelude.{ℕ, ◌+◌, ◌||◌, Bool, List, [], ◌∷◌, ◌++◌, codes, max, Option, Some, None}
use Rattle.std.specs.Prelude.{if◌then◌else◌}
use Rattle.std.specs.List.{list_any}
use Rattle.std.specs.Str.{bytes_eq}
use Rattle.metric.specs.Draft.{Tag}
use Rattle.openmetrics_text.specs.Lines.{LineSays, Typed, Nothing, Sampled}

-- the names and types of the TYPE lines, in order
unfoldable pub types_in : List LineSays → List Tag
types_in [] = []
types_in (Typed name kind ∷ lines) = (name, kind) ∷ types_in lines
types_in (Nothing ∷ lines) = types_in lines
types_in (Sampled said ∷ lines) = types_in lines

-- what a sample's name may have behind the name of its family
abbrev pub suffixes : List (List ℕ)
suffixes =
    codes "_total" ∷ codes "_created" ∷ codes "_bucket" ∷ codes "_count"
    ∷ codes "_sum" ∷ codes "_gcount" ∷ codes "_gsum" ∷ codes "_info" ∷ []

-- a name is that of a sample without one of some suffixes
abbrev pub has_suffix_of : List ℕ → List (List ℕ) → List ℕ → Bool
has_suffix_of sample suffixes name = list_any (λ suffix. bytes_eq (name ++ suffix) sample) suffixes

-- a name is that of a sample, or that without one suffix
abbrev pub is_family_of : List ℕ → List ℕ → Bool
is_family_of sample name = bytes_eq name sample || has_suffix_of sample suffixes name

-- the type of the last of these names that is that of a sample, or that without one suffix; without one, what
-- was found before
unfoldable pub type_from : List ℕ → List ℕ → List Tag → List ℕ
type_from found sample [] = found
type_from found sample (pair ∷ pairs) =
    type_from (if is_family_of sample pair.0 then pair.1 else found) sample pairs

abbrev pub type_of : List ℕ → List Tag → List ℕ
type_of sample pairs = type_from (codes "unknown") sample pairs

-- ---- by indices

-- the index of a pair in front of others: behind it that of the last of these, where one has an index
abbrev pub in_front : Bool → Option ℕ → Option ℕ
in_front test (Some index) = Some (index + 1)
in_front test None = if test then Some 0 else None

-- the index of the last pair whose name passes the test
unfoldable pub last_of : (List ℕ → Bool) → List Tag → Option ℕ
last_of p [] = None
last_of p (pair ∷ pairs) = in_front (p pair.0) (last_of p pairs)

-- the later of two indices
abbrev pub later : Option ℕ → Option ℕ → Option ℕ
later None other = other
later (Some index) None = Some index
later (Some index) (Some other) = Some (max index other)
