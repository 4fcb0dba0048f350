-- The TYPE lines that were read, as the code has them.
use Rattle.std.specs.Prelude.{◌≡◌, ℕ, List, map}
use Rattle.std.specs.BTreeMap.{get_by}
use Rattle.std.specs.Cmp.Lexicographic.{slice_cmp}
use Rattle.std.specs.Ordering.{nat_cmp}
use Rattle.std.specs.Str.{bytes_eq}
use Rattle.metric.specs.Draft.{Tag}
use Rattle.openmetrics_text.specs.declared.types.Types.{Types}
use Rattle.openmetrics_text.specs.Types.{last_of}

-- the types are those of these names and types, and each name has its last index
pub record HaveTypes (types : Types) (pairs : List Tag) : Type 0 where
  pub kinds : map (λ kind. kind.now) types.kinds.items ≡ map (λ (pair : Tag). pair.1) pairs
  pub last : (name : List ℕ)
      → get_by (λ key. slice_cmp nat_cmp name key.now) types.last ≡ last_of (λ other. bytes_eq other name) pairs
