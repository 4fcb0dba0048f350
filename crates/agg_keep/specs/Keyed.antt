-- Elements by their keys.
use Rattle.std.specs.Prelude.{Bool, not, List, [], ◌∷◌, filter, Option, IsSome, option_and_then}
use Rattle.std.specs.Map.{lookup}
use Rattle.std.specs.Ordering.{is_eq}
use Rattle.std.specs.declared.cmp.Ordering.{Ordering}

-- the keys of elements, each where its first element stands
unfoldable pub firsts : {M K : Type 0} → (K → K → Bool) → (M → K) → List M → List K
firsts same key [] = []
firsts same key (m ∷ ms) = key m ∷ filter (λ other. not (same (key m) other)) (firsts same key ms)

-- the elements of a key, in order
abbrev pub with_key : {M K : Type 0} → (K → K → Bool) → (M → K) → K → List M → List M
with_key same key k ms = filter (λ m. same k (key m)) ms

-- what stands under a key of a map
abbrev pub entry_by : {K V : Type 0} → (K → K → Ordering) → List (K × Option V) → K → Option (Option V)
entry_by cmp kept k = lookup (λ other. is_eq (cmp k other)) kept

-- and what is held there; a key with room alone holds nothing
abbrev pub held_by : {K V : Type 0} → (K → K → Ordering) → List (K × Option V) → K → Option V
held_by cmp kept k = option_and_then (λ entry. entry) (entry_by cmp kept k)

-- there is room for a key
abbrev pub HasRoom : {K V : Type 0} → (K → K → Ordering) → List (K × Option V) → K → Type 0
HasRoom cmp kept k = IsSome (entry_by cmp kept k)
