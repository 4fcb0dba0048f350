-- The first of the items without a Route.
use Rattle.std.proofs.Common.{◌≡◌, ◌<◌, ◌≤◌, ℕ, zero, suc, List, [], ◌∷◌, ◌++◌, length, drop, refl, arith}
use Rattle.std.specs.Prelude.{Some, flat_map, replicate, slice_get, slice_index_or}
use Rattle.std.specs.List.{All}
use Rattle.pipeline_core.specs.declared.unrouted.Together.{Together}

-- the first of a row of so many that are the same
head_of : {X : Type 0} (n : ℕ) (x : X) (more : List X) → 1 ≤ n → slice_get (replicate n x ++ more) 0 ≡ Some x
head_of zero x more some = absurd (omega (arith, some))
head_of (suc n) x more some = refl

-- the first of all is the first of the first row, where no row is empty
pub first_is : {X : Type 0} (of : Together → X) (rows : List Together) (d : Together) →
    All (λ (row : Together). 1 ≤ row.count) rows → 0 < length rows →
    slice_get (flat_map (λ (row : Together). replicate row.count (of row)) rows) 0 ≡ Some (of (slice_index_or rows 0 d))
first_is of [] d each some = absurd (omega (arith, some))
first_is of (row ∷ rows) d each some = head_of row.count (of row) _ (each 0 row (omega (arith)))

-- where there is an item there is a row
pub has_rows : {X : Type 0} (of : Together → List X) (rows : List Together) → 0 < length (flat_map of rows) →
    0 < length rows
has_rows of [] some = some
has_rows of (row ∷ rows) some = omega (arith)

-- what holds of all rows holds of those behind the first
pub each_behind : (rows : List Together) → All (λ (row : Together). 1 ≤ row.count) rows →
    All (λ (row : Together). 1 ≤ row.count) (drop 1 rows)
each_behind [] each = each
each_behind (row ∷ rows) each = λ k d within. each (suc k) d (omega (arith, within))
