-- What a shelf answers, and what is then on it.
use Rattle.std.specs.Prelude.{◌≡◌, ℕ, zero, suc, ◌+◌, ◌≤◌, List, [], ◌∷◌, ◌++◌, Some, None, Ok}
use Rattle.std.proofs.Common.{arith}
use Rattle.turnstile_scenarios.specs.Stock.{Stock}
use Rattle.turnstile_scenarios.specs.declared.shelf.Op.{Op}
use Rattle.turnstile_scenarios.specs.declared.shelf.Op.TheVariants.{Put, Take}
use Rattle.turnstile_scenarios.specs.declared.shelf.Answer.{Answer}
use Rattle.turnstile_scenarios.specs.declared.shelf.Answer.TheVariants as said

-- all but the last number
abbrev pub all_but_last : List ℕ → List ℕ
all_but_last [] = []
all_but_last (x ∷ []) = []
all_but_last (x ∷ y ∷ ys) = x ∷ all_but_last (y ∷ ys)

-- a number that was put is then the last one; one that was taken was the last one, and counts; else nothing changes
abbrev pub shelf_next : Stock → Op → Answer → Stock
shelf_next s (Put n) (said.Put (Ok u)) = record s { items = s.items ++ n ∷ [] }
shelf_next s (Put n) _ = s
shelf_next s Take (said.Take (Some n)) = record { items = all_but_last s.items; taken = s.taken + 1 }
shelf_next s Take _ = s

-- what is taken stands last, and nothing is taken where nothing is there; a put may be refused, and a take where no
-- more can be counted
abbrev pub shelf_allows : Stock → Op → Answer → Type 0
shelf_allows s (Put n) (said.Put r) = Unit {0}
shelf_allows s Take (said.Take (Some n)) = (before : List ℕ) × (s.items ≡ before ++ n ∷ [])
shelf_allows s Take (said.Take None) = s.items ≡ []
shelf_allows s Take said.Full = Unit {0}
shelf_allows s _ _ = ⊥

-- dial 0 is how many were taken, and each other one is 0
abbrev pub shelf_dial : Stock → ℕ → ℕ
shelf_dial s zero = s.taken
shelf_dial s (suc n) = 0

-- what was taken is never fewer than before
taken-next : (s : Stock) (op : Op) (a : Answer) → s.taken ≤ (shelf_next s op a).taken
taken-next s (Put n) (said.Put (Ok u)) = omega arith
taken-next s (Put n) _ = omega arith
taken-next s Take (said.Take (Some n)) = omega arith
taken-next s Take _ = omega arith

-- no dial falls
pub shelf_dial-next : (s : Stock) (op : Op) (a : Answer) (i : ℕ) → shelf_allows s op a
    → shelf_dial s i ≤ shelf_dial (shelf_next s op a) i
shelf_dial-next s op a zero h = taken-next s op a
shelf_dial-next s op a (suc i) h = omega arith
