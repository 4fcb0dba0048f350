-- Tables of all bytes: each is held against its definition at each of the 256 bytes, by computing.
use Rattle.std.proofs.Common.{◌≡◌, ℕ, ◌<◌, nat_eq, get_or, List, true}
use Rattle.std.proofs.lemmas.Bool.{agree_below, agree_below_at, eqb-true}

pub from_table : (f : ℕ → ℕ) (table : List ℕ) (b : ℕ) → b < 256
    → agree_below (λ k. nat_eq (get_or table k 0) (f k)) (λ _. true) 256 ≡ true
    → get_or table b 0 ≡ f b
from_table f table b fits same =
    eqb-true _ _ (agree_below_at (λ k. nat_eq (get_or table k 0) (f k)) (λ _. true) 256 b same fits)
