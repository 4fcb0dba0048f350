-- The part of the rule on the numbers of passes, and on what each has seen of the history.
use Rattle.std.specs.Prelude.{◌≡◌, ◌≢◌, ◌⊎◌, ◌==◌, if◌then◌else◌, ℕ, ◌+◌, ◌<◌, ◌≤◌, List, [], ◌∷◌, ◌++◌, length, Option}
use mathlib.Core.Option.{some}
use lib.ListN.{get_elem?}
use Rattle.atomic_table.specs.Table.{Me, Step}
use Rattle.turnstile.specs.declared.history.Call.{Call}
use Rattle.turnstile.specs.declared.history.View.{View}
use Rattle.turnstile.specs.declared.history.Phase.TheVariants.{Drawn}
use Rattle.turnstile.specs.History.{calls_by, IsPrefix}
use Rattle.turnstile.specs.View.{LivesAt, last_of}

-- how often a number stands in a list
abbrev pub times : ℕ → List ℕ → ℕ
times n [] = 0
times n (x ∷ xs) = (if x == n then 1 else 0) + times n xs

-- the numbers of passes that come with something
abbrev pub numbers_of : {B : Type 0} → List (ℕ × B) → List ℕ
numbers_of [] = []
numbers_of (x ∷ xs) = x.0 ∷ numbers_of xs

module _ {O A : Type 0} where
  -- what a pass has seen begins the history, and its calls in either are those that it made
  pub record Fits (history : List (Call O A)) (v : View O A) : Type 0 where
    pub prefix : IsPrefix v.seen history
    pub mine_is : calls_by v.number history ≡ v.mine
    pub mine_seen : calls_by v.number v.seen ≡ v.mine

  -- a number that no other pass has: the first one has 0, and it neither is split off nor was joined back
  pub record IsUnused (v : View O A) (n : ℕ) : Type 0 where
    pub above : 0 < n
    pub not_split : times n v.split ≡ 0
    pub not_joined : times n (numbers_of v.joined) ≡ 0

  -- one number more was split off, which no other pass has, and the new pass has it
  abbrev pub IsSplit : View O A → View O A → View O A → Type 0
  IsSplit old kept made =
      (number : ℕ)
      × IsUnused old number
      × (kept ≡ record old { split = old.split ++ number ∷ [] })
      × (made ≡ record old { number = number; mine = []; joined = []; split = [] })

  -- each number below the next one, but 0, is split off from the first pass or was joined back to it, once; each other
  -- pass has one that is split off, no two have the same, and no call has one that wasn't drawn
  pub record Numbers (history : List (Call O A)) (drawn : ℕ) (views : List (View O A)) : Type 0 where
    pub top : View O A
    pub top_is : LivesAt views 0 top
    pub top_zero : top.number ≡ 0
    pub room : drawn ≡ 1 + (length top.split + length top.joined)
    pub given : (n : ℕ) → 0 < n → n < drawn → times n top.split + times n (numbers_of top.joined) ≡ 1
    pub not_given : (n : ℕ) → (n ≡ 0) ⊎ (drawn ≤ n) → times n top.split + times n (numbers_of top.joined) ≡ 0
    pub parted : (id : ℕ) (v : View O A) → LivesAt views id v → id ≢ 0
        → (times v.number top.split ≡ 1) × (v.joined ≡ []) × (v.split ≡ [])
    pub apart : (i j : ℕ) (v w : View O A) → LivesAt views i v → LivesAt views j w → i ≢ j → v.number ≢ w.number
    pub fits : (id : ℕ) (v : View O A) → LivesAt views id v → Fits history v
    pub lists : (k n : ℕ) (cs : List (Call O A)) → get_elem? top.joined k ≡ some (n, cs)
        → (calls_by n history ≡ cs) × (calls_by n top.seen ≡ cs)
    pub unused : (n : ℕ) → drawn ≤ n → calls_by n history ≡ []
    pub fresh : top.phase ≡ Drawn
        → ((id : ℕ) (v : View O A) → LivesAt views id v → v.number ≢ last_of top.split)
        × (0 < length top.split) × (calls_by (last_of top.split) history ≡ [])

module _ {S O A : Type 0} where
  -- the number that was found is drawn for a new pass
  abbrev pub Drew : Step (Option S) → Me (Option S) (View O A) → ℕ → Me (Option S) (View O A) → Type 0
  Drew st me found me' =
      (me'.1 ≡ me.1) × (me'.0 ≡ record me.0 { split = me.0.split ++ found ∷ []; phase = Drawn }) × IsUnused me.0 found
