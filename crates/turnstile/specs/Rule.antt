-- The rule of the table: word 0 is the turn, word 1 the length of the history modulo 2^64, word 2 the next number of a
-- pass, word 3 + i dial i, and the last counts who waits, of which nothing is said. The one slot is the machine's home.
use Rattle.std.specs.Prelude.{◌≡◌, ℕ, ◌+◌, ◌<◌, List, length, slice_index, Option}
use Rattle.atomic_table.specs.Seated.{TableId}
use Rattle.atomic_table.specs.Table.{State}
use Rattle.turnstile.specs.declared.history.Call.{Call}
use Rattle.turnstile.specs.declared.history.View.{View}
use Rattle.turnstile.specs.History.{IsLegal}
use Rattle.turnstile.specs.Numbers.{Numbers}
use Rattle.turnstile.specs.Turns.{Turns}
use Rattle.turnstile.specs.Dials.{Dials}

-- a table with the words of so many dials, and one slot
abbrev pub IsSized : TableId → ℕ → Type 0
IsSized table dials = (table.words ≡ 4 + dials) × (table.slots ≡ 1)

-- the words at the start: the turn is free, there is no call, the next number is 1, and each dial shows 0
pub record AreOpening (words : List ℕ) (dials : ℕ) : Type 0 where
  pub wide : length words ≡ 4 + dials
  pub free : slice_index words 0 ≡ 0
  pub empty : slice_index words 1 ≡ 0
  pub next : slice_index words 2 ≡ 1
  pub zeros : (i : ℕ) → i < dials → slice_index words (3 + i) ≡ 0

module _ {S O A : Type 0} (allows : S → O → A → Type 0) (next : S → O → A → S) (dial_of : S → ℕ → ℕ)
    (start : S) (dials : ℕ) where
  -- there is one legal history, of which the words, the machine's home and what each pass knows are parts
  pub record IsKept (s : State (Option S) (View O A)) : Type 0 where
    pub history : List (Call O A)
    pub before : List (Call O A)
    pub done : ℕ
    pub owner : ℕ
    pub legal : IsLegal allows next start history
    pub wide : length s.words ≡ 4 + dials
    pub numbers : Numbers history (slice_index s.words 2) s.views
    pub turns : Turns next start history owner (slice_index s.words 0) (slice_index s.words 1) s.homes s.views
    pub shows : Dials next dial_of start dials history before done s.words s.views
