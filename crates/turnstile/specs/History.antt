-- A history: the calls of all passes, one after the other.
use Rattle.std.specs.Prelude.{◌≡◌, ◌==◌, if◌then◌else◌, ℕ, List, [], ◌∷◌, ◌++◌, length, nat_lt}
use Rattle.turnstile.specs.declared.history.Call.{Call}

module _ {O A : Type 0} where
  -- the call of a pass with this operation and answer
  abbrev pub call_of : ℕ → O × A → Call O A
  call_of number said = record { pass = number; op = said.0; answer = said.1 }

  -- the calls of one pass, in their order
  abbrev pub calls_by : ℕ → List (Call O A) → List (Call O A)
  calls_by number [] = []
  calls_by number (c ∷ cs) =
      if c.pass == number then (c ∷ calls_by number cs) else calls_by number cs

  -- the second list goes on where the first ends
  abbrev pub IsPrefix : List (Call O A) → List (Call O A) → Type 0
  IsPrefix front whole = (rest : List (Call O A)) × (whole ≡ front ++ rest)

  -- all but the last call
  abbrev pub but_last : List (Call O A) → List (Call O A)
  but_last [] = []
  but_last (c ∷ []) = []
  but_last (c ∷ d ∷ cs) = c ∷ but_last (d ∷ cs)

  -- the longer of two lists, and the first where both are as long
  abbrev pub longer : List (Call O A) → List (Call O A) → List (Call O A)
  longer xs ys = if nat_lt (length xs) (length ys) then ys else xs

module _ {S O A : Type 0} (next : S → O → A → S) where
  -- the state after all calls
  abbrev pub replay : S → List (Call O A) → S
  replay state [] = state
  replay state (c ∷ cs) = replay (next state c.op c.answer) cs

module _ {S O A : Type 0} (allows : S → O → A → Type 0) (next : S → O → A → S) where
  -- each answer is one that the machine allows after the calls before it
  abbrev pub IsLegal : S → List (Call O A) → Type 0
  IsLegal state [] = Unit {0}
  IsLegal state (c ∷ cs) =
      allows state c.op c.answer × IsLegal (next state c.op c.answer) cs
