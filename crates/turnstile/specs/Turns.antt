-- The part of the rule on the turn, the machine and the length of the history.
use Rattle.std.specs.Prelude.{◌≡◌, ◌≢◌, ℕ, ◌%◌, ◌^◌, List, [], length, Option, Some, true}
use mathlib.Core.Option.{some}
use mathlib.Core.Option as maybe
use lib.ListN.{get_elem?}
use Rattle.atomic_table.specs.Table.{Me, Step}
use Rattle.turnstile.specs.declared.history.Call.{Call}
use Rattle.turnstile.specs.declared.history.View.{View}
use Rattle.turnstile.specs.declared.history.Phase.TheVariants.{Idle}
use Rattle.turnstile.specs.History.{call_of, replay}
use Rattle.turnstile.specs.View.{LivesAt, has_turn, with_call}
use Rattle.turnstile.specs.Calls.{HasTurn}

module _ {S O A : Type 0} where
  -- the turn is 0 where nobody has it, and then the machine is at home as the history left it; else it is 1, and one
  -- pass has it, which has seen the whole history. The count is the length of the history
  pub record Turns (next : S → O → A → S) (start : S) (history : List (Call O A)) (owner turn count : ℕ)
      (homes : List (maybe.Option (Option S))) (views : List (View O A)) : Type 0 where
    pub deep : length homes ≡ 1
    pub counted : count ≡ length history % 2 ^ 64
    pub free : turn ≡ 0 → get_elem? homes 0 ≡ some (some (Some (replay next start history)))
    pub busy : turn ≢ 0 → (turn ≡ 1) × ((v : View O A) × LivesAt views owner v × (has_turn v.phase ≡ true))
    pub held : (id : ℕ) (v : View O A) → LivesAt views id v → has_turn v.phase ≡ true
        → (id ≡ owner) × (turn ≡ 1) × (v.seen ≡ history)

  -- a step takes the turn where it found 0, and changes nothing else
  abbrev pub Acquired : (S → O → A → Type 0) → (S → O → A → S) → (S → ℕ → ℕ) → Option S
      → Step (Option S) → Me (Option S) (View O A) → ℕ → Me (Option S) (View O A) → Type 0
  Acquired allows next dial_of start st me found me' =
      (s : S) → start ≡ Some s
      → (found ≡ 0 → HasTurn allows next dial_of s me.0 me') × (found ≢ 0 → me' ≡ me)

  -- a step adds the call that it is told to the history, whose length it found
  abbrev pub Committed : Option (O × A)
      → Step (Option S) → Me (Option S) (View O A) → ℕ → Me (Option S) (View O A) → Type 0
  Committed call st me found me' =
      (said : O × A) → call ≡ Some said
      → (me'.0 ≡ with_call (call_of me.0.number said) me.0) × (me'.1 ≡ me.1)
      × (found ≡ length me.0.seen % 2 ^ 64)

  -- a step gives the turn up, and the machine with it
  abbrev pub Released : Step (Option S) → Me (Option S) (View O A) → ℕ → Me (Option S) (View O A) → Type 0
  Released st me found me' = (me'.0 ≡ record me.0 { phase = Idle }) × (me'.1 ≡ [])

  -- a step changes nothing that the pass knows
  abbrev pub Waited : Step (Option S) → Me (Option S) (View O A) → ℕ → Me (Option S) (View O A) → Type 0
  Waited st me found me' = me' ≡ me
