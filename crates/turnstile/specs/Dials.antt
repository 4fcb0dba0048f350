-- The part of the rule on what the dials show.
use Rattle.std.specs.Prelude.{◌≡◌, ◌≢◌, ℕ, ◌+◌, ◌<◌, ◌≤◌, List, length, slice_index, slice_set, Option, Some, false}
use Rattle.atomic_table.specs.Table.{Me, Step}
use Rattle.turnstile.specs.declared.history.Call.{Call}
use Rattle.turnstile.specs.declared.history.View.{View}
use Rattle.turnstile.specs.declared.history.Phase.TheVariants.{Holding, Publishing}
use Rattle.turnstile.specs.History.{but_last, replay}
use Rattle.turnstile.specs.View.{LivesAt, has_turn}

module _ {S O A : Type 0} where
  -- a dial below `done` shows the state after the whole history, each other one that after `before`, which is the
  -- history without its last call while who has the turn publishes, and else the history. What was glanced at, and
  -- what was seen, isn't above what is shown
  pub record Dials (next : S → O → A → S) (dial_of : S → ℕ → ℕ) (start : S) (dials : ℕ)
      (history before : List (Call O A)) (done : ℕ) (words : List ℕ) (views : List (View O A)) : Type 0 where
    pub grows : (i : ℕ) → dial_of (replay next start before) i ≤ dial_of (replay next start history) i
    pub shown : (i : ℕ) → i < dials
        → (i < done → slice_index words (3 + i) ≡ dial_of (replay next start history) i)
        × (done ≤ i → slice_index words (3 + i) ≡ dial_of (replay next start before) i)
    pub quiet : slice_index words 0 ≡ 0 → before ≡ history
    pub holding : (id : ℕ) (v : View O A) → LivesAt views id v → v.phase ≡ Holding → before ≡ history
    pub publishing : (id p : ℕ) (v : View O A) → LivesAt views id v → v.phase ≡ Publishing p
        → (done ≡ p) × (before ≡ but_last history)
    pub low : (id : ℕ) (v : View O A) → LivesAt views id v
        → (length v.lowest ≡ dials) × ((i : ℕ) → i < dials → slice_index v.lowest i ≤ slice_index words (3 + i))
    pub behind : (id : ℕ) (v : View O A) → LivesAt views id v → has_turn v.phase ≡ false
        → (i : ℕ) → i < dials → dial_of (replay next start v.seen) i ≤ slice_index words (3 + i)

  -- no dial fell by the last call
  abbrev pub NoneFell : (S → O → A → S) → (S → ℕ → ℕ) → S → List (Call O A) → Type 0
  NoneFell next dial_of start history = (i : ℕ)
      → dial_of (replay next start (but_last history)) i ≤ dial_of (replay next start history) i

  -- a step finds that the dial which is published next still shows the state before the last call; where that is what
  -- it is to show, the dial is published by it
  abbrev pub Found : (S → O → A → S) → (S → ℕ → ℕ) → Option S → Option ℕ
      → Step (Option S) → Me (Option S) (View O A) → ℕ → Me (Option S) (View O A) → Type 0
  Found next dial_of start value st me found me' =
      (me'.1 ≡ me.1)
      × ((s : S) (p new : ℕ) → start ≡ Some s → value ≡ Some new → me.0.phase ≡ Publishing p → st.word ≡ 3 + p
      → (found ≡ dial_of (replay next s (but_last me.0.seen)) p)
      × (found ≡ new → me'.0 ≡ record me.0 { phase = Publishing (p + 1) })
      × (found ≢ new → me'.0 ≡ me.0))

  -- a step publishes the next dial
  abbrev pub Published : Step (Option S) → Me (Option S) (View O A) → ℕ → Me (Option S) (View O A) → Type 0
  Published st me found me' =
      (me'.1 ≡ me.1)
      × ((p : ℕ) → me.0.phase ≡ Publishing p → me'.0 ≡ record me.0 { phase = Publishing (p + 1) })

  -- a step reads a dial: what it found isn't below what was glanced at before, nor below the dial in what was seen
  abbrev pub Glanced : (S → O → A → S) → (S → ℕ → ℕ) → Option S
      → Step (Option S) → Me (Option S) (View O A) → ℕ → Me (Option S) (View O A) → Type 0
  Glanced next dial_of start st me found me' =
      (me'.1 ≡ me.1)
      × ((s : S) (i : ℕ) → start ≡ Some s → st.word ≡ 3 + i
      → (me'.0 ≡ record me.0 { lowest = slice_set me.0.lowest i found })
      × (slice_index me.0.lowest i ≤ found)
      × (dial_of (replay next s me.0.seen) i ≤ found))
