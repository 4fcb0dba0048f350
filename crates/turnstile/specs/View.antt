-- What a pass knows, and what contracts see of a pass and of a turnstile.
use Rattle.std.specs.Prelude.{◌≡◌, ◌==◌, if◌then◌else◌, ℕ, List, [], ◌∷◌, ◌++◌, replicate, max, Option}
use Rattle.std.specs.Prelude.{Bool, true, false}
use lib.ListN.{get_elem?}
use mathlib.Core.Option.{some}
use Rattle.atomic_table.specs.Seated.{TableId}
use Rattle.atomic_table.specs.Table.{Me}
use Rattle.turnstile.specs.declared.history.Call.{Call}
use Rattle.turnstile.specs.declared.history.View.{View}
use Rattle.turnstile.specs.declared.history.Phase.{Phase}
use Rattle.turnstile.specs.declared.history.Phase.TheVariants.{Idle, Holding, Publishing, Spent}
use Rattle.turnstile.specs.History.{longer}

-- a turnstile: which table it has, the state before the history, and how many dials there are
pub record TurnstileView (S : Type 0) : Type 0 where
  pub table : TableId
  pub start : S
  pub dials : ℕ

-- a pass: the table of the turnstile that it is for, and what it knows
pub record PassView (O A : Type 0) : Type 0 where
  pub table : TableId
  pub view : View O A

-- whether a pass in this phase has the turn
abbrev pub has_turn : Phase → Bool
has_turn Holding = true
has_turn (Publishing p) = true
has_turn _ = false

-- whether a pass in this phase is still one of its own
abbrev pub is_live : Phase → Bool
is_live Spent = false
is_live _ = true

-- the greater number at each index
abbrev pub greater : List ℕ → List ℕ → List ℕ
greater [] ys = []
greater (x ∷ xs) [] = x ∷ xs
greater (x ∷ xs) (y ∷ ys) = max x y ∷ greater xs ys

-- a list without a number where it stands first
abbrev pub without : ℕ → List ℕ → List ℕ
without n [] = []
without n (x ∷ xs) = if x == n then xs else (x ∷ without n xs)

-- the last number of a list
abbrev pub last_of : List ℕ → ℕ
last_of [] = 0
last_of (x ∷ []) = x
last_of (x ∷ y ∷ ys) = last_of (y ∷ ys)

module _ {O A : Type 0} where
  -- the first pass, with which nothing was done yet
  abbrev pub first_view : ℕ → View O A
  first_view dials = record {
    number = 0;
    seen = [];
    mine = [];
    joined = [];
    split = [];
    phase = Idle;
    lowest = replicate dials 0;
  }

  -- a pass whose call was just added to the history
  abbrev pub with_call : Call O A → View O A → View O A
  with_call c v = record v { seen = v.seen ++ c ∷ []; mine = v.mine ++ c ∷ []; phase = Publishing 0 }

  -- a pass that is within no call and no split
  abbrev pub at_rest : View O A → View O A
  at_rest v = record v { phase = Idle }

  -- the pass that is split off with the number that was drawn last: it has seen the same, and has no calls
  abbrev pub split_view : View O A → View O A
  split_view v = record v { number = last_of v.split; mine = []; joined = []; split = []; phase = Idle }

  -- a pass that knows what both knew, and to which the second was joined
  abbrev pub joined_with : View O A → View O A → View O A
  joined_with v w = record v {
    seen = longer v.seen w.seen;
    lowest = greater v.lowest w.lowest;
    split = without w.number v.split;
    joined = v.joined ++ (w.number, w.mine) ∷ [];
  }

  -- what is left of a pass that was joined to another
  abbrev pub spent_view : View O A
  spent_view = record { number = 0; seen = []; mine = []; joined = []; split = []; phase = Spent; lowest = [] }

  -- at this index of the table stands the view of a pass of its own
  abbrev pub LivesAt : List (View O A) → ℕ → View O A → Type 0
  LivesAt views id v = (get_elem? views id ≡ some v) × (is_live v.phase ≡ true)

module _ {S O A : Type 0} where
  -- between two calls a pass is idle, and the machine isn't with it
  abbrev pub Rests : Me (Option S) (View O A) → Type 0
  Rests me = (me.0.phase ≡ Idle) × (me.1 ≡ [])
