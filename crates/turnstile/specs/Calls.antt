-- What a call adds to the history, and what the first pass knows at the end.
use Rattle.std.specs.Prelude.{◌≡◌, ◌≢◌, ℕ, ◌%◌, ◌^◌, ◌≤◌, List, [], ◌∷◌, ◌++◌, length, slice_index, Option, Some}
use mathlib.Core.Option.{some}
use lib.ListN.{get_elem?}
use Rattle.atomic_table.specs.Table.{Me}
use Rattle.turnstile.specs.declared.history.Call.{Call}
use Rattle.turnstile.specs.declared.history.View.{View}
use Rattle.turnstile.specs.declared.history.Phase.TheVariants.{Idle, Holding}
use Rattle.turnstile.specs.History.{call_of, calls_by, replay, IsLegal}
use Rattle.turnstile.specs.Numbers.{times, numbers_of}

module _ {S O A : Type 0} (allows : S → O → A → Type 0) (next : S → O → A → S) (dial_of : S → ℕ → ℕ)
    (start : S) where
  -- a pass that had the view v has the turn: it has seen the whole history, its calls in it are those that it made,
  -- and with it is the machine as the history left it
  pub record HasTurn (v : View O A) (me : Me (Option S) (View O A)) : Type 0 where
    pub more : List (Call O A)
    pub machine : S
    pub view_is : me.0 ≡ record v { seen = v.seen ++ more; phase = Holding }
    pub holds : me.1 ≡ (0, Some machine) ∷ []
    pub replayed : machine ≡ replay next start (v.seen ++ more)
    pub legal : IsLegal allows next start (v.seen ++ more)
    pub own : calls_by v.number (v.seen ++ more) ≡ v.mine
    pub glanced : (i : ℕ) → slice_index v.lowest i ≤ dial_of machine i

  -- a pass calls: behind all that it had seen, and some calls more, stands its call, and it is one more of its own.
  -- The answer is allowed there, the number is the length of the history with it, and no dial was glanced at higher
  pub record Calls (v : View O A) (op : O) (answer : A) (number : ℕ) (w : View O A) : Type 0 where
    pub more : List (Call O A)
    pub view_is : w ≡ record v {
      seen = (v.seen ++ more) ++ call_of v.number (op, answer) ∷ [];
      mine = v.mine ++ call_of v.number (op, answer) ∷ [];
      phase = Idle;
    }
    pub allowed : allows (replay next start (v.seen ++ more)) op answer
    pub legal : IsLegal allows next start w.seen
    pub own : calls_by v.number w.seen ≡ w.mine
    pub counts : number ≡ length w.seen % 2 ^ 64
    pub glanced : (i : ℕ) → slice_index v.lowest i ≤ dial_of (replay next start (v.seen ++ more)) i

module _ {O A : Type 0} where
  -- what a pass has seen holds its own calls, those of each pass that was joined to it, and no others
  pub record Accounts (v : View O A) : Type 0 where
    pub own : calls_by v.number v.seen ≡ v.mine
    pub theirs : (k n : ℕ) (cs : List (Call O A)) → get_elem? v.joined k ≡ some (n, cs) → calls_by n v.seen ≡ cs
    pub others : (n : ℕ) → n ≢ v.number → times n (numbers_of v.joined) ≡ 0 → calls_by n v.seen ≡ []
