-- The rule holds on where a step changes no call, and not who has the turn or which dials are published.
use Rattle.std.proofs.Common.{◌≡◌, ◌∙◌, ℕ, length, get_or, Option}
use Rattle.atomic_table.specs.Table.{State}
use Rattle.turnstile.specs.declared.history.View.{View}
use Rattle.turnstile.specs.Numbers.{Numbers}
use Rattle.turnstile.specs.Turns.{Turns}
use Rattle.turnstile.specs.Dials.{Dials}
use Rattle.turnstile.specs.Rule.{IsKept}

module _ {S O A : Type 0} {allows : S → O → A → Type 0} {next : S → O → A → S} {dial_of : S → ℕ → ℕ} {start : S}
    {dials : ℕ} where
  -- the parts of the rule hold of the state behind the step, over the history as it was
  pub goes_on : {s s' : State (Option S) (View O A)} (r : IsKept allows next dial_of start dials s)
      → length s'.words ≡ length s.words
      → Numbers r.history (get_or s'.words 2 0) s'.views
      → Turns next start r.history r.owner (get_or s'.words 0 0) (get_or s'.words 1 0) s'.homes s'.views
      → Dials next dial_of start dials r.history r.before r.done s'.words s'.views
      → IsKept allows next dial_of start dials s'
  goes_on r as_many numbers turns shows = record {
    history = r.history;
    before = r.before;
    done = r.done;
    owner = r.owner;
    legal = r.legal;
    wide = as_many ∙ r.wide;
    numbers = numbers;
    turns = turns;
    shows = shows;
  }
