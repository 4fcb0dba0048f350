-- Why a run stops while an input still holds a gather: nothing came on any more.
use Rattle.std.specs.Prelude.{◌≡◌, ◌≤◌, ℕ, ℤ, not, Bool, true, false, List, ◌∷◌, ◌++◌, length, take, count_by, is_some}
use Rattle.std.specs.Prelude.{slice_get}
use Rattle.std.specs.List.{AllByRecursion}
use Rattle.std.specs.declared.option.Option.TheVariants.{Some}
use Rattle.account.specs.Says.{gather_of}
use Rattle.account.specs.Setup.{Setup}
use Rattle.account.specs.declared.entry.Entry.{Entry}
use Rattle.account.specs.declared.entry.Entry.TheVariants.{Done, Stop, Take}
use Rattle.metric.specs.declared.metric.Content.{Content}
use Rattle.pipeline_core.specs.Groups.{live_count}

-- whether a run comes on with an entry: pieces were gathered, an item was taken, or a batch was accepted
abbrev pub comes_on : Entry → Bool
comes_on (Take item) = true
comes_on (Done output ok reports) = ok
comes_on e = is_some (gather_of e)

-- whether a batch failed
abbrev pub has_failed : Entry → Bool
has_failed (Done output ok reports) = not ok
has_failed _ = false

-- with no entry the run comes on
abbrev pub AreStill : List Entry → Type 0
AreStill entries = AllByRecursion (λ (e : Entry). comes_on e ≡ false) entries

-- since a journal last came on so many batches failed, at least
pub record HasFailed (count : ℕ) (journal : List Entry) : Type 0 where
  pub before : List Entry
  pub stretch : List Entry
  pub are : journal ≡ before ++ stretch
  pub still : AreStill stretch
  pub failed : count ≤ count_by has_failed stretch

-- An input is tracked, and directly before its Stop a journal has a stretch with which nothing comes on, in which at
-- least so many batches failed; all through it the input has as many live groups as it may have.
pub record IsHeldBack (tries : ℕ) (setup : Setup) (journal : List Entry) (input : ℕ) : Type 0 where
  pub most : ℕ
  pub tracked : slice_get setup.inputs input ≡ Some (Some most)
  pub before : List Entry
  pub stretch : List Entry
  pub moment : ℤ
  pub made : List Content
  pub behind : List Entry
  pub are : journal ≡ before ++ (stretch ++ Stop moment made ∷ behind)
  pub still : AreStill stretch
  pub failed : tries ≤ count_by has_failed stretch
  pub full : (n : ℕ) → n ≤ length stretch → live_count setup (before ++ take n stretch) input ≡ most
