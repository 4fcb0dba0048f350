-- What it is to let copies go, one after the other.
use Rattle.std.specs.Prelude.{◌≡◌, ℕ, ◌+◌, ◌^◌, ◌<◌, ◌≤◌, ◌++◌, List, count_by, length, slice_index_or}
use Rattle.account.specs.Numbers.{Numbers, input_numbers}
use Rattle.account.specs.declared.entry.Report.{Report}
use Rattle.account.specs.declared.numbers.InputNumbers.{InputNumbers}
use Rattle.track_groups.specs.Settling.{Copy, times, after_copies, is_report_of, reports_with}
use Rattle.track_groups.specs.Tracker.{TrackerState, IsTracker, copies_of}
use Rattle.pipeline_core.specs.ToldView.{ToldState, no_reports}

-- of each group no more copies than wait
abbrev pub HasCopies : List Copy → TrackerState → Type 0
HasCopies copies tracker = (g : ℕ) → times g copies ≤ copies_of tracker g

-- where others were let go before, all are now: so the tracker says, and so do the reports
pub record LetsGo (copies : List Copy) (old : TrackerState) (told : List Report) (new : TrackerState)
    (tells : List Report) : Type 0 where
  pub tracker : (first : TrackerState) (before : List Copy) → IsTracker first → old ≡ after_copies first before →
      new ≡ after_copies first (before ++ copies)
  pub reports : (first : TrackerState) (before : List Copy) → IsTracker first → old ≡ after_copies first before →
      told ≡ reports_with first before → tells ≡ reports_with first (before ++ copies)

-- how many groups of an input were counted
abbrev pub groups_in : InputNumbers → ℕ
groups_in x = x.delivered + x.rejected + x.undelivered

-- the reports of an input, and their places
abbrev pub told_in : List ToldState → ℕ → ToldState
told_in all i = slice_index_or all i no_reports

-- reports may be told: their inputs are known, have places for them, and as many undelivered groups
pub record MayTell (n : Numbers) (old : List ToldState) (reports : List Report) : Type 0 where
  pub known : (i : ℕ) → 0 < count_by (is_report_of i) reports → (i < length old) × (i < length n.inputs)
  pub places : (i : ℕ) → i < length old →
      length (told_in old i).reports + count_by (is_report_of i) reports ≤ (told_in old i).places
  pub some : (i : ℕ) → i < length n.inputs →
      count_by (is_report_of i) reports ≤ (input_numbers n i).undelivered
  pub few : (i : ℕ) → i < length n.inputs → groups_in (input_numbers n i) < 2 ^ 64
