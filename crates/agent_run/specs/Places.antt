-- What a run leaves of the places that it opened.
use Rattle.std.specs.Prelude.{◌≡◌, ◌≤◌, ℕ, List, take, ◌++◌, ◌⊎◌, codes}
use Rattle.std.specs.Io.KnownBytes.{Appends}
use Rattle.agent_base.specs.Counts.{Rose}
use Rattle.agent_base.specs.Places.{Place, Rest, FailsToOpen, SameBut, SameAtAll}
use Rattle.agent_run.specs.declared.status.Status.{Status}
use Rattle.agent_run.specs.declared.status.Status.TheVariants.{OutOfMemory}

-- opening a place failed, which was counted; it has its bytes again, and every other place is as before
pub record IsUnopened (place : List ℕ) (old new : List ℕ → Place) : Type 0 where
  pub failed : FailsToOpen (old place) (new place)
  pub others : SameBut place old new

-- at no place did the count of failed opens change
abbrev pub AreOpensSame : (List ℕ → Place) → (List ℕ → Place) → Type 0
AreOpensSame old new = (place : List ℕ) → (new place).open_faults ≡ (old place).open_faults

-- opening the place failed
abbrev pub RoseToOpen : Place → Place → Type 0
RoseToOpen old new = Rose old.open_faults new.open_faults

-- a read or a put of the part of the place failed
abbrev pub RoseToUse : Place → Place → Type 0
RoseToUse old new = Rose old.part_faults new.part_faults

-- a line was reported, or a prefix of it where the count of failed reports rose
pub record ReportsLine (old new : Rest) (line : List ℕ) : Type 0 where
  pub later : old.report_faults ≤ new.report_faults
  pub told : Appends old.reported new.reported line
      ⊎ (Rose old.report_faults new.report_faults
      × ((n : ℕ) × Appends old.reported new.reported (take n line)))

-- the line that says that the words are no command
abbrev pub usage_line : List ℕ
usage_line = codes "usage\n"

-- the line that says which place wasn't opened
abbrev pub open_fault_line : List ℕ → List ℕ
open_fault_line place = codes "fault: open " ++ place ++ codes "\n"

-- the line that says which place wasn't read
abbrev pub read_fault_line : List ℕ → List ℕ
read_fault_line place = codes "fault: read " ++ place ++ codes "\n"

-- a command ended with this status and this line was reported, or memory was short
abbrev pub AnswersWith : Status → Status → Rest → Rest → List ℕ → Type 0
AnswersWith result status old new line =
    ((result ≡ status) × ReportsLine old new line) ⊎ (result ≡ OutOfMemory)

-- the words were no command: every place is as before, and the line of usage was reported
pub record IsUnused (ins new_ins outs new_outs : List ℕ → Place) (rest new_rest : Rest) : Type 0 where
  pub ins_same : SameAtAll ins new_ins
  pub outs_same : SameAtAll outs new_outs
  pub told : ReportsLine rest new_rest usage_line
