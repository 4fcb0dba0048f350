-- What becomes of live groups as a list of copies is let go.
use Rattle.std.specs.Prelude.{◌≡◌, ℕ, ◌+◌, ◌-◌, ◌<◌, ◌≤◌, ◌==◌, ◌&&◌, ◌||◌, Bool, not, List, [], ◌∷◌, ◌++◌, map}
use Rattle.std.specs.Prelude.{filter, count_by, length, slice_index_or, insert, Option, Some, None}
use Rattle.std.specs.List.Sorted.{IsNonDecreasingBy}
use Rattle.account.specs.declared.entry.Report.{Report}
use Rattle.track_groups.specs.declared.group.LiveGroup.{LiveGroup}
use Rattle.track_groups.specs.Tracker.{TrackerState, IsTracker, IsLive, after_settle, live_of, copies_of}

-- a copy that is let go: its group, and whether it was dropped
pub record Copy : Type 0 where
  pub group : ℕ
  pub dropped : Bool

-- whether a copy is one of this group
abbrev pub is_copy_of : ℕ → Copy → Bool
is_copy_of g copy = copy.group == g

-- whether it is one, and was dropped
abbrev pub is_dropped_of : ℕ → Copy → Bool
is_dropped_of g copy = copy.group == g && copy.dropped

-- how many of these copies are of a group
abbrev pub times : ℕ → List Copy → ℕ
times g copies = count_by (is_copy_of g) copies

-- how many of them were dropped
abbrev pub drops : ℕ → List Copy → ℕ
drops g copies = count_by (is_dropped_of g) copies

-- whether these are all copies of a group that wait
abbrev pub all_go : List Copy → LiveGroup → Bool
all_go copies group = times group.number copies == group.copies

-- whether a copy of a group was dropped before, or is among these
abbrev pub is_marked : List Copy → LiveGroup → Bool
is_marked copies group = group.rejected || not (drops group.number copies == 0)

-- a group without these copies
abbrev pub left_of : List Copy → LiveGroup → LiveGroup
left_of copies group =
    record group { copies = group.copies - times group.number copies; rejected = is_marked copies group }

-- the groups of which other copies wait, without these
abbrev pub after_copies : TrackerState → List Copy → TrackerState
after_copies state copies =
    record state { live = map (left_of copies) (filter (λ group. not (all_go copies group)) state.live) }

-- what is told of a group whose last copies are among these: it was delivered where none was dropped
abbrev pub report_with : List Copy → LiveGroup → Report
report_with copies group =
    record { group = group.number; input = group.input; delivered = not (is_marked copies group) }

-- what is told as these copies are let go: of each group whose last ones they are, by rising number
abbrev pub reports_with : TrackerState → List Copy → List Report
reports_with state copies = map (report_with copies) (filter (all_go copies) state.live)

-- whether a report is of an input
abbrev pub is_report_of : ℕ → Report → Bool
is_report_of input report = report.input == input

-- reports stand by rising number
abbrev pub RiseTold : List Report → Type 0
RiseTold reports = IsNonDecreasingBy (λ report. report.group) reports

-- the place of a number among reports: those before it have smaller ones, and the others don't
pub record IsPlaceOf (number : ℕ) (reports : List Report) (at : ℕ) : Type 0 where
  pub within : at ≤ length reports
  pub before : (k : ℕ) (d : Report) → k < at → (slice_index_or reports k d).group < number
  pub behind : (k : ℕ) (d : Report) → at ≤ k → k < length reports → number ≤ (slice_index_or reports k d).group

-- what is told of a call, if anything is, is put in its place among reports that stand by rising number
abbrev pub PutsTold : Option Report → List Report → List Report → Type 0
PutsTold None olds news = news ≡ olds
PutsTold (Some report) olds news =
    RiseTold olds → (at : ℕ) × IsPlaceOf report.group olds at × (news ≡ insert olds at report)

-- Where no copy is let go, all is as before, and nothing is told.
abbrev pub NoneGoes : Type 0
NoneGoes =
    (state : TrackerState) → IsTracker state → (after_copies state [] ≡ state) × (reports_with state [] ≡ [])

-- A copy more of a live group that is let go is one call of `Tracker::settle` more.
abbrev pub OneGoes : Type 0
OneGoes =
    (state : TrackerState) (copies : List Copy) (g : ℕ) (dropped : Bool) → IsTracker state →
    IsLive (after_copies state copies) g →
    after_settle (after_copies state copies) g dropped ≡ after_copies state
    (copies ++ record { group = g; dropped = dropped } ∷ [])

-- Each live group of an input is live still, or it is told of.
abbrev pub AllTold : Type 0
AllTold =
    (state : TrackerState) (copies : List Copy) (input : ℕ) → IsTracker state →
    live_of (after_copies state copies) input + count_by (is_report_of input) (reports_with state copies) ≡ live_of
    state input

-- What holds of every tracker holds of what is left, where no more copies of a group are let go than wait.
abbrev pub StillTracks : Type 0
StillTracks =
    (state : TrackerState) (copies : List Copy) → IsTracker state →
    ((g : ℕ) → times g copies ≤ copies_of state g) → IsTracker (after_copies state copies)
