-- What a list of calls makes of a tracker.
use Rattle.std.specs.Prelude.{ℕ, ◌<◌, Bool, List, [], ◌∷◌}
use Rattle.track_groups.specs.Tracker.{TrackerState, IsLive, after_start, after_hold, after_settle}

-- a call that changes a tracker
pub data TrackerCall : Type 0 where
  -- a group of an input starts, with so many copies
  Starting : ℕ → ℕ → TrackerCall
  -- so many more copies of a group wait
  Holding : ℕ → ℕ → TrackerCall
  -- a copy of a group is let go; whether it was dropped
  Settling : ℕ → Bool → TrackerCall

-- what a call leaves
abbrev pub after_call : TrackerState → TrackerCall → TrackerState
after_call state (Starting input copies) = after_start state input copies
after_call state (Holding g more) = after_hold state g more
after_call state (Settling g rejected) = after_settle state g rejected

-- what calls leave, one after the other
unfoldable pub after_calls : TrackerState → List TrackerCall → TrackerState
after_calls state [] = state
after_calls state (call ∷ calls) = after_calls (after_call state call) calls

-- a group was started, and is not live
abbrev pub IsGone : TrackerState → ℕ → Type 0
IsGone state g = (g < state.started) × ¬ IsLive state g

-- Whatever calls come, a group that is no longer live never is again.
abbrev pub StaysGone : Type 0
StaysGone =
    (state : TrackerState) (g : ℕ) (calls : List TrackerCall) → IsGone state g →
    IsGone (after_calls state calls) g
