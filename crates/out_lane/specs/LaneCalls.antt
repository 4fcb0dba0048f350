-- A list of calls of a lane, one after another, and the events that they are at the output.
use Rattle.std.specs.Prelude.{ℕ, ◌≤◌, true, false, IsSome, List, [], ◌∷◌, ◌++◌, Result, Ok, Err}
use Rattle.out_lane.specs.declared.BeginAnswer.{BeginAnswer}
use Rattle.out_lane.specs.Lane.{LaneState, empty_lane, after_push, after_begin, begin_answer, after_accept}
use Rattle.out_lane.specs.Lane.{after_fail}
use Rattle.out_lane.specs.LaneEvents.{LaneEvent, Push, Begin, Done}
use Rattle.out_lane.specs.LaneLaws.{IsLaneOf}

-- a call of a lane of items of X
pub data LaneCall (X : Type 0) : Type 0 where
  Pushing : X → LaneCall X
  Beginning : LaneCall X
  Accepting : LaneCall X
  Failing : LaneCall X

-- A begin that answers a range is an event.
abbrev pub events_of_answer : Result (ℕ × ℕ) BeginAnswer → List LaneEvent
events_of_answer (Ok range) = Begin range.0 range.1 ∷ []
events_of_answer (Err answer) = []

module _ {X : Type 0} where
  -- what begin leaves, by its answer
  abbrev pub after_answer : LaneState X → Result (ℕ × ℕ) BeginAnswer → LaneState X
  after_answer lane (Ok range) = after_begin lane
  after_answer lane (Err answer) = lane

  -- the lane after a call
  abbrev pub after_call : LaneState X → LaneCall X → LaneState X
  after_call lane (Pushing item) = after_push lane item
  after_call lane Beginning = after_answer lane (begin_answer lane)
  after_call lane Accepting = after_accept lane
  after_call lane Failing = after_fail lane

  -- A batch is accepted or fails only where one is in flight.
  abbrev pub MayCall : LaneState X → LaneCall X → Type 0
  MayCall lane (Pushing item) = Unit {0}
  MayCall lane Beginning = Unit {0}
  MayCall lane Accepting = IsSome lane.flight
  MayCall lane Failing = IsSome lane.flight

  -- the events that a call is, and the items that it pushes
  abbrev pub events_of_call : LaneState X → LaneCall X → List LaneEvent
  events_of_call lane (Pushing item) = Push ∷ []
  events_of_call lane Beginning = events_of_answer (begin_answer lane)
  events_of_call lane Accepting = Done true ∷ []
  events_of_call lane Failing = Done false ∷ []

  abbrev pub pushed_by : LaneCall X → List X
  pushed_by (Pushing item) = item ∷ []
  pushed_by Beginning = []
  pushed_by Accepting = []
  pushed_by Failing = []

  -- the lane after all calls, and whether they may come, from a lane on
  unfoldable pub after_calls : LaneState X → List (LaneCall X) → LaneState X
  after_calls lane [] = lane
  after_calls lane (call ∷ calls) = after_calls (after_call lane call) calls

  unfoldable pub MayCallAll : LaneState X → List (LaneCall X) → Type 0
  MayCallAll lane [] = Unit {0}
  MayCallAll lane (call ∷ calls) = MayCall lane call × MayCallAll (after_call lane call) calls

  -- the events and the items of all calls, in order
  unfoldable pub events_of_calls : LaneState X → List (LaneCall X) → List LaneEvent
  events_of_calls lane [] = []
  events_of_calls lane (call ∷ calls) =
      events_of_call lane call ++ events_of_calls (after_call lane call) calls

  unfoldable pub pushed_by_all : List (LaneCall X) → List X
  pushed_by_all [] = []
  pushed_by_all (call ∷ calls) = pushed_by call ++ pushed_by_all calls

-- After each list of calls that may come, a new lane is the lane of their events.
abbrev pub CallsMeet : (X : Type 0) → Type 0
CallsMeet X =
    (batch limit : ℕ) (calls : List (LaneCall X)) → 1 ≤ batch → batch ≤ limit →
    MayCallAll (empty_lane batch limit) calls →
    IsLaneOf batch limit (events_of_calls (empty_lane batch limit) calls) (pushed_by_all calls)
    (after_calls (empty_lane batch limit) calls)
