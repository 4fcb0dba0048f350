-- The items that wait at an output and the batch in flight, and what each call makes of them.
use Rattle.std.specs.Prelude.{ℕ, ◌+◌, ◌-◌, ◌==◌, min, List, [], ◌∷◌, ◌++◌, length, take, drop, slice_get}
use Rattle.std.specs.Prelude.{Option, Some, None, is_some, Result, Ok, Err, if◌then◌else◌}
use Rattle.out_lane.specs.declared.BeginAnswer.{BeginAnswer}
use Rattle.out_lane.specs.declared.BeginAnswer.TheVariants.{InFlight, NothingWaiting}

-- The items have positions: 0, 1, 2 and so on, in the order in which they were pushed.
pub record LaneState (X : Type 0) : Type 0 where
  -- the most items that a batch has
  pub batch : ℕ
  -- the most items that wait
  pub limit : ℕ
  -- how many items were pushed
  pub pushed : ℕ
  -- the batch in flight, where one is: the position of its first item, and its items, oldest first
  pub flight : Option (ℕ × List X)
  -- the items that wait, oldest first: the last ones that were pushed
  pub waiting : List X

module _ {X : Type 0} where
  -- nothing was pushed, and nothing is in flight
  abbrev pub empty_lane : ℕ → ℕ → LaneState X
  empty_lane batch limit = record { batch = batch; limit = limit; pushed = 0; flight = None; waiting = [] }

  -- the batch of these items that begins at this position, where there is one
  abbrev pub batch_from : Option ℕ → List X → Option (ℕ × List X)
  batch_from None items = None
  batch_from (Some first) items = Some (first, items)

  -- the items of a batch, and none where there is no batch
  abbrev pub batch_items : Option (ℕ × List X) → List X
  batch_items None = []
  batch_items (Some batch) = batch.1

  -- the items in flight, oldest first
  abbrev pub flying : LaneState X → List X
  flying lane = batch_items lane.flight

  -- the newest items of a list, n at most
  abbrev pub newest : ℕ → List X → List X
  newest n items = drop (length items - n) items

  -- the items that are older than these
  abbrev pub older : ℕ → List X → List X
  older n items = take (length items - n) items

  -- the position of the oldest item that waits, and where none does, of the next one to be pushed
  abbrev pub waiting_from : LaneState X → ℕ
  waiting_from lane = lane.pushed - length lane.waiting

  -- The item waits, and of the waiting ones only the newest.
  abbrev pub after_push : LaneState X → X → LaneState X
  after_push lane item =
      record lane { pushed = lane.pushed + 1; waiting = newest lane.limit (lane.waiting ++ item ∷ []) }

  -- the oldest waiting item, where as many waited as may
  abbrev pub pushed_out : LaneState X → Option X
  pushed_out lane = if length lane.waiting == lane.limit then slice_get lane.waiting 0 else None

  -- The oldest waiting items are in flight, as many as a batch has at most.
  abbrev pub after_begin : LaneState X → LaneState X
  after_begin lane =
      record lane {
        flight = Some (waiting_from lane, take lane.batch lane.waiting);
        waiting = drop lane.batch lane.waiting;
      }

  -- a batch is in flight, or nothing waits, or the batch goes from the first of these positions to before the
  -- second
  abbrev pub begin_answer : LaneState X → Result (ℕ × ℕ) BeginAnswer
  begin_answer lane =
      if is_some lane.flight
      then Err InFlight
      else (if length lane.waiting == 0
      then Err NothingWaiting
      else Ok (waiting_from lane, waiting_from lane + min lane.batch (length lane.waiting)))

  -- Nothing is in flight.
  abbrev pub after_accept : LaneState X → LaneState X
  after_accept lane = record lane { flight = None }

  -- The batch waits again, before the items that wait, and only the newest of all these wait.
  abbrev pub after_fail : LaneState X → LaneState X
  after_fail lane = record lane { flight = None; waiting = newest lane.limit (flying lane ++ lane.waiting) }

  -- the items that no longer wait after this
  abbrev pub failed_out : LaneState X → List X
  failed_out lane = older lane.limit (flying lane ++ lane.waiting)
