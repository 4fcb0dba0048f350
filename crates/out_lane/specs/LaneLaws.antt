-- A lane against the events at its output: what waits and what is in flight, and what becomes of each item.
use Rattle.std.specs.Prelude.{◌≡◌, ℕ, ◌+◌, ◌-◌, ◌<◌, ◌≤◌, max, true, false, ◌⊎◌, ◌↔◌, IsSome, List, [], ◌∷◌}
use Rattle.std.specs.Prelude.{◌++◌, length, take, drop, Option, Some, None, Result, Ok, Err}
use Rattle.std.specs.Option.{option_to_list}
use Rattle.out_lane.specs.declared.BeginAnswer.{BeginAnswer}
use Rattle.out_lane.specs.declared.BeginAnswer.TheVariants.{InFlight, NothingWaiting}
use Rattle.out_lane.specs.Lane.{LaneState, empty_lane, waiting_from, after_push, pushed_out, after_begin}
use Rattle.out_lane.specs.Lane.{begin_answer, after_accept, after_fail, failed_out, flying}
use Rattle.out_lane.specs.LaneEvents.{LaneEvent, Push, Begin, Done, Ranges, ranges_of, next_from, open_end}
use Rattle.out_lane.specs.LaneEvents.{IsOpen, MeetsLane, AreLaneEvents, LaneFate, Written, Buffered, Dropped}
use Rattle.out_lane.specs.LaneEvents.{fate_at}

-- the ranges before any event
abbrev pub no_ranges : Ranges
no_ranges = record { pushed = 0; written_to = 0; begun = None }

-- where the waiting items begin: behind what is written and behind the open range, and among the newest
abbrev pub oldest_waiting : ℕ → Ranges → ℕ
oldest_waiting limit ranges = max (max ranges.written_to (open_end ranges.begun)) (ranges.pushed - limit)

module _ {X : Type 0} where
  -- the items from one position to before another
  abbrev pub items_between : ℕ → ℕ → List X → List X
  items_between from to offers = take (to - from) (drop from offers)

  -- in flight are the items of the open range, from its first position on; nothing is where no range is open
  abbrev pub IsFlight : Option (ℕ × ℕ) → List X → LaneState X → Type 0
  IsFlight None offers lane = lane.flight ≡ None
  IsFlight (Some range) offers lane = lane.flight ≡ Some (range.0, items_between range.0 range.1 offers)

  -- the lane where these items were pushed, and these are the ranges
  pub record IsLaneAt (batch_size buffer_limit : ℕ) (ranges : Ranges) (offers : List X)
      (lane : LaneState X) : Type 0 where
    pub batch : lane.batch ≡ batch_size
    pub limit : lane.limit ≡ buffer_limit
    pub pushed : lane.pushed ≡ ranges.pushed
    pub offered : length offers ≡ ranges.pushed
    pub flight : IsFlight ranges.begun offers lane
    pub waiting : lane.waiting ≡ drop (oldest_waiting buffer_limit ranges) offers

  -- the lane after these events, which came as they may, where these items were pushed, one by each Push
  pub record IsLaneOf (batch_size buffer_limit : ℕ) (es : List LaneEvent) (offers : List X)
      (lane : LaneState X) : Type 0 where
    pub some : 1 ≤ batch_size
    pub fits : batch_size ≤ buffer_limit
    pub legal : AreLaneEvents batch_size buffer_limit no_ranges es
    pub state : IsLaneAt batch_size buffer_limit (ranges_of es) offers lane

  -- All fates are after some events what they were before.
  abbrev pub KeepsFates : ℕ → List LaneEvent → List LaneEvent → List X → Type 0
  KeepsFates limit before after offers =
      (position : ℕ) → position < length offers → fate_at limit after position ≡ fate_at limit before position

  -- These are the items whose fate changes, in order: they were Buffered, and have this fate. All other fates
  -- stay.
  pub record Becomes (buffer_limit : ℕ) (before after : List LaneEvent) (offers : List X) (fate : LaneFate)
      (items : List X) : Type 0 where
    pub from : ℕ
    pub to : ℕ
    pub ordered : from ≤ to
    pub within : to ≤ length offers
    pub are : items ≡ items_between from to offers
    pub were : (position : ℕ) → from ≤ position → position < to →
        fate_at buffer_limit before position ≡ Buffered
    pub become : (position : ℕ) → from ≤ position → position < to → fate_at buffer_limit after position ≡ fate
    pub others : (position : ℕ) → position < length offers → (position < from) ⊎ (to ≤ position) →
        fate_at buffer_limit after position ≡ fate_at buffer_limit before position

  -- what a push does: the new item is Buffered, and what is handed back becomes Dropped
  pub record Pushes (batch_size buffer_limit : ℕ) (es : List LaneEvent) (offers : List X) (lane : LaneState X)
      (item : X) : Type 0 where
    pub state :
        IsLaneOf batch_size buffer_limit (es ++ Push ∷ []) (offers ++ item ∷ []) (after_push lane item)
    pub comes : fate_at buffer_limit (es ++ Push ∷ []) (length offers) ≡ Buffered
    pub dropped : Becomes buffer_limit es (es ++ Push ∷ []) offers Dropped (option_to_list (pushed_out lane))

  -- what a batch does that is begun: its range is the next one, and all fates stay
  pub record Begins (batch_size buffer_limit : ℕ) (es : List LaneEvent) (offers : List X) (lane : LaneState X)
      (range : ℕ × ℕ) : Type 0 where
    pub meets : MeetsLane batch_size buffer_limit (ranges_of es) (Begin range.0 range.1)
    pub state : IsLaneOf batch_size buffer_limit (es ++ Begin range.0 range.1 ∷ []) offers (after_begin lane)
    pub fates : KeepsFates buffer_limit es (es ++ Begin range.0 range.1 ∷ []) offers

  -- a batch is begun, or a range is open, or none is open and there is no next one
  abbrev pub Answers : ℕ → ℕ → List LaneEvent → List X → LaneState X → Result (ℕ × ℕ) BeginAnswer → Type 0
  Answers batch limit es offers lane (Ok range) = Begins batch limit es offers lane range
  Answers batch limit es offers lane (Err InFlight) = IsOpen (ranges_of es).begun
  Answers batch limit es offers lane (Err NothingWaiting) =
      ((ranges_of es).begun ≡ None) × ((ranges_of es).pushed ≤ next_from limit (ranges_of es))

  -- what an accepted batch does: its items become Written
  pub record Accepts (batch_size buffer_limit : ℕ) (es : List LaneEvent) (offers : List X)
      (lane : LaneState X) : Type 0 where
    pub meets : MeetsLane batch_size buffer_limit (ranges_of es) (Done true)
    pub state : IsLaneOf batch_size buffer_limit (es ++ Done true ∷ []) offers (after_accept lane)
    pub written : Becomes buffer_limit es (es ++ Done true ∷ []) offers Written (flying lane)

  -- what a failed batch does: what is handed back becomes Dropped
  pub record Fails (batch_size buffer_limit : ℕ) (es : List LaneEvent) (offers : List X)
      (lane : LaneState X) : Type 0 where
    pub meets : MeetsLane batch_size buffer_limit (ranges_of es) (Done false)
    pub state : IsLaneOf batch_size buffer_limit (es ++ Done false ∷ []) offers (after_fail lane)
    pub dropped : Becomes buffer_limit es (es ++ Done false ∷ []) offers Dropped (failed_out lane)

  -- the position is one of an item of a batch in flight
  abbrev pub IsOfBatch : Option (ℕ × List X) → ℕ → Type 0
  IsOfBatch None position = ⊥
  IsOfBatch (Some batch) position = (batch.0 ≤ position) × (position < batch.0 + length batch.1)

  -- the position is one of an item in flight, or of one that waits
  abbrev pub IsKept : LaneState X → ℕ → Type 0
  IsKept lane position =
      IsOfBatch lane.flight position ⊎ ((waiting_from lane ≤ position) × (position < lane.pushed))

module _ (X : Type 0) where
  -- a lane to which nothing was pushed is the lane of no events
  abbrev pub NewIsLane : Type 0
  NewIsLane =
      (batch limit : ℕ) → 1 ≤ batch → batch ≤ limit →
      IsLaneOf {X = X} batch limit [] [] (empty_lane batch limit)

  abbrev pub PushMeets : Type 0
  PushMeets =
      (batch limit : ℕ) (es : List LaneEvent) (offers : List X) (lane : LaneState X) (item : X) →
      IsLaneOf batch limit es offers lane → Pushes batch limit es offers lane item

  abbrev pub BeginMeets : Type 0
  BeginMeets =
      (batch limit : ℕ) (es : List LaneEvent) (offers : List X) (lane : LaneState X) →
      IsLaneOf batch limit es offers lane → Answers batch limit es offers lane (begin_answer lane)

  abbrev pub AcceptMeets : Type 0
  AcceptMeets =
      (batch limit : ℕ) (es : List LaneEvent) (offers : List X) (lane : LaneState X) →
      IsLaneOf batch limit es offers lane → IsSome lane.flight → Accepts batch limit es offers lane

  abbrev pub FailMeets : Type 0
  FailMeets =
      (batch limit : ℕ) (es : List LaneEvent) (offers : List X) (lane : LaneState X) →
      IsLaneOf batch limit es offers lane → IsSome lane.flight → Fails batch limit es offers lane

  -- what waits or is in flight is exactly what is Buffered
  abbrev pub KeepsBuffered : Type 0
  KeepsBuffered =
      (batch limit : ℕ) (es : List LaneEvent) (offers : List X) (lane : LaneState X) →
      IsLaneOf batch limit es offers lane → (position : ℕ) → position < length offers →
      (fate_at limit es position ≡ Buffered) ↔ IsKept lane position

-- No item that is newer than a Buffered one is Written.
abbrev pub WritesInOrder : Type 0
WritesInOrder =
    (batch limit : ℕ) (es : List LaneEvent) → 1 ≤ batch → AreLaneEvents batch limit no_ranges es →
    (older newer : ℕ) → older ≤ newer → fate_at limit es older ≡ Buffered →
    fate_at limit es newer ≡ Written → ⊥

-- Written and Dropped never change, whatever comes after.
abbrev pub FatesLast : Type 0
FatesLast =
    (batch limit : ℕ) (es more : List LaneEvent) → 1 ≤ batch →
    AreLaneEvents batch limit no_ranges (es ++ more) → (position : ℕ) →
    (fate_at limit es position ≡ Buffered → ⊥) →
    fate_at limit (es ++ more) position ≡ fate_at limit es position
