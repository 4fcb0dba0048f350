-- What happens at one output: views come to it, batches of them are begun and done.
use Rattle.std.specs.Prelude.{◌≡◌, ◌<◌, ℕ, ◌+◌, ◌-◌, Bool, true, false, ◌&&◌, ◌||◌, nat_le, nat_lt, min, max}
use Rattle.std.specs.Prelude.{List, [], ◌∷◌, ◌++◌, if◌then◌else◌}
use Rattle.std.specs.declared.option.Option.{Option}
use Rattle.std.specs.declared.option.Option.TheVariants.{Some, None}
use Rattle.std.specs.Option.{option_to_list}
use Rattle.std.specs.List.{list_any}

-- The views at an output have positions: 0, 1, 2 and so on, in the order in which they came. A range is a
-- first position and one past the last.
pub data LaneEvent : Type 0 where
  -- a view came
  Push : LaneEvent
  -- a batch was begun: the views of a range
  Begin : ℕ → ℕ → LaneEvent
  -- the batch was accepted, or failed
  Done : Bool → LaneEvent

pub record Ranges : Type 0 where
  -- how many views came
  pub pushed : ℕ
  -- one past the last position of the last range that was accepted, 0 at first
  pub written_to : ℕ
  -- the range that was begun and isn't done
  pub begun : Option (ℕ × ℕ)

-- how far is written once a batch is done: to its end where it was accepted
abbrev pub reached : Bool → ℕ → Option (ℕ × ℕ) → ℕ
reached true written_to (Some range) = range.1
reached true written_to None = written_to
reached false written_to range = written_to

abbrev pub ranges_after : Ranges → LaneEvent → Ranges
ranges_after ranges Push = record ranges { pushed = ranges.pushed + 1 }
ranges_after ranges (Begin from to) = record ranges { begun = Some (from, to) }
ranges_after ranges (Done ok) =
    record ranges { written_to = reached ok ranges.written_to ranges.begun; begun = None }

unfoldable pub ranges_from : Ranges → List LaneEvent → Ranges
ranges_from ranges [] = ranges
ranges_from ranges (e ∷ es) = ranges_from (ranges_after ranges e) es

abbrev pub ranges_of : List LaneEvent → Ranges
ranges_of es = ranges_from (record { pushed = 0; written_to = 0; begun = None }) es

-- The next range begins behind what is written, and not before the newest views, as many as the buffer limit
-- says.
abbrev pub next_from : ℕ → Ranges → ℕ
next_from limit ranges = max ranges.written_to (ranges.pushed - limit)

-- It has as many positions as the batch size says, where there are as many.
abbrev pub next_to : ℕ → ℕ → Ranges → ℕ
next_to batch limit ranges = min (next_from limit ranges + batch) ranges.pushed

-- the ranges that were accepted, where this range is open at first
unfoldable pub accepted_from : Option (ℕ × ℕ) → List LaneEvent → List (ℕ × ℕ)
accepted_from range [] = []
accepted_from range (Push ∷ es) = accepted_from range es
accepted_from range (Begin from to ∷ es) = accepted_from (Some (from, to)) es
accepted_from range (Done true ∷ es) = option_to_list range ++ accepted_from None es
accepted_from range (Done false ∷ es) = accepted_from None es

abbrev pub accepted : List LaneEvent → List (ℕ × ℕ)
accepted es = accepted_from None es

-- a range holds a position
abbrev pub holds : ℕ → ℕ × ℕ → Bool
holds position range = nat_le range.0 position && nat_lt position range.1

abbrev pub is_in_open : ℕ → Option (ℕ × ℕ) → Bool
is_in_open position None = false
is_in_open position (Some range) = holds position range

-- one past the last position of the open range, 0 where none is open
abbrev pub open_end : Option (ℕ × ℕ) → ℕ
open_end None = 0
open_end (Some range) = range.1

-- What became of a view that came to an output.
pub data LaneFate : Type 0 where
  Written : LaneFate
  Buffered : LaneFate
  Dropped : LaneFate

-- a range that was accepted holds the position
abbrev pub is_written : List LaneEvent → ℕ → Bool
is_written es position = list_any (holds position) (accepted es)

-- the open range holds it, or it is behind what is written and behind the open range, and among the newest
abbrev pub is_buffered : ℕ → Ranges → ℕ → Bool
is_buffered limit ranges position =
    is_in_open position ranges.begun
    || (nat_le ranges.written_to position
    && nat_le (open_end ranges.begun) position
    && nat_le (ranges.pushed - limit) position)

abbrev pub fate_at : ℕ → List LaneEvent → ℕ → LaneFate
fate_at limit es position =
    if is_written es position then Written
    else (if is_buffered limit (ranges_of es) position then Buffered else Dropped)

-- these are the ends of the next range: none is open, and there is one
pub record IsNextRange (batch limit : ℕ) (ranges : Ranges) (from to : ℕ) : Type 0 where
  pub closed : ranges.begun ≡ None
  pub first : from ≡ next_from limit ranges
  pub end : to ≡ next_to batch limit ranges
  pub some : from < ranges.pushed

abbrev pub IsOpen : Option (ℕ × ℕ) → Type 0
IsOpen None = ⊥
IsOpen (Some range) = Unit {0}

-- Begins and Dones come in turn, and each range is the next one.
abbrev pub MeetsLane : ℕ → ℕ → Ranges → LaneEvent → Type 0
MeetsLane batch limit ranges Push = Unit {0}
MeetsLane batch limit ranges (Begin from to) = IsNextRange batch limit ranges from to
MeetsLane batch limit ranges (Done ok) = IsOpen ranges.begun

-- all events come as they may, after those that left these ranges
unfoldable pub AreLaneEvents : ℕ → ℕ → Ranges → List LaneEvent → Type 0
AreLaneEvents batch limit ranges [] = Unit {0}
AreLaneEvents batch limit ranges (e ∷ es) =
    MeetsLane batch limit ranges e × AreLaneEvents batch limit (ranges_after ranges e) es
