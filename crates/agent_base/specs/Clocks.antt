-- The clocks that a world in memory has yet to hand out.
use Rattle.std.specs.Prelude.{◌≡◌, ℕ, List, [], ◌==◌, Bool, Option, Some, None}
use Rattle.std.specs.List.{find}
use Rattle.agent_base.specs.declared.memory.MemClock.{MemClock}
use Rattle.agent_base.specs.declared.fresh.FreshClock.{FreshClock}
use Rattle.agent_base.specs.Moments.{Moments}
use Rattle.agent_base.specs.Memory.{moments_of}

-- the clock has this number
abbrev pub is_of : ℕ → ℕ × FreshClock → Bool
is_of who clock = clock.0 == who

-- the clock itself
abbrev pub clock_of : Option (ℕ × FreshClock) → Option MemClock
clock_of None = None
clock_of (Some clock) = Some clock.1.clock

-- the clock with this number, where there is one
abbrev pub clock_at : List (ℕ × FreshClock) → ℕ → Option MemClock
clock_at clocks who = clock_of (find (is_of who) clocks)

-- the moments of a clock that was added, or of one that wasn't
abbrev pub told_by : Option MemClock → Moments
told_by None = moments_of []
told_by (Some clock) = moments_of clock.moments.items

-- the moments of the clock with this number
abbrev pub moments_at : List (ℕ × FreshClock) → ℕ → Moments
moments_at clocks who = told_by (clock_at clocks who)

-- a clock is the one that was added, or that of an empty list where none was
abbrev pub IsClockOf : Option MemClock → MemClock → Type 0
IsClockOf None clock = moments_of clock.moments.items ≡ moments_of []
IsClockOf (Some added) clock = clock ≡ added
