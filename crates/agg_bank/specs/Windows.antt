-- The windows of an aggregator. Window j reaches from j periods up to j + 1 periods, in nanoseconds since 1970.
use Rattle.std.specs.Prelude.{◌+ℤ◌, ◌-ℤ◌, ◌*ℤ◌, ◌&&◌, ℤ, pos, Bool, not, int_le, int_lt, List, [], ◌∷◌, ◌++◌, map}
use Rattle.std.specs.Prelude.{true, false, Option, Some, None, if◌then◌else◌}
use Rattle.std.specs.Int.{int_div_euclid, int_max, int_min}
use Rattle.std.specs.List.{fold}
use Rattle.account.specs.declared.setup.AggLine.{AggLine}
use Rattle.metric.specs.declared.metric.Content.{Content}
use Rattle.agg_keep.specs.declared.closing.Closing.{Closing}
use Rattle.agg_bank.specs.Events.{has_stopped, ticks_of, BankEvent, Offer, Tick, Stop}

-- the window in which a moment is: the moment by the period, rounded down
abbrev pub window_at : AggLine → ℤ → ℤ
window_at line moment = int_div_euclid moment line.period

-- the number of the window that is open: at first the one in which the start is; a tick makes it the greater of itself
-- and of the one in which the tick's moment less the delay is
abbrev pub window_number : AggLine → ℤ → List BankEvent → ℤ
window_number line start events =
    fold int_max (window_at line start) (map (λ moment. window_at line (moment -ℤ line.delay)) (ticks_of events))

abbrev pub begin_of : AggLine → ℤ → ℤ
begin_of line number = number *ℤ line.period

abbrev pub end_of : AggLine → ℤ → ℤ
end_of line number = begin_of line number +ℤ line.period

-- is a time taken while a window is open: from its begin less the grace up to its end and the delay
abbrev pub is_within : AggLine → ℤ → ℤ → Bool
is_within line number time =
    int_le (begin_of line number -ℤ line.grace) time && int_lt time (end_of line number +ℤ line.delay)

-- is a metric taken behind these events: after a stop none is
abbrev pub takes : AggLine → ℤ → List BankEvent → Content → Bool
takes line start events m = not (has_stopped events) && is_within line (window_number line start events) m.time

-- does a window close: a tick closes it where it opens a later one, once, however many it passes
abbrev pub grows : AggLine → ℤ → List BankEvent → ℤ → Bool
grows line start before moment =
    int_lt (window_number line start before) (window_number line start (before ++ Tick moment ∷ []))

-- the closing that an event is to an aggregator, behind the events before it; after a stop there is none
abbrev pub closing_at : AggLine → ℤ → List BankEvent → BankEvent → Option Closing
closing_at line start before (Offer views) = None
closing_at line start before (Tick moment) =
    if not (has_stopped before) && grows line start before moment then Some (record { moment = moment; all = false })
    else None
closing_at line start before (Stop moment) =
    if not (has_stopped before) then Some (record { moment = moment; all = true }) else None

-- the greatest moment
abbrev pub last_moment : ℤ
last_moment = pos 9223372036854775807

-- the time of what is made of the window's members: its end, at most the greatest moment
abbrev pub time_of : AggLine → ℤ → List BankEvent → ℤ
time_of line start before = int_min (end_of line (window_number line start before)) last_moment
