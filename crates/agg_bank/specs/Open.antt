-- The window that is open, by where it begins.
use Rattle.std.specs.Prelude.{◌+ℤ◌, ◌-ℤ◌, ◌≤ℤ◌, ◌&&◌, ℤ, pos, neg_ℤ, Bool, int_le, int_lt, if◌then◌else◌}
use Rattle.std.specs.Int.{int_max}
use Rattle.account.specs.declared.setup.AggLine.{AggLine}
use Rattle.agg_bank.specs.Windows.{begin_of, last_moment, window_at}

-- where the window begins in which a moment is
abbrev pub begin_at : AggLine → ℤ → ℤ
begin_at line moment = begin_of line (window_at line moment)

-- where it begins behind a tick, or behind the stop, at a moment
abbrev pub begin_after : AggLine → ℤ → ℤ → Bool → ℤ
begin_after line begin moment all =
    if all then begin else int_max begin (begin_at line (moment -ℤ line.delay))

-- is a time taken while the window is open that begins here
abbrev pub is_open_to : AggLine → ℤ → ℤ → Bool
is_open_to line begin time =
    int_le (begin -ℤ line.grace) time && int_lt time (begin +ℤ line.period +ℤ line.delay)

-- a window ends at a moment or behind all of them, and begins at or before the greatest one
pub record IsBegin (line : AggLine) (begin : ℤ) : Type 0 where
  pub low : neg_ℤ (pos 9223372036854775808) ≤ℤ (begin +ℤ line.period)
  pub high : begin ≤ℤ last_moment
