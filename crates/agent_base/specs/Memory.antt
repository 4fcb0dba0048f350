-- The moments of a clock in memory.
use Rattle.std.specs.Prelude.{ℤ, pos, ◌-◌, List, length, slice_index_or}
use Rattle.agent_base.specs.Moments.{Moments}

-- a list as moments, of which the last comes again and again; that of 0 alone where the list is empty
abbrev pub moments_of : List ℤ → Moments
moments_of ms = record { last = length ms - 1; at = λ index. slice_index_or ms index (pos 0) }
