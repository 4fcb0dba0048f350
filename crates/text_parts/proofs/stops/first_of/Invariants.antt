use Rattle.std.proofs.Common.{◌≤◌, ◌-◌, length}
use Rattle.text_parts.specs.Stops.{is_any_of}
use Rattle.text_parts.proofs.Stopping.{NoneTo}
use Rattle.text_parts.proofs.stops.first_of.Given as goal

-- none of the bytes so far stops the part
abbrev pub invariant-loop-at : goal.invariant-loop-at
invariant-loop-at l = record { within : l.at ≤ length l.bytes; none : NoneTo (is_any_of l.stops) l.bytes l.at }

abbrev pub decreases-loop-at : goal.decreases-loop-at
decreases-loop-at l = length l.bytes - l.at

abbrev pub invariant-loop-last : goal.invariant-loop-last
invariant-loop-last l = record { within : l.last ≤ length l.bytes; none : NoneTo (is_any_of l.stops) l.bytes l.last }

abbrev pub decreases-loop-last : goal.decreases-loop-last
decreases-loop-last l = length l.bytes - l.last
