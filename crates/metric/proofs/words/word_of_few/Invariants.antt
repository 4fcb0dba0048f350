use Rattle.std.proofs.Common.{◌≡◌, ◌-◌, ◌<◌, ◌≤◌, ◌^◌, length, drop}
use Rattle.std.specs.Int.{bytes_low_first}
use Rattle.metric.proofs.words.word_of_few.Given as goal

-- the bytes from the index on
abbrev pub invariant-loop-at : goal.invariant-loop-at
invariant-loop-at l =
    (bytes_low_first 0 (length l.bytes - l.at) l.word ≡ drop l.at l.bytes)
    × (l.word < 256 ^ (length l.bytes - l.at)) × (l.at ≤ length l.bytes)

abbrev pub decreases-loop-at : goal.decreases-loop-at
decreases-loop-at l = l.at
