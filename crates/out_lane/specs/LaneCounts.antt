-- How many items have each fate, before and after an event.
use Rattle.std.specs.Prelude.{◌≡◌, ℕ, ◌+◌, ◌*◌, zero, suc, Bool, true, false, List, length}
use Rattle.out_lane.specs.LaneEvents.{LaneEvent, LaneFate, Buffered, fate_at}
use Rattle.out_lane.specs.LaneLaws.{Becomes}

-- 1 where a test passes
abbrev pub ones : Bool → ℕ
ones true = 1
ones false = 0

-- how many of the n positions from one on pass a test
abbrev pub positions_counted : (ℕ → Bool) → ℕ → ℕ → ℕ
positions_counted test from zero = 0
positions_counted test from (suc n) = ones (test from) + positions_counted test (from + 1) n

-- how many of the first n items have a fate that passes a test
abbrev pub fates_counted : (LaneFate → Bool) → ℕ → List LaneEvent → ℕ → ℕ
fates_counted test limit es n = positions_counted (λ p. test (fate_at limit es p)) 0 n

-- As many items as change their fate are no longer Buffered, and have the new fate.
abbrev pub BecomesCounts : (X : Type 0) → Type 0
BecomesCounts X =
    (test : LaneFate → Bool) (limit : ℕ) (before after : List LaneEvent) (offers : List X) (fate : LaneFate)
    (items : List X) → Becomes limit before after offers fate items →
    fates_counted test limit after (length offers) + ones (test Buffered) * length items
    ≡ fates_counted test limit before (length offers) + ones (test fate) * length items
