-- A sum of times as the code keeps it: nanoseconds, and decimal places of one.
use Rattle.std.specs.Prelude.{◌≡◌, ◌+◌, ◌*◌, ◌^◌, ◌≤◌, ℕ, List, [], ◌∷◌, length, slice_index, Bool, true}
use Rattle.std.specs.Prelude.{false}
use Rattle.agent_config.specs.Durations.{longest, scaled}
use Rattle.agent_config.specs.Durations.{Pair as PairData}
use Rattle.agent_config.specs.declared.sums.Sum.{Sum}

-- the number that decimal digits spell, each as its value
abbrev pub weight : List ℕ → ℕ
weight [] = 0
weight (digit ∷ digits) = digit * 10 ^ length digits + weight digits

-- each is a digit
abbrev pub AreDigits : List ℕ → Type 0
AreDigits digits = (k : ℕ) → slice_index digits k ≤ 9

-- how many places a sum has
abbrev pub places_len : Sum → ℕ
places_len sum = length sum.places.items

-- its value, in units of which 10 ^ places are a nanosecond
abbrev pub value_of : Sum → ℕ
value_of sum = sum.whole * 10 ^ places_len sum + weight sum.places.items

-- a pair was added, or no time is so long
abbrev pub Adds : Bool → Sum → Sum → PairData → Type 0
Adds true old new pair = value_of new ≡ value_of old + scaled (places_len old) pair
Adds false old new pair = (longest + 1) * 10 ^ places_len old ≤ value_of old + scaled (places_len old) pair
