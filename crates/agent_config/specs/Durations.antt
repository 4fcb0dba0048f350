-- Times, as texts and as whole numbers of seconds spell them.
use Rattle.std.specs.Prelude.{◌==◌, ◌&&◌, ◌+◌, ◌*◌, ◌-◌, ◌/◌, ◌^◌, ◌%◌, ℕ, ℤ, pos, negsuc, zero, suc}
use Rattle.std.specs.Prelude.{Bool, List, [], ◌∷◌, length, codes, nat_le, take, drop}
use Rattle.std.specs.Prelude.{Option, Some, None, option_map, option_and_then, if◌then◌else◌}
use Rattle.std.specs.List.{prefix_len}
use Rattle.std.specs.Str.{bytes_eq}

-- the greatest number of nanoseconds
abbrev pub longest : ℕ
longest = 9223372036854775807

-- a time that fits, or None
abbrev pub fitting : ℕ → Option ℕ
fitting n = if nat_le n longest then Some n else None

-- ---- texts

abbrev pub is_digit : ℕ → Bool
is_digit b = nat_le 48 b && nat_le b 57

-- the number that digits spell, behind those before them
abbrev pub number_behind : ℕ → List ℕ → ℕ
number_behind n [] = n
number_behind n (b ∷ bs) = number_behind (n * 10 + (b - 48)) bs

-- how many digits a text begins with
abbrev pub digits_len : List ℕ → ℕ
digits_len text = prefix_len is_digit text

-- the nanoseconds of the unit that a text begins with, and what is behind it
abbrev pub unit_of : List ℕ → Option (ℕ × List ℕ)
unit_of text =
    if bytes_eq (take 2 text) (codes "ns") then Some (1, drop 2 text)
    else if bytes_eq (take 2 text) (codes "us") then Some (1000, drop 2 text)
    else if bytes_eq (take 2 text) (codes "ms") then Some (1000000, drop 2 text)
    else if bytes_eq (take 1 text) (codes "s") then Some (1000000000, drop 1 text)
    else if bytes_eq (take 1 text) (codes "m") then Some (60000000000, drop 1 text)
    else if bytes_eq (take 1 text) (codes "h") then Some (3600000000000, drop 1 text)
    else None

-- is the first byte of a text a point
abbrev pub has_point : List ℕ → Bool
has_point text = bytes_eq (take 1 text) (codes ".")

-- the digits behind a point that a text may begin with
abbrev pub places_of : List ℕ → List ℕ
places_of text = if has_point text then take (digits_len (drop 1 text)) (drop 1 text) else []

-- what is behind a point that a text may begin with, and the digits behind that
abbrev pub behind_places : List ℕ → List ℕ
behind_places text = if has_point text then drop (digits_len (drop 1 text)) (drop 1 text) else text

-- a decimal and a unit: the digits before the point and behind it, the nanoseconds of the unit, and what is
-- behind
pub record Pair : Type 0 where
  pub whole : List ℕ
  pub places : List ℕ
  pub unit : ℕ
  pub behind : List ℕ

-- one of a unit that is there
abbrev pub with_unit : List ℕ → List ℕ → Option (ℕ × List ℕ) → Option Pair
with_unit whole places None = None
with_unit whole places (Some unit) =
    Some (record { whole = whole; places = places; unit = unit.0; behind = unit.1 })

-- one with a digit
abbrev pub with_digits : List ℕ → List ℕ → Option (ℕ × List ℕ) → Option Pair
with_digits whole places unit =
    if length whole == 0 && length places == 0 then None else with_unit whole places unit

-- the decimal and the unit that a text begins with
abbrev pub pair_of : List ℕ → Option Pair
pair_of text =
    with_digits (take (digits_len text) text) (places_of (drop (digits_len text) text))
    (unit_of (behind_places (drop (digits_len text) text)))

-- the value of a pair, in units of which 10 ^ places are a nanosecond
abbrev pub scaled : ℕ → Pair → ℕ
scaled places pair =
    number_behind (number_behind 0 pair.whole) pair.places * pair.unit * 10 ^ (places - length pair.places)

-- the sum of at most so many pairs, which are the whole text, in the same units
unfoldable pub sum_of : ℕ → ℕ → List ℕ → Option ℕ
sum_of zero places text = if length text == 0 then Some 0 else None
sum_of (suc most) places text =
    if length text == 0 then Some 0
    else option_and_then (λ pair. option_map (λ others. scaled places pair + others)
    (sum_of most places pair.behind)) (pair_of text)

-- the whole number of nanoseconds that such a sum is, where it fits
unfoldable pub whole_of : ℕ → ℕ → Option ℕ
whole_of places sum = if sum % 10 ^ places == 0 then fitting (sum / 10 ^ places) else None

-- the nanoseconds that pairs of a decimal and a unit spell, whose sum is whole and fits. No decimal in a text has
-- more places than the text has bytes
unfoldable pub time_of_pairs : List ℕ → Option ℕ
time_of_pairs text = option_and_then (whole_of (length text)) (sum_of (length text) (length text) text)

-- those that a text spells, which has one pair or more
abbrev pub time_of_text : List ℕ → Option ℕ
time_of_text text = if length text == 0 then None else time_of_pairs text

-- ---- whole numbers of seconds

abbrev pub time_of_seconds : ℤ → Option ℕ
time_of_seconds (pos n) = fitting (n * 1000000000)
time_of_seconds (negsuc n) = None
