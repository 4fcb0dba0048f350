-- The canonical text of a number of billionths.
use Rattle.std.specs.Prelude.{◌≡◌, ℕ, zero, suc, ◌+◌, ◌/◌, ◌%◌, ◌^◌, Bool, true, false, ◌==◌, List, [], ◌∷◌}
use Rattle.std.specs.Prelude.{◌++◌, if◌then◌else◌, pos, negsuc, Ok, ℤ}
use Rattle.std.specs.Fmt.{decimal}
use Rattle.fixed_num.specs.Fixed.{read_as}
use Rattle.fixed_num.specs.Range.{InRange}

-- the digits of n that stand in k decimal places, without the zeros at their end
unfoldable pub places_of : ℕ → ℕ → List ℕ
places_of zero n = []
places_of (suc k) n = if n == 0 then [] else (48 + n / 10 ^ k) ∷ places_of k (n % 10 ^ k)

-- the point and the digits of the billionths behind it, where there are any
abbrev pub fraction_text : ℕ → List ℕ
fraction_text n = if n == 0 then [] else 46 ∷ places_of 9 n

-- a minus where the number is negative, and the digits of its whole part
abbrev pub front_text : Bool → ℕ → List ℕ
front_text negative whole = (if negative then 45 ∷ [] else []) ++ decimal whole

-- the text of a number, given whether it is negative, its whole part and the billionths behind the point
abbrev pub number_text : Bool → ℕ → ℕ → List ℕ
number_text negative whole billionths = front_text negative whole ++ fraction_text billionths

-- the text of a magnitude in billionths, behind its sign
abbrev pub canonical : Bool → ℕ → List ℕ
canonical negative n = number_text negative (n / 10 ^ 9) (n % 10 ^ 9)

-- the text of a number of billionths
abbrev pub canonical_text : ℤ → List ℕ
canonical_text (pos n) = canonical false n
canonical_text (negsuc n) = canonical true (suc n)

-- the canonical text of each number in range is read as the number
abbrev pub ReadsCanonical : Type 0
ReadsCanonical = (z : ℤ) → InRange z → read_as (canonical_text z) ≡ Ok z
