-- The input that is generated, and the moments of its clocks.
use Rattle.std.specs.Prelude.{ℕ, ◌*◌, ◌%◌, ◌^◌, ℤ, pos, List, ◌++◌, codes, decimal}
use Rattle.std.specs.List.{flat_map, range_with_len}
use Rattle.agent_base.specs.Moments.{Moments}

-- line k, with its newline: a host by the last digit of k, a value below 1000, and a moment in nanoseconds, a
-- millisecond after that of the line before
unfoldable pub generated_line : ℕ → List ℕ
generated_line k =
    codes "cpu,host=h"
    ++ decimal (k % 10)
    ++ codes " v="
    ++ decimal (k * 7919 % 1000)
    ++ codes "i "
    ++ decimal (k * 1000000)
    ++ codes "\n"

-- so many lines, one behind the other, from a first one on
unfoldable pub generated_from : ℕ → ℕ → List ℕ
generated_from first count = flat_map generated_line (range_with_len first count)

-- so many lines, one behind the other, from line 0 on
unfoldable pub generated_text : ℕ → List ℕ
generated_text count = generated_from 0 count

-- the moment that a generated clock gives at its call n, counted from 0: n seconds after 1970
unfoldable pub generated_moment : ℕ → ℤ
generated_moment n = pos (n * 10 ^ 9)

-- its moments: as many as fit a moment, which is below 2^63 nanoseconds; the last one then comes again and again
unfoldable pub generated_moments : Moments
generated_moments = record { last = 9223372036; at = generated_moment }
