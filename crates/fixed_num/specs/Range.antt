-- The range of a fixed-point number.
use Rattle.std.specs.Prelude.{ℤ, ◌<◌, ◌^◌, ◌*◌, unsigned_abs}

-- the magnitude, in billionths, is below 2^64 * 10^9
abbrev pub InRange : ℤ → Type 0
InRange z = unsigned_abs z < 2 ^ 64 * 10 ^ 9
