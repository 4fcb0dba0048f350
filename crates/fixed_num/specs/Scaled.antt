-- A whole number in billionths.
use Rattle.std.specs.Prelude.{◌+◌, ◌*◌, ℤ, pos, negsuc, neg_ℤ}

-- as many billionths as a whole number has
abbrev pub scaled : ℤ → ℤ
scaled (pos n) = pos (n * 1000000000)
scaled (negsuc n) = neg_ℤ (pos ((1 + n) * 1000000000))
