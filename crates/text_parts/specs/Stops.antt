-- The bytes that are looked for, and bits that say of sixteen bytes which pass a test.
use Rattle.std.specs.Prelude.{◌≡◌, ◌<◌, ◌≤◌, ◌==◌, ◌||◌, ℕ, Bool, List, slice_index, if◌then◌else◌}
use Rattle.std.specs.Int.{bit_at}

-- a byte is one of these four
abbrev pub is_any_of : List ℕ → ℕ → Bool
is_any_of stops b =
    b == slice_index stops 0 || b == slice_index stops 1 || b == slice_index stops 2 || b == slice_index stops 3

-- bit k says whether byte k passes, and no bit stands for a byte behind the sixteenth
pub record Says (p : ℕ → Bool) (bytes : List ℕ) (bits : ℕ) : Type 0 where
  pub each : (k : ℕ) → k < 16 → bit_at bits k ≡ (if p (slice_index bytes k) then 1 else 0)
  pub none : (k : ℕ) → 16 ≤ k → bit_at bits k ≡ 0
