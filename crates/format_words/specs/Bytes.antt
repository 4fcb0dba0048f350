-- Bytes by their names.
use Rattle.std.specs.Prelude.{ℕ}

abbrev pub star : ℕ
star = 42

abbrev pub dot : ℕ
dot = 46
