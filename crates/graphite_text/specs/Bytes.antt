-- Bytes by their names.
use Rattle.std.specs.Prelude.{ℕ}

abbrev pub minus : ℕ
minus = 45

abbrev pub semicolon : ℕ
semicolon = 59
