-- Bytes by their names.
use Rattle.std.specs.Prelude.{ℕ}

abbrev pub colon : ℕ
colon = 58

abbrev pub left_brace : ℕ
left_brace = 123

abbrev pub right_brace : ℕ
right_brace = 125
