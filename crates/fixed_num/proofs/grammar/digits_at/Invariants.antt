use Rattle.std.proofs.Common.{◌≡◌, ℕ, ◌<◌, get_or, true, take}
use Rattle.std.specs.Char.{is_ascii_digit}
use Rattle.std.specs.Str.Parse.{AllDigits}
use Rattle.fixed_num.proofs.grammar.digits_at.Given as goal

abbrev pub invariant-loop-i : goal.invariant-loop-i
invariant-loop-i l = AllDigits 10 (take l.i l.bytes) × ((k : ℕ) → k < l.i → is_ascii_digit (get_or l.bytes k 0) ≡ true)
