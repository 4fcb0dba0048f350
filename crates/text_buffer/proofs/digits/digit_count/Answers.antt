use Rattle.std.proofs.Common.{ℕ, length, ap, sym, ◌∙◌, arith}
use Rattle.std.specs.Prelude.{decimal}
use Rattle.std.proofs.lemmas.Fmt.{decimal_digit}
use Rattle.text_buffer.proofs.DigitLemmas.{counted}
use Rattle.text_buffer.proofs.digits.digit_count.Goals as goal

pub returns-in-Some : goal.returns-in-Some
returns-in-Some c =
    sym (counted c.args.n c.in-Some.power (omega (arith, c.ranges.n.fits)) c.in-Some.ensures.power_le
    c.in-Some.ensures.next_power_gt)

pub returns-in-None : goal.returns-in-None
returns-in-None c =
    sym (ap length (decimal_digit 0 (omega arith))) ∙ ap (λ (n : ℕ). length (decimal n)) (sym c.in-None.ensures.none)
