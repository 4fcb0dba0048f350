use Rattle.std.proofs.Common.{ℕ, arith, refl, subst}
use Rattle.std.specs.Prelude.{SomeIff, pos}
use Rattle.fixed_num.specs.Range.{InRange}
use Rattle.fixed_num.proofs.DigitLemmas.{whole_given, pointed_given}
use Rattle.fixed_num.proofs.plain.plain_number.Goals as goal

pub returns-then-point-text : goal.returns-then-point-text
returns-then-point-text c =
    whole_given c.args.text.now c.first_digits-front.result.1 c.first_digits-front.result.0 c.of_magnitude.result
    c.if-point-eq0.false c.if-point-text.true c.first_digits-front.ensures.spells
    (subst (λ (n : ℕ). SomeIff c.of_magnitude.result (InRange (pos n)) (pos n)) c.billionths_of.ensures
    c.of_magnitude.ensures)

pub returns : goal.returns
returns c =
    pointed_given c.args.text.now c.first_digits-front.result.1 _ c.in_ok-number.number c.of_magnitude-2.result
    c.if-point-eq0.false
    (omega (arith, c.first_digits-front.ensures.bound, c.if-point-text.false)) refl
    (omega (arith, c.if-text-point-gt-PLACES.false)) c.in_ok-number.ensures
    (subst (λ (n : ℕ). SomeIff c.of_magnitude-2.result (InRange (pos n)) (pos n)) c.billionths_of-2.ensures
    c.of_magnitude-2.ensures)
