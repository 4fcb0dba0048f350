use Rattle.std.proofs.Common.{◌+◌, arith}
use Rattle.fixed_num.proofs.DigitLemmas.{one_digit, spelled_fits}
use Rattle.fixed_num.proofs.plain.first_digits.Goals as goal

pub overflow_mul-number : goal.overflow_mul-number
overflow_mul-number c =
    let more = one_digit c.args.text.now c.loop-at.number c.loop-at.at c.loop-at-test.true
    c.if-not-is_ascii_digit.ensures.bound c.loop-at.invariant.spells in
    omega (arith, spelled_fits c.args.text.now _ (c.loop-at.at + 1) c.requires.few more)

pub overflow_add-number : goal.overflow_add-number
overflow_add-number c =
    let more = one_digit c.args.text.now c.loop-at.number c.loop-at.at c.loop-at-test.true
    c.if-not-is_ascii_digit.ensures.bound c.loop-at.invariant.spells in
    omega (arith, spelled_fits c.args.text.now _ (c.loop-at.at + 1) c.requires.few more)

pub loop-at-preserved : goal.loop-at-preserved
loop-at-preserved c = record {
  within = omega (arith, c.loop-at-test.true);
  spells = one_digit c.args.text.now c.loop-at.number c.loop-at.at c.loop-at-test.true
      c.if-not-is_ascii_digit.ensures.bound c.loop-at.invariant.spells;
}
