use Rattle.std.proofs.Common.{◌+◌, arith}
use Rattle.fixed_num.proofs.DigitLemmas.{one_behind, behind_fits}
use Rattle.fixed_num.proofs.plain.digits_behind.Goals as goal

pub overflow_mul-number : goal.overflow_mul-number
overflow_mul-number c =
    let more = one_behind c.args.text.now c.args.point c.loop-at.at c.loop-at.number c.loop-at-test.true
    c.if-not-is_ascii_digit.ensures.bound c.loop-at.invariant.pointed in
    omega (arith, behind_fits c.args.text.now c.args.point (c.loop-at.at + 1) _ c.requires.few more)

pub overflow_add-number : goal.overflow_add-number
overflow_add-number c =
    let more = one_behind c.args.text.now c.args.point c.loop-at.at c.loop-at.number c.loop-at-test.true
    c.if-not-is_ascii_digit.ensures.bound c.loop-at.invariant.pointed in
    omega (arith, behind_fits c.args.text.now c.args.point (c.loop-at.at + 1) _ c.requires.few more)

pub loop-at-preserved : goal.loop-at-preserved
loop-at-preserved c = record {
  within = omega (arith, c.loop-at-test.true);
  pointed = one_behind c.args.text.now c.args.point c.loop-at.at c.loop-at.number c.loop-at-test.true
      c.if-not-is_ascii_digit.ensures.bound c.loop-at.invariant.pointed;
}
