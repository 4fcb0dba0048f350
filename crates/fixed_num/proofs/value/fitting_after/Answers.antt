use Rattle.std.proofs.Common.{arith}
use Rattle.std.proofs.lemmas.Str.Parse.{digit_at}
use Rattle.fixed_num.proofs.Values.{digits_step, whole_front}
use Rattle.fixed_num.proofs.value.fitting_after.Goals as goal

pub overflow_sub-value : goal.overflow_sub-value
overflow_sub-value c = (digit_at c.args.digits.now c.loop-b.b-index c.requires.digits c.loop-b-test.true).0

pub overflow_mul-value : goal.overflow_mul-value
overflow_mul-value c =
    let s = digits_step c.args.start c.loop-b.value c.args.digits.now c.loop-b.b-index c.requires.digits
    c.loop-b-test.true c.loop-b.invariant in
    omega (arith, s.least, c.requires.fits)

pub overflow_add-value : goal.overflow_add-value
overflow_add-value c =
    let s = digits_step c.args.start c.loop-b.value c.args.digits.now c.loop-b.b-index c.requires.digits
    c.loop-b-test.true c.loop-b.invariant in
    omega (arith, s.least, c.requires.fits)

pub loop-b-preserved : goal.loop-b-preserved
loop-b-preserved c =
    let s = digits_step c.args.start c.loop-b.value c.args.digits.now c.loop-b.b-index c.requires.digits
    c.loop-b-test.true c.loop-b.invariant in
    s.is

pub returns : goal.returns
returns c = whole_front c.args.start c.loop-b.value c.args.digits.now c.loop-b.b-index (omega arith) c.loop-b.invariant
