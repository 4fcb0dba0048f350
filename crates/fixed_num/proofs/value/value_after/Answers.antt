use Rattle.std.proofs.Common.{arith}
use Rattle.std.proofs.lemmas.Str.Parse.{digit_at}
use Rattle.fixed_num.proofs.Values.{digits_step, whole_front}
use Rattle.fixed_num.proofs.value.value_after.Goals as goal

pub overflow_sub-b : goal.overflow_sub-b
overflow_sub-b c = (digit_at c.args.digits.now c.loop-b.b-index c.requires c.loop-b-test.true).0

pub returns-in_err-checked_mul : goal.returns-in_err-checked_mul
returns-in_err-checked_mul c =
    let s = digits_step c.args.start c.loop-b.value c.args.digits.now c.loop-b.b-index c.requires c.loop-b-test.true
    c.loop-b.invariant.is in
    rw c.from_residual.ensures (λ lt. c.in_err-checked_mul.ensures (omega (arith, s.least)))

pub returns-in_err-value : goal.returns-in_err-value
returns-in_err-value c =
    let s = digits_step c.args.start c.loop-b.value c.args.digits.now c.loop-b.b-index c.requires c.loop-b-test.true
    c.loop-b.invariant.is in
    rw c.from_residual-in_err-value.ensures (λ lt. c.in_err-value.ensures
    (omega (arith, s.least, c.in_ok-checked_mul.ensures)))

pub loop-b-preserved : goal.loop-b-preserved
loop-b-preserved c =
    let s = digits_step c.args.start c.loop-b.value c.args.digits.now c.loop-b.b-index c.requires c.loop-b-test.true
    c.loop-b.invariant.is in
    record {
      is = omega (arith, s.is, c.in_ok-checked_mul.ensures, c.in_ok-value.ensures);
      fits = omega (arith, c.in_ok-value.ensures);
    }

pub returns : goal.returns
returns c =
    let v = whole_front c.args.start c.loop-b.value c.args.digits.now c.loop-b.b-index
    (omega arith) c.loop-b.invariant.is in
    (omega (arith, c.loop-b.invariant.fits), v)
