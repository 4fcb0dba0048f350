use Rattle.std.proofs.Common.{arith}
use Rattle.fixed_num.proofs.Writing.{room_for, signed_front}
use Rattle.fixed_num.proofs.text.write_front.Goals as goal

pub write_digits-digits-requires : goal.write_digits-digits-requires
write_digits-digits-requires c = let r = room_for c.args.whole (omega arith) in (omega arith, omega arith)

pub overflow_sub-buffer : goal.overflow_sub-buffer
overflow_sub-buffer c = let r = room_for c.args.whole (omega arith) in
    omega (arith, c.write_digits-digits.ensures.start)

pub overflow_sub-result : goal.overflow_sub-result
overflow_sub-result c = let r = room_for c.args.whole (omega arith) in
    omega (arith, c.write_digits-digits.ensures.start)

pub returns-then-negative-clause-text : goal.returns-then-negative-clause-text
returns-then-negative-clause-text c =
    let r = room_for c.args.whole (omega arith) in
    rw c.if-negative.true (signed_front c.write_digits-digits.new.buf c.args.buffer.now c.write_digits-digits.result
    c.args.whole (omega (arith, c.write_digits-digits.auto.buf, c.write_digits-digits.ensures.start))
    c.write_digits-digits.ensures.written (omega (arith, c.write_digits-digits.ensures.start)))
