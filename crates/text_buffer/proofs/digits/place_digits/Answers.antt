use Rattle.std.proofs.Common.{ℕ, ◌+◌, ap, arith}
use Rattle.std.specs.Prelude.{decimal}
use Rattle.std.proofs.lemmas.Fmt.{decimal_nonempty}
use Rattle.text_buffer.proofs.DigitLemmas.{room_for, digits_placed}
use Rattle.text_buffer.proofs.digits.place_digits.Goals as goal

pub overflow_add-end : goal.overflow_add-end
overflow_add-end c =
    omega (arith, c.requires, c.digit_count.ensures, room_for c.args.n (omega (arith, c.ranges.n.fits)))

pub write_digits-requires : goal.write_digits-requires
write_digits-requires c =
    let most = room_for c.args.n (omega (arith, c.ranges.n.fits)) in
    (omega (arith, c.digit_count.ensures), omega (arith, c.digit_count.ensures, c.requires))

pub returns : goal.returns
returns c =
    let small = c.ranges.n.fits in
    let most = room_for c.args.n (omega (arith, small)) in
    digits_placed c.args.cells.now c.write_digits.new.buf (decimal c.args.n) c.args.at c.write_digits.result
    (c.args.at + c.digit_count.result) (decimal_nonempty c.args.n (omega (arith, small)))
    (omega (arith, c.digit_count.ensures, c.requires)) (ap (λ (k : ℕ). c.args.at + k) c.digit_count.ensures)
    c.write_digits.ensures.start c.write_digits.ensures.written c.write_digits.ensures.before
