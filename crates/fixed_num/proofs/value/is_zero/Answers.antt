use Rattle.std.proofs.Common.{arith, ◌∙◌, ◌+◌}
use Rattle.std.proofs.lemmas.Str.Parse.{digit_at, digits_value-take-le}
use Rattle.fixed_num.proofs.Values.{value_more, digit_is}
use Rattle.fixed_num.proofs.value.is_zero.Goals as goal

pub returns-then-b-ne48 : goal.returns-then-b-ne48
returns-then-b-ne48 c =
    let more = value_more 0 c.args.digits.now c.loop-b.b-index c.loop-b-test.true in
    let range = digit_at c.args.digits.now c.loop-b.b-index c.requires c.loop-b-test.true in
    let is = digit_is _ range in
    let part = digits_value-take-le 10 c.args.digits.now (c.loop-b.b-index + 1) (omega arith) in
    omega arith

pub loop-b-preserved : goal.loop-b-preserved
loop-b-preserved c =
    let more = value_more 0 c.args.digits.now c.loop-b.b-index c.loop-b-test.true in
    let range = digit_at c.args.digits.now c.loop-b.b-index c.requires c.loop-b-test.true in
    let is = digit_is _ range in
    more ∙ omega arith
