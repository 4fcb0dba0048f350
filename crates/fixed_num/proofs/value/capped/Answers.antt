use Rattle.std.proofs.Common.{arith, ◌∙◌}
use Rattle.std.proofs.lemmas.Str.Parse.{digit_at}
use Rattle.fixed_num.specs.declared.value.TheConstants.{CAP}
use Rattle.fixed_num.proofs.Values.{capped_more}
use Rattle.fixed_num.proofs.value.capped.Goals as goal

pub overflow_sub-b : goal.overflow_sub-b
overflow_sub-b c = (digit_at c.args.digits.now c.loop-b.b-index c.requires c.loop-b-test.true).0

pub loop-b-preserved : goal.loop-b-preserved
loop-b-preserved c = (
  omega (arith, c.min-value-in-loop-b.ensures),
  λ n h. c.min-value-in-loop-b.ensures
      ∙ capped_more CAP n c.loop-b.value c.args.digits.now c.loop-b.b-index c.requires c.loop-b-test.true
      (c.loop-b.invariant.1 n h),
)
