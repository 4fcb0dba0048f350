use Rattle.std.proofs.Common.{sym, ◌∙◌, length, arith, below_more}
use Rattle.std.specs.Char.{is_ascii_digit}
use Rattle.std.proofs.lemmas.List.Sums.{prefix_len_is}
use Rattle.std.proofs.lemmas.Int.Digits.{digits_more}
use Rattle.fixed_num.proofs.grammar.digits_at.Goals as goal

pub returns-then-not-is_ascii_digit-clause-value : goal.returns-then-not-is_ascii_digit-clause-value
returns-then-not-is_ascii_digit-clause-value c = sym (prefix_len_is is_ascii_digit c.args.bytes.now c.loop-i.i 0
    (omega arith) c.loop-i.invariant.1 (λ h. sym c.is_ascii_digit.ensures.value ∙ c.if-not-is_ascii_digit.true))

pub returns-clause-value : goal.returns-clause-value
returns-clause-value c = sym (prefix_len_is is_ascii_digit c.args.bytes.now (length c.args.bytes.now) 0 (omega arith)
    (λ k h. c.loop-i.invariant.1 k (omega arith)) (λ h. absurd (omega arith)))

pub loop-i-preserved : goal.loop-i-preserved
loop-i-preserved c = (
  digits_more 10 c.args.bytes.now c.loop-i.i c.loop-i-test.true c.loop-i.invariant.0
      c.if-not-is_ascii_digit.ensures.bound,
  below_more _ _ c.loop-i.invariant.1 (sym c.is_ascii_digit.ensures.value ∙ c.if-not-is_ascii_digit.false),
)
