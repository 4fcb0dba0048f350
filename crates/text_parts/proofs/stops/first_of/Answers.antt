use Rattle.std.proofs.Common.{◌∙◌, sym, arith}
use Rattle.std.proofs.lemmas.List.Sums.{position_or_len_is}
use Rattle.text_parts.specs.Stops.{is_any_of}
use Rattle.text_parts.proofs.Stopping.{found, missed, says_behind}
use Rattle.text_parts.proofs.stops.first_of.Goals as goal

pub returns-then-bits-ne0-clause-value : goal.returns-then-bits-ne0-clause-value
returns-then-bits-ne0-clause-value c =
    sym (found (is_any_of c.args.stops) c.args.bytes.now c.loop-at.at c.any_bits-bits.result c.lowest.result
    (omega (arith, c.loop-at-test.true, c.loop-at.invariant.within)) c.loop-at.invariant.none
    (says_behind (is_any_of c.args.stops) c.args.bytes.now c.loop-at.at c.any_bits-bits.result
    c.loop-at.invariant.within c.any_bits-bits.ensures) c.lowest.ensures.set c.lowest.ensures.below).0

pub returns-then-bits-ne0-clause-bound : goal.returns-then-bits-ne0-clause-bound
returns-then-bits-ne0-clause-bound c =
    (found (is_any_of c.args.stops) c.args.bytes.now c.loop-at.at c.any_bits-bits.result c.lowest.result
    (omega (arith, c.loop-at-test.true, c.loop-at.invariant.within)) c.loop-at.invariant.none
    (says_behind (is_any_of c.args.stops) c.args.bytes.now c.loop-at.at c.any_bits-bits.result
    c.loop-at.invariant.within c.any_bits-bits.ensures) c.lowest.ensures.set c.lowest.ensures.below).1

pub loop-at-preserved : goal.loop-at-preserved
loop-at-preserved c = record {
  within = omega (arith, c.loop-at-test.true, c.loop-at.invariant.within);
  none = missed (is_any_of c.args.stops) c.args.bytes.now c.loop-at.at c.any_bits-bits.result c.loop-at.invariant.none
      (says_behind (is_any_of c.args.stops) c.args.bytes.now c.loop-at.at c.any_bits-bits.result
      c.loop-at.invariant.within c.any_bits-bits.ensures) (omega (arith, c.if-bits-ne0.false));
}

pub returns-else-not-is_any-clause-value : goal.returns-else-not-is_any-clause-value
returns-else-not-is_any-clause-value c =
    sym (position_or_len_is (is_any_of c.args.stops) c.args.bytes.now c.loop-last.last 0 c.loop-last.invariant.within
    c.loop-last.invariant.none (λ lt. sym c.is_any.ensures ∙ c.if-not-is_any.false))

pub returns-after-loop-last-clause-value : goal.returns-after-loop-last-clause-value
returns-after-loop-last-clause-value c =
    sym (position_or_len_is (is_any_of c.args.stops) c.args.bytes.now c.loop-last.last 0 c.loop-last.invariant.within
    c.loop-last.invariant.none (λ lt. absurd (omega (arith, lt, c.loop-last-test.false))))
