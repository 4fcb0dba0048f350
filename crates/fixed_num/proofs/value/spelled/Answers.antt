use Rattle.std.proofs.Common.{arith, ◌∙◌, sym, ap, ◌≤◌, min, ℕ, ◌++◌, lit≤}
use Rattle.std.specs.Str.Parse.{digits_value}
use Rattle.fixed_num.specs.declared.value.TheConstants.{CAP}
use Rattle.fixed_num.specs.declared.fixed.TheConstants.{LIMIT}
use Rattle.fixed_num.proofs.Values.{value_append}
use Rattle.fixed_num.proofs.Magnitude.{times, over, min_agrees}
use Rattle.fixed_num.proofs.value.spelled.Goals as goal

pub returns-then-down-up : goal.returns-then-down-up
returns-then-down-up c =
    let first = c.capped.ensures.value 0 (omega arith) in
    let both = c.capped-then-down-up.ensures.value (digits_value 10 c.args.whole.now) first in
    let all = c.grown.ensures (digits_value 10 (c.args.whole.now ++ c.args.fraction.now))
    (both ∙ ap (λ (n : ℕ). min n CAP) (sym (value_append 0 c.args.whole.now c.args.fraction.now))) in
    let low : LIMIT ≤ CAP = lit≤ tt in
    rw (times (digits_value 10 (c.args.whole.now ++ c.args.fraction.now)) c.args.up c.args.down c.if-down-up.true)
    (min_agrees LIMIT CAP _ _ low all)

pub returns-else-down-up : goal.returns-else-down-up
returns-else-down-up c =
    rw (over (digits_value 10 (c.args.whole.now ++ c.args.fraction.now)) c.args.up c.args.down (omega arith))
    c.shrunk.ensures
