use Rattle.std.proofs.Common.{arith, ℕ, List, ◌++◌, length, lit≤}
use Rattle.std.specs.Str.Parse.{digits_value}
use Rattle.std.proofs.lemmas.List.{length-append}
use Rattle.fixed_num.specs.Decimal.{billionths}
use Rattle.fixed_num.specs.declared.value.TheConstants.{CAP}
use Rattle.fixed_num.specs.declared.fixed.TheConstants.{LIMIT}
use Rattle.fixed_num.proofs.Values.{AllDigits-append}
use Rattle.fixed_num.proofs.Magnitude.{cap_up, cap_down}
use Rattle.fixed_num.proofs.value.value_of.Goals as goal

pub returns-then-parts : goal.returns-then-parts
unfolding billionths
returns-then-parts c =
    let ds : List ℕ = c.args.parts.now.whole.now ++ c.args.parts.now.fraction.now in
    let all = AllDigits-append c.args.parts.now.whole.now c.args.parts.now.fraction.now c.requires.whole
    c.requires.fraction in
    let len = length-append c.args.parts.now.whole.now c.args.parts.now.fraction.now in
    let power = c.capped-power.ensures.value 0 (omega arith) in
    rw c.if-parts.true (cap_down LIMIT CAP ds _ _ (length c.args.parts.now.fraction.now) _ all power
    (omega arith) c.spelled.ensures)

pub returns-else-parts : goal.returns-else-parts
unfolding billionths
returns-else-parts c =
    let power = c.capped-power.ensures.value 0 (omega arith) in
    rw c.if-parts.false (cap_up LIMIT CAP (digits_value 10 (c.args.parts.now.whole.now
    ++ c.args.parts.now.fraction.now)) _ _ (length c.args.parts.now.fraction.now) _ power (omega arith)
    (lit≤ tt) c.spelled-else-parts.ensures)
