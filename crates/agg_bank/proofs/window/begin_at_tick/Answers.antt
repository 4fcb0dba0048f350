use Rattle.std.proofs.Common.{◌∙◌, ◌-ℤ◌, arith, rules}
use Rattle.std.proofs.lemmas.Int.{ints, to_z-of_z}
use Rattle.std.specs.Int.{w64, w128}
use Rattle.std.specs.Prelude.{FitsSigned}
use Rattle.agg_bank.proofs.window.begin_at_tick.Goals as goal

pub returns-clause-value : goal.returns-clause-value
returns-clause-value c =
    let moment_fits : FitsSigned w64 c.args.moment = c.ranges.moment in
    let delay_fits : FitsSigned w64 c.args.line.delay = search rules in
    let moment_wide : FitsSigned w128 c.args.moment = search rules in
    let delay_wide : FitsSigned w128 c.args.line.delay = search rules in
    let both_fit : FitsSigned w128 (c.args.moment -ℤ c.args.line.delay) = search rules in
    let result_fits : FitsSigned w128 c.begin_at.result = search rules in
    to_z-of_z w128 c.begin_at.result result_fits ∙ (simp to_z-of_z at c.begin_at.ensures.value)

pub returns-clause-fits : goal.returns-clause-fits
returns-clause-fits c =
    let moment_fits : FitsSigned w64 c.args.moment = c.ranges.moment in
    let delay_fits : FitsSigned w64 c.args.line.delay = search rules in
    let result_fits : FitsSigned w128 c.begin_at.result = search rules in
    let before = c.begin_at.ensures.before in
    omega (arith, ints)
