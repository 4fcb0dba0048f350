use Rattle.std.proofs.Common.{◌-ℤ◌, ◌+ℤ◌, arith, rules}
use Rattle.std.proofs.lemmas.Int.{ints, to_z-of_z}
use Rattle.std.specs.Int.{w64, w128}
use Rattle.std.specs.Prelude.{◌<ℤ◌, ◌≤ℤ◌, FitsSigned}
use Rattle.agg_bank.proofs.WindowLemmas.{open_else, open_then}
use Rattle.agg_bank.proofs.window.is_open_to.Goals as goal

pub returns-then-first-time : goal.returns-then-first-time
returns-then-first-time c =
    let line = c.args.line in
    let begin_fits : FitsSigned w128 c.args.begin = c.ranges.begin in
    let time_fits : FitsSigned w64 c.args.time = c.ranges.time in
    let period_fits : FitsSigned w64 c.args.line.period = search rules in
    let delay_fits : FitsSigned w64 c.args.line.delay = search rules in
    let grace_fits : FitsSigned w64 c.args.line.grace = search rules in
    let time_wide : FitsSigned w128 c.args.time = search rules in
    let period_wide : FitsSigned w128 c.args.line.period = search rules in
    let delay_wide : FitsSigned w128 c.args.line.delay = search rules in
    let grace_wide : FitsSigned w128 c.args.line.grace = search rules in
    let first_fits : FitsSigned w128 (c.args.begin -ℤ c.args.line.grace) =
    first_of (search rules, omega (arith, ints)) in
    let end_fits : FitsSigned w128 (c.args.begin +ℤ c.args.line.period) =
    first_of (search rules, omega (arith, ints)) in
    let last_fits : FitsSigned w128 (c.args.begin +ℤ c.args.line.period +ℤ c.args.line.delay) =
    first_of (search rules, omega (arith, ints)) in
    let early : (c.args.begin -ℤ c.args.line.grace) ≤ℤ c.args.time = omega (arith, ints) in
    simp to_z-of_z (open_then line c.args.begin c.args.time early)

pub returns-else-first-time : goal.returns-else-first-time
returns-else-first-time c =
    let line = c.args.line in
    let begin_fits : FitsSigned w128 c.args.begin = c.ranges.begin in
    let time_fits : FitsSigned w64 c.args.time = c.ranges.time in
    let grace_fits : FitsSigned w64 c.args.line.grace = search rules in
    let period_fits : FitsSigned w64 c.args.line.period = search rules in
    let time_wide : FitsSigned w128 c.args.time = search rules in
    let grace_wide : FitsSigned w128 c.args.line.grace = search rules in
    let first_fits : FitsSigned w128 (c.args.begin -ℤ c.args.line.grace) =
    first_of (search rules, omega (arith, ints)) in
    let late : c.args.time <ℤ (c.args.begin -ℤ c.args.line.grace) = omega (arith, ints) in
    simp to_z-of_z (open_else line c.args.begin c.args.time late)
