use Rattle.std.proofs.Common.{◌≡◌, ◌∙◌, ◌-ℤ◌, ℤ, ap, ap₂, subst, sym, rules}
use Rattle.std.proofs.lemmas.Int.{to_z-of_z}
use Rattle.std.specs.Int.{w64, w128, int_max}
use Rattle.std.specs.Prelude.{FitsSigned}
use Rattle.agg_bank.specs.Open.{begin_at, IsBegin}
use Rattle.agg_bank.proofs.WindowLemmas.{after_tick, max_begin}
use Rattle.agg_bank.proofs.window.begin_after.Goals as goal

pub returns-clause-value : goal.returns-clause-value
returns-clause-value c =
    let opened_fits : FitsSigned w128 c.begin_at_tick.result = search rules in
    let max_fits : FitsSigned w128 c.max.result = search rules in
    let moment_fits : FitsSigned w64 c.args.closing.moment = search rules in
    let is : c.max.result ≡ int_max c.args.begin (begin_at c.args.line (c.args.closing.moment -ℤ c.args.line.delay)) =
    c.max.ensures.value ∙ ap₂ int_max (to_z-of_z w128 c.args.begin c.ranges.begin)
    (to_z-of_z w128 c.begin_at_tick.result opened_fits ∙ c.begin_at_tick.ensures.value
    ∙ ap (λ (moment : ℤ). begin_at c.args.line (moment -ℤ c.args.line.delay))
    (to_z-of_z w64 c.args.closing.moment moment_fits)) in
    to_z-of_z w128 c.max.result max_fits ∙ is
    ∙ after_tick c.args.line c.args.begin c.args.closing.moment c.args.closing.all c.if-closing.false

pub returns-clause-fits : goal.returns-clause-fits
returns-clause-fits c =
    let opened_fits : FitsSigned w128 c.begin_at_tick.result = search rules in
    let max_fits : FitsSigned w128 c.max.result = search rules in
    subst (IsBegin c.args.line)
    (sym (to_z-of_z w128 c.max.result max_fits ∙ c.max.ensures.value
    ∙ ap₂ int_max (to_z-of_z w128 c.args.begin c.ranges.begin)
    (to_z-of_z w128 c.begin_at_tick.result opened_fits)))
    (max_begin c.args.line c.args.begin c.begin_at_tick.result c.requires.begin c.begin_at_tick.ensures.fits)
