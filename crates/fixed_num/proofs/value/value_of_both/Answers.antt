use Rattle.std.proofs.Common.{◌∙◌, sym, ap, ℕ, arith}
use Rattle.std.specs.Str.Parse.{digits_value_after}
use Rattle.fixed_num.proofs.Values.{value_append}
use Rattle.fixed_num.proofs.Magnitude.{few_fit, both_fit}
use Rattle.fixed_num.proofs.value.value_of_both.Goals as goal

pub fitting_after-requires-clause-fits : goal.fitting_after-requires-clause-fits
fitting_after-requires-clause-fits c = few_fit c.args.front.now c.requires.0 c.if-front-le-FITTING.true

pub fitting_after-requires-then-back-front-clause-fits : goal.fitting_after-requires-then-back-front-clause-fits
fitting_after-requires-then-back-front-clause-fits c =
    both_fit c.args.front.now c.args.back.now c.fitting_after.result c.requires.0 c.requires.1
    c.if-front-le-FITTING.true (omega (arith, c.if-back-front.true)) c.fitting_after.ensures

pub returns-then-back-front : goal.returns-then-back-front
returns-then-back-front c =
    c.fitting_after-then-back-front.ensures ∙ ap (λ (n : ℕ). digits_value_after 10 n c.args.back.now)
    c.fitting_after.ensures ∙ sym (value_append 0 c.args.front.now c.args.back.now)

pub returns : goal.returns
returns c =
    c.in_ok-number.ensures.1 ∙ ap (λ (n : ℕ). digits_value_after 10 n c.args.back.now) c.in_ok-first.ensures.1
    ∙ sym (value_append 0 c.args.front.now c.args.back.now)
