use Rattle.fixed_num.proofs.Magnitude.{few_fit}
use Rattle.fixed_num.proofs.value.value_of_digits.Goals as goal

pub fitting_after-requires-clause-fits : goal.fitting_after-requires-clause-fits
fitting_after-requires-clause-fits c = few_fit c.args.digits.now c.requires c.if-digits-le-FITTING.true

pub returns-then-digits-le-FITTING : goal.returns-then-digits-le-FITTING
returns-then-digits-le-FITTING c = (
  few_fit c.args.digits.now c.requires c.if-digits-le-FITTING.true,
  c.fitting_after.ensures,
)
