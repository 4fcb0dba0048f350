use Rattle.fixed_num.proofs.DigitLemmas.{numeral_given}
use Rattle.fixed_num.proofs.plain.plain_numeral.Goals as goal

pub returns : goal.returns
returns c =
    numeral_given c.args.text.now c.first_digits-number.result.1 c.first_digits-number.result.0 c.if-count-eq0.false
    c.if-count-text.false
    c.if-text-gt-FEW.false c.first_digits-number.ensures.spells
