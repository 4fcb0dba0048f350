use Rattle.std.proofs.Common.{rules, ◌≡◌, ◌∙◌, sym, Ok, Err, ap}
use Rattle.fixed_num.specs.Whole.{numeral_read_as, behind_sign}
use Rattle.fixed_num.proofs.Numerals.{int_from_err, int_from_ok, from_sign}
use Rattle.fixed_num.proofs.whole.read_int.Goals as goal

pub returns-in_err-number : goal.returns-in_err-number
returns-in_err-number c =
    let e : numeral_read_as (behind_sign c.args.text.now) ≡ Err c.in_err-number.field-0.0 =
    ap numeral_read_as (from_sign c.args.text.now c.sign_at.result c.sign_at.ensures.value) ∙ sym c.read_numeral.ensures
    ∙ c.in_err-number.was in
    let r : c.from_residual.result ≡ Err c.in_err-number.field-0.0 = search rules in
    r ∙ sym (int_from_err _ (behind_sign c.args.text.now) _ e)

pub returns : goal.returns
returns c =
    let e : numeral_read_as (behind_sign c.args.text.now) ≡ Ok c.in_ok-number.number =
    ap numeral_read_as (from_sign c.args.text.now c.sign_at.result c.sign_at.ensures.value) ∙ sym c.read_numeral.ensures
    ∙ c.in_ok-number.was in
    c.signed.ensures ∙ rw c.is_negative-negative.ensures (sym (int_from_ok _ (behind_sign c.args.text.now) _ e))
