use Rattle.std.proofs.Common.{sym}
use Rattle.std.proofs.lemmas.Bool.{eqb-true}
use Rattle.fixed_num.specs.View.{decimal}
use Rattle.fixed_num.proofs.Magnitude.{plain}
use Rattle.fixed_num.proofs.value.plain_value.Goals as goal

pub returns : goal.returns
returns c =
    plain (decimal c.args.parts.now) c.in_ok-number.number c.scaled.result
    (eqb-true _ _ (sym c.if-not-is_empty.ensures)) c.in_ok-number.ensures c.scaled.ensures
