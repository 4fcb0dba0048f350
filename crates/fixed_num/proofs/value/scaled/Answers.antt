use Rattle.std.proofs.Common.{arith, sym, ◌-◌}
use Rattle.fixed_num.proofs.Magnitude.{times, over, small_power}
use Rattle.fixed_num.proofs.value.scaled.Goals as goal

pub nearest_quotient-requires : goal.nearest_quotient-requires
nearest_quotient-requires c = rw c.power_of_ten-else-places-le9.ensures
    (small_power (c.args.places - 9) (omega arith) (omega arith))

pub returns-then-places-le9 : goal.returns-then-places-le9
returns-then-places-le9 c = rw (c.from.ensures, c.from-then-places-le9.ensures, c.power_of_ten.ensures)
    (sym (times c.args.number 9 c.args.places c.if-places-le9.true))

pub returns-else-places-le9 : goal.returns-else-places-le9
returns-else-places-le9 c = rw (c.nearest_quotient.ensures, c.power_of_ten-else-places-le9.ensures)
    (sym (over c.args.number 9 c.args.places (omega arith)))
