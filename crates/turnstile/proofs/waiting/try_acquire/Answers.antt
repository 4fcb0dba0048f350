use Rattle.std.proofs.Common.{arith, ap}
use borrow.Author.Tests.{eqb-true, eqb-false}
use Rattle.turnstile.specs.View.{is_live}
use Rattle.turnstile.proofs.TurnSteps.{acquires}
use Rattle.turnstile.proofs.waiting.try_acquire.Goals as goal

pub compare_exchange-requires : goal.compare_exchange-requires
compare_exchange-requires g c = let h = c.requires.sized in (
  c.requires.same_table,
  omega arith,
  acquires g.M.Machine.allows g.M.Machine.next g.M.Machine.dial_of _ _ _ _ _ _ c.requires.known
      (ap is_live c.requires.rests.0) c.requires.rests.1,
)

pub returns-clause-won : goal.returns-clause-won
returns-clause-won g c = λ e. (c.compare_exchange.ensures.2 _ c.requires.known).0
    (eqb-true c.compare_exchange.result 0 e)

pub returns-clause-lost : goal.returns-clause-lost
returns-clause-lost g c = λ e. (c.compare_exchange.ensures.2 _ c.requires.known).1
    (eqb-false c.compare_exchange.result 0 e)
