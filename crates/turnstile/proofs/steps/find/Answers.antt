use Rattle.std.proofs.Common.{arith, refl}
use Rattle.turnstile.proofs.DialSteps.{finds}
use Rattle.turnstile.proofs.steps.find.Goals as goal

pub load-requires : goal.load-requires
load-requires g c =
    let h = c.requires.sized in
    let inside = c.requires.next.1 in (
      c.requires.same_table,
      omega arith,
      finds g.M.Machine.allows g.M.Machine.next g.M.Machine.dial_of _ _ _ _ c.args.dial c.args.new _ _ _
          c.requires.known.0 c.requires.known.1 c.requires.next.0 (omega arith) c.requires.shows (omega arith),
    )

pub returns-clause-shown : goal.returns-clause-shown
returns-clause-shown g c =
    (c.load.ensures.2.1 _ c.args.dial c.args.new c.requires.known.0 c.requires.known.1 c.requires.next.0 refl).1

pub returns-clause-unshown : goal.returns-clause-unshown
returns-clause-unshown g c =
    (c.load.ensures.2.1 _ c.args.dial c.args.new c.requires.known.0 c.requires.known.1 c.requires.next.0 refl).2
