use Rattle.std.proofs.Common.{arith, refl}
use Rattle.turnstile.proofs.TurnSteps.{releases}
use Rattle.turnstile.proofs.waiting.release.Goals as goal

pub store-requires : goal.store-requires
store-requires g c = let h = c.requires.sized in (
  c.requires.same_table,
  omega arith,
  releases g.M.Machine.allows g.M.Machine.next g.M.Machine.dial_of _ _ _ _ _ _ c.args.table.now.key.1 0
      c.requires.published (omega arith) c.requires.machine refl,
)
