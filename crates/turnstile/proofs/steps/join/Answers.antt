use Rattle.std.proofs.Common.{arith}
use Rattle.turnstile.proofs.PassSteps.{joins}
use Rattle.turnstile.proofs.steps.join.Goals as goal

pub join_seat-requires : goal.join_seat-requires
join_seat-requires g c = let h = c.requires.sized in (
  c.requires.same_table.0,
  c.requires.same_table.1,
  c.requires.rests.1.1,
  omega arith,
  joins g.M.Machine.allows g.M.Machine.next g.M.Machine.dial_of _ _ _ _ _ _ c.requires.rests.0.0 c.requires.first
      c.requires.rests.1.0,
)
