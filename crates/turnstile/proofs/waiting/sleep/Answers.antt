use Rattle.std.proofs.Common.{rules, arith, ap, ◌∙◌, ◌+◌, ◌-◌, ◌%◌, ◌^◌}
use Rattle.turnstile.proofs.TurnSteps.{waits}
use Rattle.turnstile.proofs.waiting.sleep.Goals as goal

pub fetch_add-requires : goal.fetch_add-requires
fetch_add-requires g c = let h = c.requires.sized in let d = c.requires.dials in (
  c.requires.same_table,
  omega arith,
  waits g.M.Machine.allows g.M.Machine.next g.M.Machine.dial_of _ _ _ _ (3 + c.args.dials) 1 c.args.seat.now.me
      (λ n. (n + 1) % 2 ^ 64) (omega arith) c.requires.rests.0,
)

pub fetch_sub-requires : goal.fetch_sub-requires
fetch_sub-requires g c = let h = c.requires.sized in let d = c.requires.dials in (
  search rules,
  omega arith,
  waits g.M.Machine.allows g.M.Machine.next g.M.Machine.dial_of _ _ _ _
      (3 + c.args.dials) 1 c.fetch_add.new.seat.me
      (λ n. (n + (2 ^ 64 - 1)) % 2 ^ 64) (omega arith) (ap (λ m. m.0.phase) c.fetch_add.ensures.2
      ∙ c.requires.rests.0),
)
