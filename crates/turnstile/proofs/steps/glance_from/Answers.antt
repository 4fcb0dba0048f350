use Rattle.std.proofs.Common.{arith, ap, ◌∙◌, refl}
use Rattle.turnstile.proofs.DialSteps.{glances}
use Rattle.turnstile.proofs.steps.glance_from.Goals as goal

pub load-requires : goal.load-requires
load-requires g c = let h = c.requires.sized in let n = c.requires.inside in (
  c.requires.same_table,
  omega arith,
  glances g.M.Machine.allows g.M.Machine.next g.M.Machine.dial_of _ _ _ _ _ _ _ c.requires.known
      c.requires.rests.0 (omega arith),
)

pub returns-clause-same_table : goal.returns-clause-same_table
returns-clause-same_table g c =
    let t = c.load.ensures.2 in
    let d = t.1 _ c.args.dial c.requires.known refl in
    (c.load.ensures.0, c.load.ensures.1, (ap (λ v. v.phase) d.0 ∙ c.requires.rests.0, t.0 ∙ c.requires.rests.1))

pub returns-clause-view : goal.returns-clause-view
returns-clause-view g c = (c.load.ensures.2.1 _ c.args.dial c.requires.known refl).0

pub returns-clause-before : goal.returns-clause-before
returns-clause-before g c = (c.load.ensures.2.1 _ c.args.dial c.requires.known refl).1
