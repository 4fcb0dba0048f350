use Rattle.std.proofs.Common.{arith, ap, sym, ◌∙◌, ℕ, ◌+◌, ◌%◌, ◌^◌, [], ◌∷◌, length, length-append}
use Rattle.std.proofs.Math.Nat.{mod-add-mod}
use Rattle.turnstile.specs.History.{call_of}
use Rattle.turnstile.proofs.TurnSteps.{commits}
use Rattle.turnstile.proofs.steps.commit.Goals as goal

pub fetch_add-found-requires : goal.fetch_add-found-requires
fetch_add-found-requires g c =
    let h = c.requires.sized in
    let said : g.row.M-Op.Denot × g.row.M-Answer.Denot = (c.args.op.now.value, c.args.answer.now) in (
      c.requires.same_table,
      omega arith,
      commits g.M.Machine.allows g.M.Machine.next g.M.Machine.dial_of _ _ _ _ _ _ said c.requires.call
          c.requires.holding c.requires.allowed g.met.M.Machine.dials_rise,
    )

pub returns-clause-same_table : goal.returns-clause-same_table
returns-clause-same_table g c =
    let e = c.fetch_add-found.ensures in
    let t = e.2 (c.args.op.now.value, c.args.answer.now) c.requires.call in
    (e.0, e.1, t.1)

pub returns-clause-committed : goal.returns-clause-committed
returns-clause-committed g c =
    (c.fetch_add-found.ensures.2 (c.args.op.now.value, c.args.answer.now) c.requires.call).0

pub returns-clause-number : goal.returns-clause-number
returns-clause-number g c =
    let t = c.fetch_add-found.ensures.2 (c.args.op.now.value, c.args.answer.now) c.requires.call in
    let v = c.args.seat.now.me.0 in
    let more = length-append v.seen (call_of v.number (c.args.op.now.value, c.args.answer.now) ∷ []) in
    ap (λ (k : ℕ). (k + 1) % 2 ^ 64) t.2
    ∙ (mod-add-mod (length v.seen) (2 ^ 64) 1
    ∙ (ap (λ (k : ℕ). k % 2 ^ 64) (sym more) ∙ ap (λ w. length w.seen % 2 ^ 64) (sym t.0)))
