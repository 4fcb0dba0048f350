use Rattle.std.proofs.Common.{◌≡◌, ◌^◌, ◌<◌, arith, ap, ◌∙◌, rules}
use Rattle.turnstile.proofs.DialSteps.{publishes}
use Rattle.turnstile.proofs.WholeCalls.{rose}
use Rattle.turnstile.proofs.steps.publish.Goals as goal

pub fetch_add-requires : goal.fetch_add-requires
fetch_add-requires g c =
    let h = c.requires.sized in
    let next = c.requires.next in
    let p = c.args.dial in
    let same : c.find-old.new.seat.me.0 ≡ c.args.seat.now.me.0 = c.find-old.ensures.unshown c.if-old-new.true in
    let r = rose g.M.Machine.allows g.M.Machine.next g.M.Machine.dial_of c.args.table.now.key.0.value
    c.args.seat.now.me.0 c.find-old.new.seat.me.0 p c.find-old.result c.dial-new.result _ same
    c.find-old.ensures.found c.dial-new.ensures c.requires.machine c.requires.none_fell in
    let small : c.dial-new.result < 2 ^ 64 = c.dial-new.type_inv in (
      search rules,
      omega arith,
      publishes g.M.Machine.allows g.M.Machine.next g.M.Machine.dial_of _ _ _ _ p _ _
          (ap (λ v. v.phase) same ∙ next.0) (let inside = next.1 in omega arith) r.0 (let high = r.1 in omega arith),
    )
