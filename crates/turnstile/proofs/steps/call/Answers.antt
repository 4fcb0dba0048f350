use Rattle.std.proofs.Common.{◌≡◌, ◌≤◌, ℕ, ◌%◌, ◌^◌, List, [], ◌∷◌, length, get_or, Some, None, Option}
use Rattle.std.proofs.Common.{refl, sym, ap, ◌∙◌, subst, rules}
use Rattle.atomic_table.specs.Table.{rest}
use Rattle.turnstile.specs.declared.history.View.{View}
use Rattle.turnstile.specs.declared.history.Phase.TheVariants.{Idle, Publishing}
use Rattle.turnstile.specs.History.{replay}
use Rattle.turnstile.proofs.WholeCalls.{taken, machine_after, dials_rise_after, called}
use Rattle.turnstile.proofs.steps.call.Given.{Over}
use Rattle.turnstile.proofs.steps.call.Goals.{After-commit-number}
use Rattle.turnstile.proofs.steps.call.Goals as goal

-- behind the operation the machine is as the history with this call leaves it
left : (g : Over) (c : After-commit-number g) → c.apply-answer.new.self
    ≡ replay g.M.Machine.next c.args.table.now.key.0.value c.commit-number.new.seat.me.0.seen
left g c =
    let won = c.acquire.ensures.won in
    let out = taken won c.exchange.ensures.2 c.exchange.ensures.3 c.unwrap-machine.ensures in
    machine_after g.M.Machine.allows g.M.Machine.next g.M.Machine.dial_of c.args.table.now.key.0.value
    c.args.seat.now.me.0 _ _ won.more _ _ _ _ _ out.0 out.1 c.of-said.ensures c.apply-answer.ensures.after
    c.commit-number.ensures.committed

pub exchange-requires : goal.exchange-requires
exchange-requires g c =
    let won = c.acquire.ensures.won in
    (search rules, (Some won.machine, won.holds ∙ ap (λ cs. (0, Some won.machine) ∷ rest cs) (sym won.holds)))

pub commit-number-requires-clause-call : goal.commit-number-requires-clause-call
commit-number-requires-clause-call g c = refl

pub commit-number-requires-clause-allowed : goal.commit-number-requires-clause-allowed
commit-number-requires-clause-allowed g c =
    let won = c.acquire.ensures.won in
    let out = taken won c.exchange.ensures.2 c.exchange.ensures.3 c.unwrap-machine.ensures in
    let state = out.1 ∙ ap (λ v. replay g.M.Machine.next c.args.table.now.key.0.value v.seen) (sym out.0) in
    subst (λ (t : g.row.M.Denot × g.row.M-Op.Denot). g.M.Machine.allows t.0 t.1 c.apply-answer.result)
    (λ i. (state i, sym c.of-said.ensures i)) c.apply-answer.ensures.allowed

pub publish_all-requires-clause-machine : goal.publish_all-requires-clause-machine
publish_all-requires-clause-machine g c =
    left g (goal.at.publish_all-requires-clause-machine g c).After-commit-number

pub publish_all-requires-clause-none_fell : goal.publish_all-requires-clause-none_fell
publish_all-requires-clause-none_fell g c =
    let won = c.acquire.ensures.won in
    let out = taken won c.exchange.ensures.2 c.exchange.ensures.3 c.unwrap-machine.ensures in
    dials_rise_after g.M.Machine.allows g.M.Machine.next g.M.Machine.dial_of c.args.table.now.key.0.value
    c.args.seat.now.me.0 _ _ won.more _ _ _ _ _ out.0 out.1 c.of-said.ensures c.apply-answer.ensures.after
    c.commit-number.ensures.committed
    (λ i. g.met.M.Machine.dials_rise _ _ _ i c.apply-answer.ensures.allowed)

pub release-requires-clause-published : goal.release-requires-clause-published
release-requires-clause-published g c =
    ap (λ v. v.phase) (ap (λ m. m.0) c.exchange-2.ensures.3 ∙ c.publish_all.ensures.published)

pub release-requires-clause-machine : goal.release-requires-clause-machine
release-requires-clause-machine g c =
    let won = c.acquire.ensures.won in
    let start = c.args.table.now.key.0.value in
    let given = c.exchange-2.ensures.3 in
    let now = ap (λ m. m.0) given ∙ c.publish_all.ensures.published in
    let Carried : Type 0 = List (ℕ × Option g.row.M.Denot) in
    let emptied = ap (λ m. m.1) c.exchange.ensures.3
    ∙ ap (λ cs. let z : Carried = (0, None) ∷ rest cs in z) won.holds in
    let same = c.publish_all.ensures.same_table.2 ∙ (c.commit-number.ensures.same_table.2 ∙ emptied) in
    let carried = ap (λ m. m.1) given ∙ ap (λ cs. (0, Some c.apply-answer.new.self) ∷ rest cs) same in
    carried ∙ ap (λ s. let z : Carried = (0, Some s) ∷ [] in z)
    (left g (goal.at.release-requires-clause-machine g c).After-commit-number
    ∙ ap (λ v. replay g.M.Machine.next start v.seen) (sym now))

pub returns-clause-call : goal.returns-clause-call
returns-clause-call g c =
    let won = c.acquire.ensures.won in
    let out = taken won c.exchange.ensures.2 c.exchange.ensures.3 c.unwrap-machine.ensures in
    let V : Type 0 = View g.row.M-Op.Denot g.row.M-Answer.Denot in
    let v : V = c.args.seat.now.me.0 in
    let dials = c.args.table.now.key.1 in
    let published = c.publish_all.ensures.published in
    called g.M.Machine.allows g.M.Machine.next g.M.Machine.dial_of c.args.table.now.key.0.value v _ _ _ won.more _ _ _ _
    dials out.0 won.legal won.own
    (subst (λ y. g.M.Machine.allows y c.args.op c.apply-answer.result) out.1 c.apply-answer.ensures.allowed)
    c.of-said.ensures
    (published ∙ ap (λ w. let z : V = record w { phase = Publishing dials } in z) c.commit-number.ensures.committed)
    (c.commit-number.ensures.number ∙ ap (λ w. length w.seen % 2 ^ 64) (sym published))
    (c.release.ensures.released.0
    ∙ ap (λ m. let z : V = record m.0 { phase = Idle } in z) c.exchange-2.ensures.3)
    (λ i. subst (λ y. get_or v.lowest i 0 ≤ g.M.Machine.dial_of y i) won.replayed (won.glanced i))
