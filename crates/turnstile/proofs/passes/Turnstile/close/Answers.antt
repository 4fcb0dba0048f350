use Rattle.std.proofs.Common.{◌≡◌, ℕ, List, [], Some, Option, sym, refl, ap, subst, ◌∙◌}
use Rattle.std.specs.Option.{IsSome}
use mathlib.Core.Option.{some, some-injective}
use lib.ListN.{get_elem?}
use Rattle.atomic_table.specs.Table.{Final, Seen}
use Rattle.turnstile.specs.declared.history.View.{View}
use Rattle.turnstile.specs.declared.history.Phase.TheVariants.{Idle}
use Rattle.turnstile.specs.History.{replay, IsLegal}
use Rattle.turnstile.specs.Calls.{Accounts}
use Rattle.turnstile.specs.Rule.{IsKept}
use Rattle.turnstile.proofs.Ends.{ends}
use Rattle.turnstile.proofs.passes.Turnstile.close.Goals as goal

-- what the machine's home holds once the table is closed, and what is known of the first pass; v is its view as the
-- table has it, and w as contracts see it
at_home : {S O A : Type 0} (allows : S → O → A → Type 0) (next : S → O → A → S) (dial_of : S → ℕ → ℕ) (start start' : S)
    (dials id : ℕ) (v w : View O A) (ws : List ℕ) (xs : List (Option S))
    → Final (Seen (IsKept allows next dial_of start dials) id v) ws xs → v.phase ≡ Idle
    → start ≡ start' → v ≡ w → w.number ≡ 0 → w.split ≡ []
    → (get_elem? xs 0 ≡ some (Some (replay next start' w.seen))) × IsLegal allows next start' w.seen × Accounts w
at_home {S = S} {O = O} {A = A} allows next dial_of start start' dials id v w ws xs f idle begun same zero_is back =
    let e = ends allows next dial_of start dials id v f.0 f.1 idle
    (ap (λ (x : View O A). x.number) same ∙ zero_is) (ap (λ (x : View O A). x.split) same ∙ back) in
    subst (λ (t : S × View O A).
    (get_elem? xs 0 ≡ some (Some (replay next t.0 t.1.seen))) × IsLegal allows next t.0 t.1.seen × Accounts t.1)
    (λ i. (begun i, same i)) (f.4 0 (Some (replay next start v.seen)) e.0, e.1, e.2)

pub unwrap-machine-requires : goal.unwrap-machine-requires
unwrap-machine-requires g c =
    let h = at_home g.M.Machine.allows g.M.Machine.next g.M.Machine.dial_of _ _ _ _ _ _ _ _
    c.close_with-closed.ensures.values.2 c.pass.invariant.0 (ap (λ t. t.start) c.self.view_is)
    (ap (λ t. t.view) c.pass.view_is) c.requires.first c.requires.all_back in
    subst IsSome (some-injective _ _ (sym h.0 ∙ c.take.ensures.value)) refl

pub returns-clause-machine : goal.returns-clause-machine
returns-clause-machine g c =
    let h = at_home g.M.Machine.allows g.M.Machine.next g.M.Machine.dial_of _ _ _ _ _ _ _ _
    c.close_with-closed.ensures.values.2 c.pass.invariant.0 (ap (λ t. t.start) c.self.view_is)
    (ap (λ t. t.view) c.pass.view_is) c.requires.first c.requires.all_back in
    let both : Some (replay g.M.Machine.next c.args.self.start c.args.pass.view.seen) ≡ Some c.unwrap-machine.result =
    some-injective _ _ (sym h.0 ∙ c.take.ensures.value) ∙ c.unwrap-machine.ensures in
    cc

pub returns-clause-legal : goal.returns-clause-legal
returns-clause-legal g c =
    let h = at_home g.M.Machine.allows g.M.Machine.next g.M.Machine.dial_of _ _ _ _ _ _ _ _
    c.close_with-closed.ensures.values.2 c.pass.invariant.0 (ap (λ t. t.start) c.self.view_is)
    (ap (λ t. t.view) c.pass.view_is) c.requires.first c.requires.all_back in
    h.1

pub returns-clause-accounts : goal.returns-clause-accounts
returns-clause-accounts g c =
    let h = at_home g.M.Machine.allows g.M.Machine.next g.M.Machine.dial_of _ _ _ _ _ _ _ _
    c.close_with-closed.ensures.values.2 c.pass.invariant.0 (ap (λ t. t.start) c.self.view_is)
    (ap (λ t. t.view) c.pass.view_is) c.requires.first c.requires.all_back in
    h.2
