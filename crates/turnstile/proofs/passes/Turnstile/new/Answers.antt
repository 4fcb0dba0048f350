use Rattle.std.proofs.Common.{◌≡◌, ◌++◌, ℕ, List, [], ◌∷◌, Some, Option, sym, ap, subst, ◌∙◌, rules}
use Rattle.atomic_table.specs.Table.{opening}
use Rattle.turnstile.specs.View.{first_view}
use Rattle.turnstile.specs.Rule.{IsKept}
use Rattle.turnstile.proofs.Ends.{opens}
use Rattle.turnstile.proofs.passes.Turnstile.new.Goals as goal

-- the words are the opening ones, and the one slot has the machine
pub new-requires : goal.new-requires
new-requires g c =
    let w = c.in-Ok.ensures in
    let words : c.as_slice.result.now ≡ c.in-Ok.words.items = search rules in
    let Slots : Type 0 = List (Option g.row.M.Denot) in
    let slots : c.push.new.self.items ≡ Some c.of.result.value ∷ [] =
    c.in_default-push.ensures.items ∙ (ap (λ l. l ++ Some c.args.machine ∷ []) c.new-slots.ensures.items
    ∙ ap (λ m. let z : Slots = Some m ∷ [] in z) (sym c.of.ensures)) in
    let Opens : List ℕ × Slots → Type 0 = λ t. IsKept g.M.Machine.allows g.M.Machine.next g.M.Machine.dial_of
    c.of.result.value c.args.dials (opening t.0 t.1 (first_view c.args.dials)) in
    subst Opens (λ i. (sym words i, sym slots i))
    (opens g.M.Machine.allows g.M.Machine.next g.M.Machine.dial_of c.of.result.value c.args.dials c.in-Ok.words.items
    w.wide w.free w.empty w.next w.zeros (λ i h. ap (λ m. g.M.Machine.dial_of m i) c.of.ensures ∙ c.requires i h))
