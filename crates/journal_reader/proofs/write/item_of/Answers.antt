use Rattle.std.proofs.Common.{◌≡◌, ℕ, ◌+◌, ◌-◌, take, drop, sym, ap, ◌∙◌, arith}
use Rattle.journal_text.specs.JournalText.{item_of}
use Rattle.journal_reader.proofs.ListLemmas.{one_known, none_known}
use Rattle.journal_reader.proofs.write.item_of.Goals as goal

pub returns-then-at-known : goal.returns-then-at-known
returns-then-at-known c =
    let one : c.in-Route.item + 1 - c.in-Route.item ≡ 1 = omega arith in
    ap (λ (n : ℕ). take n (drop c.in-Route.item c.args.known.now)) one
    ∙ one_known c.args.known.now c.in-Route.item c.if-at-known.true
    ∙ sym (ap (item_of c.args.known.now) c.in-Route.is)

pub returns-else-at-known : goal.returns-else-at-known
returns-else-at-known c =
    none_known c.args.known.now c.in-Route.item c.if-at-known.false ∙ sym (ap (item_of c.args.known.now) c.in-Route.is)
