use Rattle.std.proofs.Common.{◌≡◌, ℕ, List, Option, length, ap, sym, ◌∙◌, arith}
use Rattle.std.specs.Prelude.{option_map}
use Rattle.std.specs.Borrow.{Bor}
use Rattle.journal_reader.specs.Words.{parts_left}
use Rattle.journal_reader.proofs.PartLemmas.{next_is}
use Rattle.journal_reader.proofs.parts.Parts.next.Goals as goal

pub returns-clause-next : goal.returns-clause-next
returns-clause-next c =
    sym c.self.view_is
    ∙ ap (λ (rest : Option (Bor (List ℕ))). parts_left c.self.inside.separator (option_map (λ r. r.now) rest))
    c.in_ok-text.was
    ∙ next_is c.self.inside.separator c.in_ok-text.text.now c.first_part.result.0.now
    (option_map (λ rest. rest.now) c.first_part.result.1) c.first_part.ensures.value

pub returns-clause-end : goal.returns-clause-end
returns-clause-end c =
    let next = sym c.self.view_is
    ∙ ap (λ (rest : Option (Bor (List ℕ))). parts_left c.self.inside.separator (option_map (λ r. r.now) rest))
    c.in_ok-text.was
    ∙ next_is c.self.inside.separator c.in_ok-text.text.now c.first_part.result.0.now
    (option_map (λ rest. rest.now) c.first_part.result.1) c.first_part.ensures.value in
    omega (arith, ap length next)
