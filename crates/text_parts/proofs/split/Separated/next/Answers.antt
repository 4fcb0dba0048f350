use Rattle.std.proofs.Common.{◌≡◌, ◌+◌, ℕ, List, Option, ◌∷◌, length, ap, sym, ◌∙◌, arith}
use Rattle.std.specs.Prelude.{option_map}
use Rattle.std.specs.Borrow.{Bor}
use Rattle.text_parts.specs.Parts.{parts_left}
use Rattle.text_parts.proofs.Splits.{next_part}
use Rattle.text_parts.proofs.split.Separated.next.Goals as goal

pub returns-clause-next : goal.returns-clause-next
returns-clause-next c =
    let separator : ℕ = c.self.inside.separator in
    let whole = sym c.self.view_is ∙ ap (λ (rest : Option (Bor (List ℕ))). parts_left c.self.inside.separator
    c.self.inside.offset (option_map (λ r. r.now) rest)) c.in_ok-text.was in
    let cut = next_part c.self.inside.separator c.self.inside.offset c.in_ok-text.text.now c.first_part.result.0.now
    (option_map (λ rest. rest.now) c.first_part.result.1) c.first_part.ensures.value in
    let offset : c.self.inside.offset + length c.first_part.result.0.now + 1 ≡ c.self.inside.offset +
    (length c.first_part.result.0.now + 1) = omega arith in
    whole ∙ cut ∙ ap (λ (n : ℕ). (c.self.inside.offset, c.first_part.result.0.now) ∷ parts_left c.self.inside.separator
    n (option_map (λ rest. rest.now) c.first_part.result.1)) offset

pub returns-clause-end : goal.returns-clause-end
returns-clause-end c =
    let whole = sym c.self.view_is ∙ ap (λ (rest : Option (Bor (List ℕ))). parts_left c.self.inside.separator
    c.self.inside.offset (option_map (λ r. r.now) rest)) c.in_ok-text.was in
    let cut = next_part c.self.inside.separator c.self.inside.offset c.in_ok-text.text.now c.first_part.result.0.now
    (option_map (λ rest. rest.now) c.first_part.result.1) c.first_part.ensures.value in
    let offset : c.self.inside.offset + length c.first_part.result.0.now + 1 ≡ c.self.inside.offset +
    (length c.first_part.result.0.now + 1) = omega arith in
    let next = whole ∙ cut ∙ ap (λ (n : ℕ). (c.self.inside.offset, c.first_part.result.0.now) ∷ parts_left
    c.self.inside.separator n (option_map (λ rest. rest.now) c.first_part.result.1)) offset in
    omega (arith, ap length next)
