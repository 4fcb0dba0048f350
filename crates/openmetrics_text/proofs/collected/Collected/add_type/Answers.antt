use Rattle.std.proofs.Common.{◌≡◌, ◌∙◌, true, false, refl, sym}
use Rattle.openmetrics_text.specs.Types.{types_in}
use Rattle.openmetrics_text.proofs.SaidLemmas.{said_type}
use Rattle.openmetrics_text.proofs.collected.Collected.add_type.Goals as goal

never : true ≡ false → ⊥
never e = absurd cc

pub returns-then-self : goal.returns-then-self
returns-then-self c = λ lines moment typed h. said_type moment typed c.args.self.now _ lines c.args.name.now
    c.args.kind.now h (refl, refl) refl refl refl (λ e. c.in_ok-add.ensures (types_in lines) (h.types e))

pub returns : goal.returns
returns c = λ lines moment typed h. said_type moment typed c.args.self.now c.args.self.now lines c.args.name.now
    c.args.kind.now h (refl, refl) refl refl refl (λ e. absurd (never (sym e ∙ sym h.with_types ∙ c.if-self.false)))
