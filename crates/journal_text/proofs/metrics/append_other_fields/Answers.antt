use Rattle.text_parts.proofs.Adding.{extends_after, fails}
use Rattle.journal_text.proofs.metrics.append_other_fields.Goals as goal

pub returns-in_err-append_byte : goal.returns-in_err-append_byte
returns-in_err-append_byte c =
    fails _ _ _ _ c.from_residual.ensures.0
    (extends_after _ _ _ _ c.loop-key.invariant c.in_err-append_byte.ensures)

pub returns-in_err-append_field : goal.returns-in_err-append_field
returns-in_err-append_field c =
    fails _ _ _ _ c.from_residual-in_err-append_field.ensures.0
    (extends_after _ _ _ _ c.loop-key.invariant (extends_after c.loop-key.out.items _ _ _ c.in_ok-append_byte.ensures
    c.in_err-append_field.ensures))
