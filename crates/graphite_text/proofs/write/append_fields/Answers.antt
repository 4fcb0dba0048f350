use Rattle.text_parts.proofs.Adding.{extends_after, fails}
use Rattle.graphite_text.proofs.write.append_fields.Goals as goal

pub returns-in_err-append_field : goal.returns-in_err-append_field
returns-in_err-append_field c = fails _ _ _ _ c.from_residual.ensures.0
    (extends_after _ _ _ _ c.loop-field.invariant c.in_err-append_field.ensures)
