use Rattle.text_parts.proofs.Adding.{extends_after, fails}
use Rattle.line_proto.proofs.write.append_rest.Goals as goal

pub returns-in_err-append_next : goal.returns-in_err-append_next
returns-in_err-append_next c = fails _ _ _ _ c.from_residual.ensures.0
    (extends_after _ _ _ _ c.loop-field.invariant c.in_err-append_next.ensures)
