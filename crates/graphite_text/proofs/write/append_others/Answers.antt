use Rattle.text_parts.proofs.Adding.{extends_after, fails}
use Rattle.graphite_text.proofs.write.append_others.Goals as goal

pub returns-in_err-append_other : goal.returns-in_err-append_other
returns-in_err-append_other c = fails _ _ _ _ c.from_residual.ensures.0
    (extends_after _ _ _ _ c.loop-tag.invariant c.in_err-append_other.ensures)
