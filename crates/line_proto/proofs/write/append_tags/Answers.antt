use Rattle.text_parts.proofs.Adding.{extends_after, fails}
use Rattle.line_proto.proofs.write.append_tags.Goals as goal

pub returns-in_err-append_tag : goal.returns-in_err-append_tag
returns-in_err-append_tag c = fails _ _ _ _ c.from_residual.ensures.0
    (extends_after _ _ _ _ c.loop-tag.invariant c.in_err-append_tag.ensures)
