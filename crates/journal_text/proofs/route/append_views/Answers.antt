use Rattle.text_parts.proofs.Adding.{extends_after, fails}
use Rattle.journal_text.proofs.route.append_views.Goals as goal

pub returns-in_err-append_view : goal.returns-in_err-append_view
returns-in_err-append_view c =
    fails _ _ _ _ c.from_residual.ensures.0
    (extends_after _ _ _ _ c.loop-view.invariant c.in_err-append_view.ensures)
