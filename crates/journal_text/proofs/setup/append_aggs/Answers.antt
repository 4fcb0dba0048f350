use Rattle.text_parts.proofs.Adding.{extends_after, fails}
use Rattle.journal_text.proofs.setup.append_aggs.Goals as goal

pub returns-in_err-append_agg : goal.returns-in_err-append_agg
returns-in_err-append_agg c =
    fails _ _ _ _ c.from_residual.ensures.0 (extends_after _ _ _ _ c.loop-i.invariant c.in_err-append_agg.ensures)
