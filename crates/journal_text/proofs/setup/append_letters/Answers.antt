use Rattle.text_parts.proofs.Adding.{extends_after, fails}
use Rattle.journal_text.proofs.setup.append_letters.Goals as goal

pub returns-in_err-append_letter-4 : goal.returns-in_err-append_letter-4
returns-in_err-append_letter-4 c =
    fails _ _ _ _ c.from_residual-in_err-append_letter-4.ensures.0
    (extends_after _ _ _ _ c.in_ok-append_letter.ensures (extends_after c.append_letter.new.out.items _ _ _
    c.in_ok-append_letter-2.ensures (extends_after c.append_letter-2.new.out.items _ _ _ c.in_ok-append_letter-3.ensures
    c.in_err-append_letter-4.ensures)))
