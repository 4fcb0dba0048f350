use Rattle.text_parts.proofs.Adding.{extends_after, fails}
use Rattle.journal_text.proofs.entry.append_gather_line.Goals as goal

pub returns-in_err-append_signed : goal.returns-in_err-append_signed
returns-in_err-append_signed c =
    fails _ _ _ _ c.from_residual-in_err-append_signed.ensures.0
    (extends_after _ _ _ _ c.in_ok-append_unsigned.ensures c.in_err-append_signed.ensures)

pub returns-in_err-append_spaced : goal.returns-in_err-append_spaced
returns-in_err-append_spaced c =
    fails _ _ _ _ c.from_residual-in_err-append_spaced.ensures.0
    (extends_after _ _ _ _ c.in_ok-append_unsigned.ensures (extends_after c.append_unsigned.new.out.items _ _ _
    c.in_ok-append_signed.ensures c.in_err-append_spaced.ensures))

pub returns-in_err-append_group : goal.returns-in_err-append_group
returns-in_err-append_group c =
    fails _ _ _ _ c.from_residual-in_err-append_group.ensures.0
    (extends_after _ _ _ _ c.in_ok-append_unsigned.ensures (extends_after c.append_unsigned.new.out.items _ _ _
    c.in_ok-append_signed.ensures (extends_after c.append_signed.new.out.items _ _ _ c.in_ok-append_spaced.ensures
    c.in_err-append_group.ensures)))
