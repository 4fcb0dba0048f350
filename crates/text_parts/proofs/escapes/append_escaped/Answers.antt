use Rattle.std.proofs.Common.{sym, ap, ◌∙◌, ◌++◌}
use Rattle.text_parts.specs.Marks.{escapes_of}
use Rattle.text_parts.proofs.Escaping.{unmarked_text, all_written}
use Rattle.text_parts.proofs.Adding.{extends_after, fails}
use Rattle.text_parts.proofs.escapes.append_escaped.Goals as goal

pub returns-then-are_none_of : goal.returns-then-are_none_of
returns-then-are_none_of c =
    c.in_ok-append_bytes.ensures ∙ ap (λ text. c.args.out.now.items ++ text)
    (sym (unmarked_text (escapes_of c.args.marks.now) _ (sym c.are_none_of.ensures ∙ c.if-are_none_of.true)))

pub returns-in_err-append_escaped_byte : goal.returns-in_err-append_escaped_byte
returns-in_err-append_escaped_byte c = fails _ _ _ _ c.from_residual-in_err-append_escaped_byte.ensures.0
    (extends_after _ _ _ _ c.loop-byte.invariant c.in_err-append_escaped_byte.ensures)

pub returns : goal.returns
returns c = all_written _ _ (escapes_of c.args.marks.now) _ _ c.loop-byte-test.false c.loop-byte.invariant
