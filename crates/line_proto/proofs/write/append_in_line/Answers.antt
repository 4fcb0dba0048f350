use Rattle.std.proofs.Common.{sym, ap, ◌∙◌, ◌++◌, List, ℕ}
use Rattle.text_parts.specs.Escaped.{escaped}
use Rattle.text_parts.specs.Marks.{escapes_of}
use Rattle.text_parts.proofs.Adding.{extends_after, fails}
use Rattle.line_proto.proofs.WriteLemmas.{same_line, all_written}
use Rattle.line_proto.proofs.write.append_in_line.Goals as goal

pub returns-then-is_one_line : goal.returns-then-is_one_line
returns-then-is_one_line c =
    c.in_ok-append_escaped.ensures ∙ ap (λ (text : List ℕ). c.args.out.now.items
    ++ escaped (escapes_of c.args.marks.now) text) (sym (same_line _
    (sym c.is_one_line.ensures ∙ c.if-is_one_line.true)))

pub returns-in_err-append_escaped_byte : goal.returns-in_err-append_escaped_byte
returns-in_err-append_escaped_byte c = fails _ _ _ _ c.from_residual-in_err-append_escaped_byte.ensures.0
    (extends_after _ _ _ _ c.loop-byte.invariant c.in_err-append_escaped_byte.ensures)

pub returns : goal.returns
returns c = all_written _ _ (escapes_of c.args.marks.now) _ _ c.loop-byte-test.false c.loop-byte.invariant
