use Rattle.std.proofs.lemmas.Result.{err_from_is_err_and}
use Rattle.text_parts.specs.Split.{parts_of}
use Rattle.text_parts.proofs.Each.{one_more, failed_read, all_read}
use Rattle.format_words.specs.Template.{template_part}
use Rattle.format_words.specs.Views.{part_at}
use Rattle.format_words.proofs.template_text.each_part.Goals as goal

pub returns-in_err-part : goal.returns-in_err-part
returns-in_err-part c =
    let p = err_from_is_err_and c.from_residual-in_err-part.result c.from_residual-in_err-part.ensures.1 in
    rw (p.1, p.2) (failed_read template_part (parts_of 46 (0, c.args.text.now)) c.loop-text.texts
    c.loop-text.parts.items (part_at c.in-Some.text) c.next.new.self c.in_err-part.field-0.0 c.loop-text.invariant
    c.in-Some.ensures.next c.in_err-part.ensures)

pub loop-text-preserved : goal.loop-text-preserved
loop-text-preserved c =
    rw c.in_ok-push.ensures.items
    (one_more template_part (parts_of 46 (0, c.args.text.now)) c.loop-text.texts c.loop-text.parts.items
    (part_at c.in-Some.text) c.next.new.self _ c.loop-text.invariant c.in-Some.ensures.next c.in_ok-part.ensures)

pub returns : goal.returns
returns c = all_read template_part (parts_of 46 (0, c.args.text.now)) c.loop-text.texts c.loop-text.parts.items
    c.loop-text.invariant c.in_default.ensures.next
