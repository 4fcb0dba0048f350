use Rattle.std.proofs.Common.{map}
use Rattle.std.proofs.lemmas.Result.{err_from_is_err_and}
use Rattle.text_parts.specs.Split.{parts_of}
use Rattle.text_parts.proofs.Each.{one_more, failed_read, all_read}
use Rattle.format_words.specs.Segments.{segment}
use Rattle.format_words.specs.Views.{now_of, part_at}
use Rattle.format_words.proofs.Texts.{map_push}
use Rattle.format_words.proofs.segments.segments_of.Goals as goal

pub returns-in_err-text : goal.returns-in_err-text
returns-in_err-text c =
    let p = err_from_is_err_and c.from_residual-in_err-text.result c.from_residual-in_err-text.ensures.1 in
    rw (p.1, p.2) (failed_read segment (parts_of 46 (0, c.args.text.now)) c.loop-part.parts
    (map now_of c.loop-part.segments.items) (part_at c.in-Some.part) c.next.new.self c.in_err-text.field-0.0
    c.loop-part.invariant c.in-Some.ensures.next c.in_err-text.ensures)

pub loop-part-preserved : goal.loop-part-preserved
loop-part-preserved c =
    rw (c.in_ok-push.ensures.items, map_push now_of c.loop-part.segments.items c.in_ok-text.text)
    (one_more segment (parts_of 46 (0, c.args.text.now)) c.loop-part.parts (map now_of c.loop-part.segments.items)
    (part_at c.in-Some.part) c.next.new.self c.in_ok-text.text.now c.loop-part.invariant c.in-Some.ensures.next
    c.in_ok-text.ensures)

pub returns : goal.returns
returns c = all_read segment (parts_of 46 (0, c.args.text.now)) c.loop-part.parts
    (map now_of c.loop-part.segments.items) c.loop-part.invariant c.in_default.ensures.next
