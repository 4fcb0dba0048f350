use Rattle.std.proofs.Common.{map}
use Rattle.std.proofs.lemmas.Result.{err_from_is_err_and}
use Rattle.text_parts.specs.Split.{parts_of}
use Rattle.text_parts.proofs.Each.{one_more, failed_read, all_read}
use Rattle.format_words.specs.Segments.{pair}
use Rattle.format_words.specs.Views.{tag_view, part_at}
use Rattle.format_words.proofs.Texts.{map_push}
use Rattle.format_words.proofs.segments.read_pairs.Goals as goal

pub returns-in_err-tag : goal.returns-in_err-tag
returns-in_err-tag c =
    let p = err_from_is_err_and c.from_residual-in_err-tag.result c.from_residual-in_err-tag.ensures.1 in
    rw (p.1, p.2) (failed_read pair (parts_of c.args.separator (0, c.args.text.now)) c.loop-part.parts
    (map tag_view c.loop-part.pairs.items) (part_at c.in-Some.part) c.next.new.self c.in_err-tag.field-0.0
    c.loop-part.invariant c.in-Some.ensures.next c.in_err-tag.ensures)

pub loop-part-preserved : goal.loop-part-preserved
loop-part-preserved c =
    rw (c.in_ok-push.ensures.items, map_push tag_view c.loop-part.pairs.items c.in_ok-tag.tag)
    (one_more pair (parts_of c.args.separator (0, c.args.text.now)) c.loop-part.parts
    (map tag_view c.loop-part.pairs.items) (part_at c.in-Some.part) c.next.new.self
    (tag_view c.in_ok-tag.tag) c.loop-part.invariant c.in-Some.ensures.next c.in_ok-tag.ensures)

pub returns : goal.returns
returns c = all_read pair (parts_of c.args.separator (0, c.args.text.now)) c.loop-part.parts
    (map tag_view c.loop-part.pairs.items) c.loop-part.invariant c.in_default.ensures.next
