use Rattle.std.proofs.lemmas.Result.{err_from_is_err_and}
use Rattle.text_parts.specs.Split.{parts_of}
use Rattle.text_parts.proofs.Each.{one_more, failed_read, all_read}
use Rattle.statsd_text.specs.Said.{part_of}
use Rattle.statsd_text.specs.Views.{part_at}
use Rattle.statsd_text.proofs.said.read_parts.Goals as goal

pub returns-in_err-part_of : goal.returns-in_err-part_of
returns-in_err-part_of c =
    let p = err_from_is_err_and c.from_residual.result c.from_residual.ensures.1 in
    rw (p.1, p.2) (failed_read part_of (parts_of 58 (part_at c.args.text)) c.loop-part.parts c.loop-part.said
    (part_at c.in-Some.part) c.next.new.self c.in_err-part_of.field-0.0 c.loop-part.invariant c.in-Some.ensures.next
    c.in_err-part_of.ensures)

pub loop-part-preserved : goal.loop-part-preserved
loop-part-preserved c =
    rw c.in_ok-push.ensures.ok
    (one_more part_of (parts_of 58 (part_at c.args.text)) c.loop-part.parts c.loop-part.said
    (part_at c.in-Some.part) c.next.new.self _ c.loop-part.invariant c.in-Some.ensures.next c.in_ok-part_of.ensures)

pub returns : goal.returns
returns c = all_read part_of (parts_of 58 (part_at c.args.text)) c.loop-part.parts c.loop-part.said
    c.loop-part.invariant c.in_default.ensures.next
