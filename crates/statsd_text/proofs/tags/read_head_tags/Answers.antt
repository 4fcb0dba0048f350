use Rattle.std.proofs.lemmas.Result.{err_from_is_err_and}
use Rattle.statsd_text.specs.Tags.{head_tag}
use Rattle.statsd_text.specs.Views.{part_at}
use Rattle.statsd_text.proofs.PutTags.{nothing_put, put_more, put_fails, put_all}
use Rattle.statsd_text.proofs.tags.read_head_tags.Goals as goal

pub loop-part-init : goal.loop-part-init
loop-part-init c = nothing_put head_tag c.args.parts.now c.args.tags.now.entries c.requires.keyed

pub returns-in_err-key-clause-tags : goal.returns-in_err-key-clause-tags
returns-in_err-key-clause-tags c =
    let p = err_from_is_err_and c.from_residual.result c.from_residual.ensures.1 in
    rw (p.1, p.2) (put_fails head_tag c.args.parts.now c.args.tags.now.entries c.loop-part.tags.entries
    c.loop-part.parts (part_at c.in-Some.part) c.next.new.self c.in_err-key.field-0.0 c.loop-part.invariant
    c.in-Some.ensures.next c.in_err-key.ensures.gives)

pub loop-part-preserved : goal.loop-part-preserved
loop-part-preserved c =
    put_more head_tag c.args.parts.now c.args.tags.now.entries c.loop-part.tags.entries c.put_tag.new.tags.entries
    c.loop-part.parts (part_at c.in-Some.part) c.next.new.self c.in_ok-key.key.now c.in_ok-key.value.now
    c.loop-part.invariant c.in-Some.ensures.next c.in_ok-key.ensures.gives c.in_ok-key.ensures.filled
    c.in_ok-put_tag.ensures

pub returns-clause-tags : goal.returns-clause-tags
returns-clause-tags c =
    put_all head_tag c.args.parts.now c.args.tags.now.entries c.loop-part.tags.entries c.loop-part.parts
    c.loop-part.invariant c.in_default.ensures.next
