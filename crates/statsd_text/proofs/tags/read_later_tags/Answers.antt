use Rattle.std.proofs.Common.{◌≡◌, ◌∷◌, false, List, length, ap, refl, sym, ◌∙◌}
use Rattle.std.proofs.lemmas.Result.{err_from_is_err_and}
use Rattle.std.specs.Prelude.{◌==◌, filter}
use Rattle.text_parts.specs.Split.{PartAt, parts_of}
use Rattle.statsd_text.specs.Tags.{later_tag, later_tags, is_filled}
use Rattle.statsd_text.specs.Views.{part_at}
use Rattle.statsd_text.proofs.PutTags.{nothing_put, put_more, put_fails, put_all}
use Rattle.statsd_text.proofs.tags.read_later_tags.Goals as goal

-- the next part that isn't empty
filled_next : (left : List PartAt) (part : PartAt) (rest : List PartAt) → left ≡ part ∷ rest
    → (length part.1 == 0) ≡ false → filter is_filled left ≡ part ∷ filter is_filled rest
filled_next left part rest is some = rw (is, some) refl

pub loop-part-init : goal.loop-part-init
loop-part-init c =
    rw c.of-parts.ensures (nothing_put later_tag (filter is_filled (parts_of 44 (part_at c.args.text)))
    c.args.tags.now.entries c.requires.keyed)

pub returns-in_err-key-clause-tags : goal.returns-in_err-key-clause-tags
unfolding later_tags
returns-in_err-key-clause-tags c =
    let p = err_from_is_err_and c.from_residual.result c.from_residual.ensures.1 in
    let next = filled_next c.loop-part.parts (part_at c.in-Some.part) c.next.new.self c.in-Some.ensures.next
    (sym c.is_empty.ensures ∙ c.if-is_empty.false) in
    rw (p.1, p.2) (put_fails later_tag (filter is_filled (parts_of 44 (part_at c.args.text))) c.args.tags.now.entries
    c.loop-part.tags.entries (filter is_filled c.loop-part.parts) (part_at c.in-Some.part)
    (filter is_filled c.next.new.self) c.in_err-key.field-0.0 c.loop-part.invariant next c.in_err-key.ensures.gives)

pub loop-part-preserved : goal.loop-part-preserved
loop-part-preserved c =
    let next = filled_next c.loop-part.parts (part_at c.in-Some.part) c.next.new.self c.in-Some.ensures.next
    (sym c.is_empty.ensures ∙ c.if-is_empty.false) in
    put_more later_tag (filter is_filled (parts_of 44 (part_at c.args.text))) c.args.tags.now.entries
    c.loop-part.tags.entries c.put_tag.new.tags.entries (filter is_filled c.loop-part.parts) (part_at c.in-Some.part)
    (filter is_filled c.next.new.self) c.in_ok-key.key.now c.in_ok-key.value.now c.loop-part.invariant next
    c.in_ok-key.ensures.gives c.in_ok-key.ensures.filled c.in_ok-put_tag.ensures

pub returns-clause-tags : goal.returns-clause-tags
unfolding later_tags
returns-clause-tags c =
    put_all later_tag (filter is_filled (parts_of 44 (part_at c.args.text))) c.args.tags.now.entries
    c.loop-part.tags.entries (filter is_filled c.loop-part.parts) c.loop-part.invariant
    (ap (filter is_filled) c.in_default.ensures.next)
