use Rattle.std.proofs.Common.{sym, ◌∙◌, [], rules}
use Rattle.graphite_text.specs.Wanted.{share_of}
use Rattle.graphite_text.proofs.Taking.{taking_none, taking_one, taking_rest, taking_parts, taking_texts}
use Rattle.graphite_text.proofs.collected.taken_of.Goals as goal

pub loop-i-preserved-in-Nothing : goal.loop-i-preserved-in-Nothing
loop-i-preserved-in-Nothing c =
    taking_none (share_of c.args.wanted.now) c.args.parts.now c.args.segments.now c.loop-i.i c.index-parts-i.result
    c.loop-i.taken c.loop-i-test.true c.if-i-segments.true c.index-parts-i.is
    (sym c.share_of.ensures ∙ c.in-Nothing.is) c.loop-i.invariant

pub loop-i-preserved : goal.loop-i-preserved
loop-i-preserved c =
    taking_one (share_of c.args.wanted.now) c.args.parts.now c.args.segments.now
    (record { ref_ptr = (0, 0); now = [] }) c.loop-i.i c.index-parts-i.result c.loop-i.taken c.with_one-taken.result
    c.loop-i-test.true c.if-i-segments.true c.index-parts-i.is
    (sym c.share_of.ensures ∙ c.in-One.is) c.with_one-taken.ensures c.loop-i.invariant

pub returns-in-Rest : goal.returns-in-Rest
returns-in-Rest c =
    taking_rest (share_of c.args.wanted.now) c.args.parts.now c.args.segments.now _ c.loop-i.i c.index-parts-i.result
    c.loop-i.taken c.with_rest.result c.loop-i-test.true c.if-i-segments.true c.index-parts-i.is
    (sym c.share_of.ensures ∙ c.in-Rest.is) (search rules) c.with_rest.ensures c.loop-i.invariant

pub returns-else-i-segments : goal.returns-else-i-segments
returns-else-i-segments c = taking_texts (share_of c.args.wanted.now) c.args.parts.now c.args.segments.now c.loop-i.i
    c.loop-i.taken c.if-i-segments.false c.loop-i.invariant

pub returns-after-loop-i : goal.returns-after-loop-i
returns-after-loop-i c = taking_parts (share_of c.args.wanted.now) c.args.parts.now c.args.segments.now c.loop-i.i
    c.loop-i.taken c.loop-i-test.false c.loop-i.invariant
