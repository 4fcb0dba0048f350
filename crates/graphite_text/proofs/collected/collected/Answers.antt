use Rattle.std.proofs.Common.{sym, ◌∙◌, []}
use Rattle.graphite_text.specs.Wanted.{share_of}
use Rattle.graphite_text.proofs.Collecting.{none_taken, one_taken, rest_taken, parts_end, texts_end}
use Rattle.graphite_text.proofs.collected.collected.Goals as goal
use Rattle.graphite_text.proofs.collected.collected.Goals.{then-loop-i-test+else-i-segments, else-loop-i-test}

pub loop-i-preserved-in-Nothing : goal.loop-i-preserved-in-Nothing
loop-i-preserved-in-Nothing c =
    none_taken (share_of c.args.wanted.now) c.args.parts.now c.args.segments.now
    (record { ref_ptr = (0, 0); now = [] }) c.loop-i.i c.index-parts-i.result c.loop-i.texts.items c.loop-i-test.true
    c.if-i-segments.true c.index-parts-i.is
    (sym c.share_of.ensures ∙ c.in-Nothing.is) c.loop-i.invariant

pub loop-i-preserved : goal.loop-i-preserved
loop-i-preserved c =
    one_taken (share_of c.args.wanted.now) c.args.parts.now c.args.segments.now _ c.loop-i.i c.index-parts-i.result
    c.loop-i.texts.items c.push.new.self.items c.loop-i-test.true c.if-i-segments.true c.index-parts-i.is
    (sym c.share_of.ensures ∙ c.in-One.is) c.in_ok-push-in-One.ensures.items c.loop-i.invariant

pub returns-in-Rest : goal.returns-in-Rest
returns-in-Rest c =
    rest_taken (share_of c.args.wanted.now) c.args.parts.now c.args.segments.now
    (record { ref_ptr = (0, 0); now = [] }) c.loop-i.i c.index-parts-i.result c.loop-i.texts.items
    c.extend_from_slice.new.self.items c.loop-i-test.true c.if-i-segments.true c.index-parts-i.is
    (sym c.share_of.ensures ∙ c.in-Rest.is) c.in_ok-extend_from_slice-in-Rest.ensures.items c.loop-i.invariant

pub returns : goal.returns
returns c = elim c.loop-i-test.branch [
  | then-loop-i-test+else-i-segments w ↦ texts_end (share_of c.args.wanted.now) c.args.parts.now c.args.segments.now
      c.loop-i.texts.items c.loop-i.i w.if-i-segments.false c.loop-i.invariant
  | else-loop-i-test w ↦ parts_end (share_of c.args.wanted.now) c.args.parts.now c.args.segments.now
      c.loop-i.texts.items c.loop-i.i w.loop-i-test.false c.loop-i.invariant
]
