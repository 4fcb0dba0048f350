use Rattle.std.proofs.Common.{◌∙◌, true, false, sym}
use Rattle.openmetrics_text.proofs.LabelLemmas.{label_twice, label_once, labels_end, among}
use Rattle.openmetrics_text.proofs.labels.few_have_twice.Goals as goal

pub returns-then-is_among : goal.returns-then-is_among
returns-then-is_among c =
    let labels = c.args.labels.now in
    let label = c.index-labels-i.result in
    sym (label_twice labels c.loop-i.i label c.loop-i-test.true c.index-labels-i.is
    (among labels c.loop-i.i label.name.now true (sym c.if-is_among.true ∙ c.is_among.ensures))) ∙ c.loop-i.invariant

pub loop-i-preserved : goal.loop-i-preserved
loop-i-preserved c =
    let labels = c.args.labels.now in
    let label = c.index-labels-i.result in
    label_once labels c.loop-i.i label c.loop-i-test.true c.index-labels-i.is
    (among labels c.loop-i.i label.name.now false (sym c.if-is_among.false ∙ c.is_among.ensures)) ∙ c.loop-i.invariant

pub returns : goal.returns
returns c = sym (labels_end c.args.labels.now c.loop-i.i c.loop-i-test.false) ∙ c.loop-i.invariant
