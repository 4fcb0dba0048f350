use Rattle.openmetrics_text.specs.Writing.{points_of_field}
use Rattle.openmetrics_text.proofs.PutLemmas.{puts_none, puts_at, put_more, put_all}
use Rattle.openmetrics_text.proofs.write.put_fields.Goals as goal

pub loop-field-init : goal.loop-field-init
loop-field-init c = puts_none c.args.texts.now

pub put_field-requires-clause-series : goal.put_field-requires-clause-series
put_field-requires-clause-series c = puts_at c.args.texts.now c.loop-field.texts _ c.args.series.now.extent _
    c.loop-field.invariant c.requires.series

pub loop-field-preserved : goal.loop-field-preserved
loop-field-preserved c =
    put_more (points_of_field c.args.metric.now) c.args.texts.now c.args.fields.now c.loop-field.texts
    c.put_field.new.texts c.loop-field.field-index c.field-item.result c.loop-field-test.true c.field-item.is
    c.loop-field.invariant c.in_ok-put_field.ensures

pub returns : goal.returns
returns c = put_all (points_of_field c.args.metric.now) c.args.texts.now c.args.fields.now c.loop-field.texts
    c.loop-field.field-index c.loop-field-test.false c.loop-field.invariant
