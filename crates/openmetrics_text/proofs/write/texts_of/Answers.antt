use Rattle.openmetrics_text.specs.Writing.{points_of}
use Rattle.openmetrics_text.proofs.PutLemmas.{none_in, in_more, in_all}
use Rattle.openmetrics_text.proofs.write.texts_of.Goals as goal

pub loop-metric-init : goal.loop-metric-init
unfolding points_of
loop-metric-init c = none_in c.new-texts.result c.new-texts.ensures

pub loop-metric-preserved : goal.loop-metric-preserved
loop-metric-preserved c =
    in_more c.args.batch.now c.loop-metric.texts c.put_metric.new.texts c.loop-metric.metric-index c.metric-item.result
    c.loop-metric-test.true c.metric-item.is c.loop-metric.invariant c.in_ok-put_metric.ensures

pub returns : goal.returns
returns c = in_all c.args.batch.now c.loop-metric.texts c.loop-metric.metric-index c.loop-metric-test.false
    c.loop-metric.invariant
