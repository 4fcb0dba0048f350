use Rattle.std.proofs.Common.{◌<◌, length, arith, sym, append-nil}
use Rattle.agent_workers.specs.Noted.{part_of}
use Rattle.agent_workers.proofs.NotedLemmas.{wrote, metric_goes}
use Rattle.agent_workers.proofs.journal.JournalJob.write_metrics.Goals as goal

pub loop-metric-init : goal.loop-metric-init
loop-metric-init g c = wrote (part_of g.K.Sink.told c.args.self.now) c.args.text.now.items _ c.args.text.now.items
    (sym (append-nil c.args.text.now.items))

pub loop-metric-preserved : goal.loop-metric-preserved
loop-metric-preserved g c =
    let lt : c.loop-metric.metric-index < length c.args.metrics.now =
    omega (arith, c.loop-metric-test.true, c.loop-metric.auto.metric-index-end) in
    metric_goes (part_of g.K.Sink.told c.args.self.now) (part_of g.K.Sink.told c.loop-metric.self)
    (part_of g.K.Sink.told c.put_full.new.self) c.args.metrics.now c.loop-metric.metric-index c.metric-item.result
    c.args.text.now.items c.loop-metric.text.items c.write_metric.new.out.items c.put_full.new.text.items lt
    c.metric-item.is c.loop-metric.invariant c.in_ok-write_metric.ensures.ok c.in_ok-put_full.ensures
