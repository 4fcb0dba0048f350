use Rattle.agent_workers.specs.Noted.{part_of}
use Rattle.agent_workers.proofs.NotedLemmas.{entry_goes}
use Rattle.agent_workers.proofs.journal.JournalJob.write_lines.Goals as goal

pub returns : goal.returns
returns g c =
    entry_goes c.args.known c.args.item.now c.named_by.result.now c.args.entry.now
    (part_of g.K.Sink.told c.args.self.now)
    (part_of g.K.Sink.told c.write_metrics.new.self) (part_of g.K.Sink.told c.put_full.new.self)
    c.args.text.now.items c.write_head.new.out.items c.write_metrics.new.text.items c.write_reports.new.out.items
    c.put_full.new.text.items c.named_by.ensures c.in_ok-write_head.ensures.ok c.in_ok-write_metrics.ensures
    c.in_ok-write_reports.ensures.ok c.in_ok-put_full.ensures
