use Rattle.agent_workers.specs.Noted.{part_of}
use Rattle.agent_workers.proofs.NotedLemmas.{put_whole}
use Rattle.agent_workers.proofs.journal.JournalJob.put_text.Goals as goal

pub returns-clause-goes : goal.returns-clause-goes
returns-clause-goes g c =
    put_whole (part_of g.K.Sink.told c.args.self.now) c.in_ok-self.field-0 (g.K.Sink.told c.put_part.new.sink).bytes
    (g.K.Sink.told c.put_part.new.sink).faults c.as_slice.result.now c.args.text.now.items c.empty.new.text.items
    c.as_slice.ensures.value c.empty.ensures c.in_ok-self.ensures
