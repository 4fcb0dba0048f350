use Rattle.agent_workers.specs.Noted.{part_of}
use Rattle.agent_workers.proofs.NotedLemmas.{notes_more}
use Rattle.agent_workers.proofs.journal.JournalJob.take.Goals as goal

pub returns : goal.returns
returns g c =
    notes_more c.args.entries.items (part_of g.K.Sink.told c.args.self.now) (part_of g.K.Sink.told c.spell.new.self)
    (part_of g.K.Sink.told c.put_text.new.self)
    c.spell.new.text.items c.put_text.new.text.items c.requires.some c.in_ok-spell.ensures c.in_ok-put_text.ensures.goes
    c.in_ok-put_text.ensures.all
