use Rattle.agent_workers.specs.Noted.{part_of}
use Rattle.agent_workers.proofs.NotedLemmas.{ends_noted}
use Rattle.agent_workers.proofs.journal.JournalJob.«end».Goals as goal

pub returns : goal.returns
returns g c =
    ends_noted c.args.entries.items c.args.account.now (part_of g.K.Sink.told c.args.self.now)
    (part_of g.K.Sink.told c.spell.new.self) (part_of g.K.Sink.told c.put_text.new.self)
    c.spell.new.text.items c.write_end.new.out.items c.put_text.new.text.items c.in_ok-spell.ensures
    c.in_ok-write_end.ensures.ok c.in_ok-put_text.ensures.goes c.in_ok-put_text.ensures.all
