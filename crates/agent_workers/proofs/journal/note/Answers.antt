use Rattle.std.proofs.Common.{List, subst}
use Rattle.account.specs.declared.entry.Entry.{Entry}
use Rattle.agent_workers.specs.Noted.{part_of, NotesOn}
use Rattle.agent_workers.proofs.ProgressLemmas.{went_cut}
use Rattle.agent_workers.proofs.StandingLemmas.{cut_whole}
use Rattle.agent_workers.proofs.journal.note.Goals as goal

pub take-requires-clause-whole : goal.take-requires-clause-whole
take-requires-clause-whole g c = cut_whole c.args.core.now c.in-Ok.entries.items c.in-Ok.ensures.ok.0
    c.requires.rests.stands

pub returns-in_ok-take-in-Ok-clause-notes : goal.returns-in_ok-take-in-Ok-clause-notes
returns-in_ok-take-in-Ok-clause-notes g c = λ start now w.
    went_cut start c.args.core.now c.cut.new.self (part_of g.K.Sink.told c.args.journal.now)
    (part_of g.K.Sink.told c.take.new.self) now
    c.cut.ensures.stands c.in-Ok.ensures.ok.1
    (subst (λ (es : List Entry). NotesOn es (part_of g.K.Sink.told c.args.journal.now)
    (part_of g.K.Sink.told c.take.new.self)) c.in-Ok.ensures.ok.0 c.in_ok-take-in-Ok.ensures) w
