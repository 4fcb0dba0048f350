use Rattle.std.proofs.Common.{◌≡◌, drop}
use Rattle.agent_workers.specs.Noted.{part_of}
use Rattle.agent_workers.proofs.NotedLemmas.{FirstOut}
use Rattle.agent_workers.proofs.journal.JournalJob.write_entries.Given as goal

abbrev pub invariant-loop-entry : goal.invariant-loop-entry
invariant-loop-entry g l = record {
  spelled : FirstOut l.entry-index l.fn.entries.items (part_of g.K.Sink.told l.fn.self)
      (part_of g.K.Sink.told l.self) l.fn.text.items l.text.items;
  behind : drop l.entry-index l.entry-items ≡ drop l.entry-index l.fn.entries.items;
}
