use Rattle.std.proofs.Common.{◌≡◌, ◌++◌, [], take}
use Rattle.account.specs.Items.{items}
use Rattle.journal_text.specs.JournalText.{entries_text}
use Rattle.journal_reader.proofs.write.append_entries.Given as goal

-- the items that the entries so far named, and their text
abbrev pub invariant-loop-e : goal.invariant-loop-e
invariant-loop-e l = record {
  known : l.known.items ≡ items (take l.e-index l.entries);
  text : l.out.items ≡ l.initial.out.items ++ entries_text [] (take l.e-index l.entries);
}
