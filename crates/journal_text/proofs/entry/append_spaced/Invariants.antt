use Rattle.std.proofs.Common.{◌≡◌, ◌++◌, take}
use Rattle.journal_text.specs.JournalText.{spaced}
use Rattle.journal_text.proofs.entry.append_spaced.Given as goal

abbrev pub invariant-loop-n : goal.invariant-loop-n
invariant-loop-n l = l.out.items ≡ l.initial.out.items ++ spaced (take l.n-index l.numbers)
