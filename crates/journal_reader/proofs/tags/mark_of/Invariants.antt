use Rattle.std.proofs.Common.{◌≡◌, drop}
use Rattle.std.specs.List.{fold}
use Rattle.journal_reader.specs.KeyMarks.{marked, mark_of}
use Rattle.journal_reader.proofs.tags.mark_of.Given as goal

-- the mark of the key, from here on
abbrev pub invariant-loop-byte : goal.invariant-loop-byte
invariant-loop-byte l = fold marked l.mark (drop l.byte-index l.byte-items) ≡ mark_of l.key
