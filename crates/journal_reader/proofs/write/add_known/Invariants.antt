use Rattle.std.proofs.Common.{◌≡◌, ◌++◌, take}
use Rattle.journal_reader.proofs.write.add_known.Given as goal

abbrev pub invariant-loop-m : goal.invariant-loop-m
invariant-loop-m l = l.known.items ≡ l.initial.known.items ++ take l.m-index l.items
