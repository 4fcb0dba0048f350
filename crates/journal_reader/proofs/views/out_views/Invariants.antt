use Rattle.std.proofs.Common.{length, Some}
use Rattle.journal_reader.specs.EntryReading.{view_of}
use Rattle.journal_reader.proofs.EachLemmas.{HasRead}
use Rattle.journal_reader.proofs.views.out_views.Given as goal

abbrev pub invariant-loop-word : goal.invariant-loop-word
invariant-loop-word l = HasRead (view_of (Some l.whole)) l.fn.words l.views l.words

abbrev pub decreases-loop-word : goal.decreases-loop-word
decreases-loop-word l = length l.words
