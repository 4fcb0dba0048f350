use Rattle.std.proofs.Common.{length}
use Rattle.journal_reader.proofs.EachLemmas.{HasViews}
use Rattle.journal_reader.proofs.views.take_agg_views.Given as goal

abbrev pub invariant-loop-word : goal.invariant-loop-word
invariant-loop-word l = HasViews l.whole l.fn.words l.views l.words

abbrev pub decreases-loop-word : goal.decreases-loop-word
decreases-loop-word l = length l.words
