use Rattle.std.proofs.Common.{length}
use Rattle.journal_reader.specs.MetricReading.{pair_of}
use Rattle.journal_reader.proofs.EachLemmas.{HasRead}
use Rattle.journal_reader.proofs.metrics.pairs_of.Given as goal

abbrev pub invariant-loop-part : goal.invariant-loop-part
invariant-loop-part g l = HasRead (pair_of g.B.Behind.says) l.fn.parts l.pairs l.parts

abbrev pub decreases-loop-part : goal.decreases-loop-part
decreases-loop-part g l = length l.parts
