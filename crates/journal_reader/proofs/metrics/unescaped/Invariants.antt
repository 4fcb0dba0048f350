use Rattle.std.proofs.Common.{◌≡◌, ◌++◌, length}
use Rattle.journal_reader.specs.MetricReading.{unescaped}
use Rattle.journal_reader.proofs.metrics.unescaped.Given as goal

abbrev pub invariant-loop-first : goal.invariant-loop-first
invariant-loop-first l = l.text.items ++ unescaped l.rest ≡ unescaped l.written

abbrev pub decreases-loop-first : goal.decreases-loop-first
decreases-loop-first l = length l.rest
