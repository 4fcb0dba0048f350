use Rattle.std.proofs.Common.{◌≡◌, ◌++◌, length}
use Rattle.text_parts.specs.Adds.{Extends}
use Rattle.journal_text.specs.MetricText.{escaped}
use Rattle.journal_text.proofs.metrics.append_escaped.Given as goal

abbrev pub invariant-loop-b : goal.invariant-loop-b
invariant-loop-b l = record {
  done : l.out.items ++ escaped l.rest ≡ l.initial.out.items ++ escaped l.bytes;
  kept : Extends l.initial.out.items l.out.items;
}

abbrev pub decreases-loop-b : goal.decreases-loop-b
decreases-loop-b l = length l.rest
