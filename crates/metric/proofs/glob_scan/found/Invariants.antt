use Rattle.std.proofs.Common.{◌≡◌, chars, length}
use Rattle.metric.specs.Glob.{matches}
use Rattle.metric.specs.GlobScan.{looking, answer, left, IsScan}
use Rattle.metric.proofs.glob_scan.found.Given as goal

abbrev pub invariant-loop-answer : goal.invariant-loop-answer
invariant-loop-answer l = record {
  scan : IsScan (length l.elements) (looking l.scan);
  same : answer (looking l.scan) ≡ matches l.elements (chars l.text);
}

abbrev pub decreases-loop-answer : goal.decreases-loop-answer
decreases-loop-answer l = left (length l.elements) (looking l.scan)
