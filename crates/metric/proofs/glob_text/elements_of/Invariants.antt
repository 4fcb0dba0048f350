use Rattle.std.proofs.Common.{◌≡◌, ◌≤◌, ◌-◌, length, drop}
use Rattle.metric.specs.Glob.{elements_of}
use Rattle.metric.proofs.GlobTextLemmas.{in_front}
use Rattle.metric.proofs.glob_text.elements_of.Given as goal

abbrev pub invariant-loop-at : goal.invariant-loop-at
invariant-loop-at l = record {
  within : l.at ≤ length l.marks;
  rest : in_front l.elements.items (elements_of (drop l.at l.marks)) ≡ elements_of l.marks;
}

abbrev pub decreases-loop-at : goal.decreases-loop-at
decreases-loop-at l = length l.marks - l.at
