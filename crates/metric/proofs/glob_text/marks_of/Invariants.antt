use denote.Shadow.{shadow}
use denote.Text.{Utf8}
use Rattle.std.proofs.Common.{◌≡◌, length}
use Rattle.std.specs.Prelude.{chars}
use Rattle.metric.specs.Glob.{marks_of}
use Rattle.metric.proofs.GlobTextLemmas.{in_front}
use Rattle.metric.proofs.glob_text.marks_of.Given as goal

abbrev pub invariant-loop-first : goal.invariant-loop-first
invariant-loop-first l = record {
  text : shadow (Utf8 l.rest);
  left : in_front l.marks.items (marks_of (chars l.rest)) ≡ marks_of (chars l.text);
}

abbrev pub decreases-loop-first : goal.decreases-loop-first
decreases-loop-first l = length (chars l.rest)
