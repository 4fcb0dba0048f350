use Rattle.std.proofs.Common.{sym}
use Rattle.metric.proofs.GlobTextLemmas.{marks_end}
use Rattle.metric.proofs.glob_text.marks_of.Goals as goal

pub returns : goal.returns
returns c = sym (marks_end _ _ _ c.loop-first.invariant.left c.in_default.ensures)
