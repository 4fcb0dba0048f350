use Rattle.std.proofs.Common.{arith, refl, sym}
use Rattle.metric.specs.Glob.{elements_of}
use Rattle.metric.proofs.GlobTextLemmas.{is_all}
use Rattle.metric.proofs.glob_text.elements_of.Goals as goal

pub returns : goal.returns
unfolding elements_of
returns c =
    sym (is_all elements_of c.args.marks.now c.loop-at.at _ c.loop-at.invariant.rest (omega arith) refl)
