use Rattle.std.proofs.Common.{subst, chars, ◌↔◌, IsTrue}
use Rattle.metric.specs.Glob.{Matches}
use Rattle.metric.proofs.GlobLemmas.{tested}
use Rattle.metric.proofs.glob.Glob.matches.Goals as goal

pub returns-clause-meaning : goal.returns-clause-meaning
returns-clause-meaning c =
    subst (λ es. IsTrue c.found.result ↔ Matches es (chars c.args.text.now)) c.elements.ensures
    (tested _ _ _ c.found.ensures)
